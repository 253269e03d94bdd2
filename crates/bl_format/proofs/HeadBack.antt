-- A head that is written is read again: the fields of `head_written` are those that `head_in` finds, whatever
-- follows them.
use Rattle.std.proofs.Common.{◌≡◌, ℕ, ◌+◌, ◌^◌, ◌<◌, List, ◌++◌, length, take, ap, ◌∙◌, append_assoc, arith}
use Rattle.std.proofs.lemmas.List.{take_at, drop_at, length-append}
use Rattle.bl_num.specs.declared.number.Order.{Order}
use Rattle.bl_num.specs.Numbers.{bytes_of, pointer_bytes}
use Rattle.bl_num.proofs.BytesOf.{length-bytes_of, number_of-bytes_of}
use Rattle.bl_format.specs.declared.file.Header.{Header}
use Rattle.bl_format.specs.declared.file.Head.{Head}
use Rattle.bl_format.specs.Words.{number_at}
use Rattle.bl_format.specs.Blocks.{head_in, head_written, code_meant, code_written}

-- a number behind some bytes is read at its place
pub number_at-bytes_of : (order : Order) (n v at : ℕ) (front rest b : List ℕ)
    → b ≡ front ++ (bytes_of order n v ++ rest) → length front ≡ at → v < 256 ^ n
    → number_at order b at n ≡ v
number_at-bytes_of order n v at front rest b e len lt =
    rw (e, drop_at front (bytes_of order n v ++ rest) at len) (number_of-bytes_of order n v rest lt)

-- the numbers of a head fit its fields
pub record NumbersFit (h : Header) (x : Head) : Type 0 where
  pub len : x.len < 256 ^ 4
  pub address : x.address < 256 ^ pointer_bytes h.width
  pub index : x.index < 256 ^ 4
  pub count : x.count < 256 ^ 4

-- four bytes that mean a head's code, and its numbers behind them, are read as that head
pub head_in-fields : (h : Header) (x : Head) (code rest : List ℕ)
    → length code ≡ 4 → code_meant code ≡ x.code → NumbersFit h x
    → head_in h (code ++ bytes_of h.order 4 x.len ++ bytes_of h.order (pointer_bytes h.width) x.address
    ++ bytes_of h.order 4 x.index ++ bytes_of h.order 4 x.count ++ rest) x.at ≡ x
unfolding head_in
head_in-fields h x code rest four means fits =
    let w = pointer_bytes h.width in
    let a = bytes_of h.order 4 x.len in
    let b = bytes_of h.order w x.address in
    let c = bytes_of h.order 4 x.index in
    let d = bytes_of h.order 4 x.count in
    let text : List ℕ = code ++ a ++ b ++ c ++ d ++ rest in
    let la = length-bytes_of h.order 4 x.len in
    let lb = length-bytes_of h.order w x.address in
    let lc = length-bytes_of h.order 4 x.index in
    let tail : List ℕ = a ++ (b ++ (c ++ (d ++ rest))) in
    let grouped : text ≡ code ++ tail = simp append_assoc in
    let code-is : code_meant (take 4 text) ≡ x.code =
    ap (λ (t : List ℕ). code_meant (take 4 t)) grouped ∙ ap code_meant (take_at code tail 4 four) ∙ means in
    let at-8 : length (code ++ a) ≡ 8 = omega (arith, length-append code a, four, la) in
    let at-8w : length (code ++ a ++ b) ≡ 8 + w = omega (arith, length-append (code ++ a) b, at-8, lb) in
    let at-12w : length (code ++ a ++ b ++ c) ≡ 12 + w = omega (arith, length-append (code ++ a ++ b) c, at-8w, lc) in
    let len-is : number_at h.order text 4 4 ≡ x.len =
    number_at-bytes_of h.order 4 x.len 4 code (b ++ (c ++ (d ++ rest))) text (simp append_assoc) four fits.len in
    let address-is : number_at h.order text 8 w ≡ x.address =
    number_at-bytes_of h.order w x.address 8 (code ++ a) (c ++ (d ++ rest)) text (simp append_assoc) at-8 fits.address in
    let index-is : number_at h.order text (8 + w) 4 ≡ x.index =
    number_at-bytes_of h.order 4 x.index (8 + w) (code ++ a ++ b) (d ++ rest) text (simp append_assoc) at-8w fits.index in
    let count-is : number_at h.order text (12 + w) 4 ≡ x.count =
    number_at-bytes_of h.order 4 x.count (12 + w) (code ++ a ++ b ++ c) rest text (simp append_assoc) at-12w fits.count in
    λ i. record { code = code-is i; len = len-is i; address = address-is i; index = index-is i; count = count-is i; at = x.at }

-- a head that can be written: its code reads back, and its numbers fit
pub record HeadFits (h : Header) (x : Head) : Type 0 where
  pub code_len : length (code_written h.order x.code) ≡ 4
  pub code : code_meant (code_written h.order x.code) ≡ x.code
  pub len : x.len < 256 ^ 4
  pub address : x.address < 256 ^ pointer_bytes h.width
  pub index : x.index < 256 ^ 4
  pub count : x.count < 256 ^ 4

-- a head that is written is read again
pub head_in-head_written : (h : Header) (x : Head) (rest : List ℕ)
    → HeadFits h x → head_in h (head_written h x ++ rest) x.at ≡ x
unfolding head_written
head_in-head_written h x rest fits =
    let numbers : NumbersFit h x = record { len = fits.len; address = fits.address; index = fits.index; count = fits.count } in
    head_in-fields h x (code_written h.order x.code) rest fits.code_len fits.code numbers
