-- Where a head was written, and its payload fits behind it, that block begins.
use Rattle.std.proofs.Common.{◌≡◌, ℕ, ◌+◌, ◌^◌, ◌≤◌, ◌<◌, Bool, true, false, List, [], ◌∷◌, ◌++◌, length, take, Ok, codes, refl, sym, ap, subst, ◌∙◌, append_assoc, ◌==◌, arith}
use Rattle.std.proofs.lemmas.Bool.{le-ltb, lt-leb, eqb-true}
use Rattle.std.proofs.lemmas.List.{take_at}
use Rattle.std.specs.Prelude.{nat_lt}
use Rattle.std.specs.Str.{bytes_eq}
use Rattle.bl_num.specs.declared.number.Order.{Order}
use Rattle.bl_num.specs.declared.number.Order.TheVariants.{Little, Big}
use Rattle.bl_num.specs.Numbers.{bytes_of, pointer_bytes}
use Rattle.bl_format.specs.declared.file.Header.{Header}
use Rattle.bl_format.specs.declared.file.Head.{Head}
use Rattle.bl_format.specs.declared.file.Step.TheVariants.{Block}
use Rattle.bl_format.specs.Blocks.{head_size, head_in, head_written, code_meant, code_written, is_negative, step_in}
use Rattle.bl_format.proofs.HeadBack.{HeadFits, head_in-head_written}
use Rattle.bl_format.proofs.BlocksOf.{four_bytes}

-- a code as it is written: its four bytes mean the code, and aren't `ENDB` where the code isn't
pub record IsCodeWritten (code text : List ℕ) : Type 0 where
  pub length : length text ≡ 4
  pub meant : code_meant text ≡ code
  pub no_end : bytes_eq code (codes "ENDB") ≡ false → bytes_eq text (codes "ENDB") ≡ false

big_cases : (p q r s : ℕ) (x y z w : Bool) → (p == 0) ≡ x → (q == 0) ≡ y → (r == 0) ≡ z → (s == 0) ≡ w → code_meant (p ∷ q ∷ r ∷ s ∷ []) ≡ p ∷ q ∷ r ∷ s ∷ [] → IsCodeWritten (p ∷ q ∷ r ∷ s ∷ []) (code_written Big (p ∷ q ∷ r ∷ s ∷ []))
big_cases p q r s true y z w ep eq er es meant = rw ep (record { length = refl; meant = meant; no_end = λ e. e })
big_cases p q r s false true z w ep eq er es meant = rw (ep, eq) (record { length = refl; meant = meant; no_end = λ e. e })
big_cases p q r s false false false w ep eq er es meant = rw (ep, eq, er) (record { length = refl; meant = meant; no_end = λ e. e })
big_cases p q r s false false true false ep eq er es meant = rw (ep, eq, er, es) (record { length = refl; meant = meant; no_end = λ e. e })
big_cases p q r s false false true true ep eq er es meant =
    let third : r ≡ 0 = eqb-true r 0 er in
    let fourth : s ≡ 0 = eqb-true s 0 es in
    let back : code_meant (0 ∷ 0 ∷ p ∷ q ∷ []) ≡ p ∷ q ∷ 0 ∷ 0 ∷ [] = rw (ep, eq) refl in
    let same : p ∷ q ∷ 0 ∷ 0 ∷ [] ≡ p ∷ q ∷ r ∷ s ∷ [] = cc in
    rw (ep, eq, er, es) (record { length = refl; meant = back ∙ same; no_end = λ e. refl })

pub code_written_back : (order : Order) (code : List ℕ) → length code ≡ 4 → code_meant code ≡ code → IsCodeWritten code (code_written order code)
code_written_back Little code len meant = record { length = len; meant = meant; no_end = λ e. e }
code_written_back Big code len meant =
    let f = four_bytes code len in
    subst (λ (d : List ℕ). IsCodeWritten d (code_written Big d)) (sym f.4)
    (big_cases f.0 f.1 f.2 f.3 (f.0 == 0) (f.1 == 0) (f.2 == 0) (f.3 == 0) refl refl refl refl (subst (λ (d : List ℕ). code_meant d ≡ d) f.4 meant))

-- a head that can be written and read again
pub record IsWritable (h : Header) (x : Head) : Type 0 where
  pub code_len : length x.code ≡ 4
  pub code : code_meant x.code ≡ x.code
  pub len : x.len < 2 ^ 31
  pub address : x.address < 256 ^ pointer_bytes h.width
  pub index : x.index < 2 ^ 31
  pub count : x.count < 2 ^ 31

-- the same head at another place
abbrev pub moved : Head → ℕ → Head
moved x at = record x { at = at }

pub step_back : (h : Header) (x : Head) → IsWritable h x → bytes_eq x.code (codes "ENDB") ≡ false → (at size : ℕ) (rest : List ℕ) → at + head_size h + x.len ≤ size → step_in h (head_written h x ++ rest) at size ≡ Ok (Block (moved x at))
unfolding step_in head_written
step_back h x fits no_end at size rest inside =
    let y = moved x at in
    let spelled : List ℕ = head_written h x ++ rest in
    let code = code_written_back h.order x.code fits.code_len fits.code in
    let head-fits : HeadFits h y = record { code_len = code.length; code = code.meant; len = let l = fits.len in omega arith; address = fits.address; index = let l = fits.index in omega arith; count = let l = fits.count in omega arith } in
    let head-is : head_in h spelled at ≡ y = head_in-head_written h y rest head-fits in
    let numbers : List ℕ = bytes_of h.order 4 x.len ++ (bytes_of h.order (pointer_bytes h.width) x.address ++ (bytes_of h.order 4 x.index ++ (bytes_of h.order 4 x.count ++ rest))) in
    let grouped : spelled ≡ code_written h.order x.code ++ numbers = simp append_assoc in
    let code-is : take 4 spelled ≡ code_written h.order x.code = ap (take 4) grouped ∙ take_at (code_written h.order x.code) numbers 4 code.length in
    let no-end : bytes_eq (take 4 spelled) (codes "ENDB") ≡ false = ap (λ (t : List ℕ). bytes_eq t (codes "ENDB")) code-is ∙ code.no_end no_end in
    let four : nat_lt size (at + 4) ≡ false = le-ltb size (at + 4) (omega (arith, inside)) in
    let head : nat_lt size (at + head_size h) ≡ false = le-ltb size (at + head_size h) (omega (arith, inside)) in
    let all : nat_lt size (at + head_size h + x.len) ≡ false = le-ltb size (at + head_size h + x.len) inside in
    let len-counts : is_negative x.len ≡ false = lt-leb (2 ^ 31) x.len fits.len in
    let index-counts : is_negative x.index ≡ false = lt-leb (2 ^ 31) x.index fits.index in
    let count-counts : is_negative x.count ≡ false = lt-leb (2 ^ 31) x.count fits.count in
    rw (four, no-end, head, head-is, len-counts, index-counts, count-counts, all) refl
