-- The grammar of a file implies its reading: a byte list that is a header's bytes, the spellings of some blocks,
-- `ENDB` and any bytes reads as this header and these blocks.
use Rattle.std.proofs.Common.{◌≡◌, ℕ, ◌+◌, ◌-◌, ◌^◌, ◌≤◌, false, List, [], ◌∷◌, ◌++◌, length, take, drop, Ok, refl, sym, ap, subst, ◌∙◌, append_assoc, arith}
use Rattle.std.proofs.lemmas.List.{take_at, drop_at, length-append, take-append-drop, drop-drop, length-drop}
use Rattle.std.proofs.lemmas.Bool.{le-ltb, lt-leb}
use Rattle.std.specs.Prelude.{codes, nat_lt}
use Rattle.std.specs.Str.{bytes_eq}
use Rattle.bl_num.specs.Numbers.{bytes_of, pointer_bytes}
use Rattle.bl_format.specs.declared.file.Header.{Header}
use Rattle.bl_format.specs.declared.file.Head.{Head}
use Rattle.bl_format.specs.declared.file.Step.TheVariants.{Block, End}
use Rattle.bl_format.specs.Blocks.{header_of, header_written, header_size, head_in, head_size, is_negative, step_in, step_at, AreBlocks, IsSpelling, AreSpellings, IsFile, Reads}
use Rattle.bl_format.proofs.HeaderBack.{header_of-header_written, length-header_written}
use Rattle.bl_num.proofs.BytesOf.{length-bytes_of}
use Rattle.bl_format.proofs.HeadBack.{NumbersFit, head_in-fields}

-- a block's spelling is as long as its head and its payload
pub length-spelling : (h : Header) (x : Head) (text : List ℕ)
    → IsSpelling h x text → length text ≡ head_size h + x.len
length-spelling h x text s =
    let w = pointer_bytes h.width in
    let a = bytes_of h.order 4 x.len in
    let b = bytes_of h.order w x.address in
    let c = bytes_of h.order 4 x.index in
    let d = bytes_of h.order 4 x.count in
    let code = s.code in
    ap length s.text_is ∙ omega (arith, length-append (code ++ a ++ b ++ c ++ d) s.payload, length-append (code ++ a ++ b ++ c) d, length-append (code ++ a ++ b) c, length-append (code ++ a) b, length-append code a, s.code_len, s.payload_len, length-bytes_of h.order 4 x.len, length-bytes_of h.order w x.address, length-bytes_of h.order 4 x.index, length-bytes_of h.order 4 x.count)

-- where a block's spelling begins, and the file is long enough, that block begins
pub step_in-spelling : (h : Header) (x : Head) (text rest : List ℕ) (size : ℕ)
    → IsSpelling h x text → x.at + length text ≤ size → step_in h (text ++ rest) x.at size ≡ Ok (Block x)
unfolding step_in
step_in-spelling h x text rest size s fits =
    let w = pointer_bytes h.width in
    let a = bytes_of h.order 4 x.len in
    let b = bytes_of h.order w x.address in
    let c = bytes_of h.order 4 x.index in
    let d = bytes_of h.order 4 x.count in
    let code = s.code in
    let more : List ℕ = s.payload ++ rest in
    let tail : List ℕ = a ++ (b ++ (c ++ (d ++ more))) in
    let whole : List ℕ = text ++ rest in
    let spelled-is : whole ≡ code ++ a ++ b ++ c ++ d ++ more = ap (λ (t : List ℕ). t ++ rest) s.text_is ∙ simp append_assoc in
    let grouped : code ++ a ++ b ++ c ++ d ++ more ≡ code ++ tail = simp append_assoc in
    let numbers : NumbersFit h x = record {
      len = omega (arith, s.len);
      address = s.address;
      index = omega (arith, s.index);
      count = omega (arith, s.count);
    } in
    let head-is : head_in h whole x.at ≡ x = ap (λ (t : List ℕ). head_in h t x.at) spelled-is ∙ head_in-fields h x code more s.code_len s.means numbers in
    let code-is : take 4 whole ≡ code = ap (take 4) (spelled-is ∙ grouped) ∙ take_at code tail 4 s.code_len in
    let no-end : bytes_eq (take 4 whole) (codes "ENDB") ≡ false = ap (λ (t : List ℕ). bytes_eq t (codes "ENDB")) code-is ∙ s.no_end in
    let len = length-spelling h x text s in
    let four : nat_lt size (x.at + 4) ≡ false = le-ltb size (x.at + 4) (omega (arith, len, fits)) in
    let head : nat_lt size (x.at + head_size h) ≡ false = le-ltb size (x.at + head_size h) (omega (arith, len, fits)) in
    let all : nat_lt size (x.at + head_size h + x.len) ≡ false = le-ltb size (x.at + head_size h + x.len) (omega (arith, len, fits)) in
    let len-counts : is_negative x.len ≡ false = lt-leb (2 ^ 31) x.len s.len in
    let index-counts : is_negative x.index ≡ false = lt-leb (2 ^ 31) x.index s.index in
    let count-counts : is_negative x.count ≡ false = lt-leb (2 ^ 31) x.count s.count in
    rw (four, no-end, head, head-is, len-counts, index-counts, count-counts, all) refl

-- where the spellings of some blocks stand at a place, these blocks stand there
pub AreBlocks-AreSpellings : (h : Header) (b : List ℕ) (at : ℕ) (xs : List Head) (text tail : List ℕ)
    → at ≤ length b → drop at b ≡ text ++ tail → AreSpellings h at xs text
    → AreBlocks h b at xs (at + length text)
AreBlocks-AreSpellings h b at [] text tail inside stands are = omega (arith, ap length are)
AreBlocks-AreSpellings h b at (x ∷ xs) text tail inside stands are =
    let n : ℕ = head_size h + x.len in
    let first : List ℕ = take n text in
    let others : List ℕ = drop n text in
    let whole : text ≡ first ++ others = sym (take-append-drop n text) in
    let first-len : length first ≡ n = length-spelling h x first are.1 in
    let text-len : length text ≡ length first + length others = ap length whole ∙ length-append first others in
    let b-len : length b - at ≡ length text + length tail = sym (length-drop at b) ∙ ap length stands ∙ length-append text tail in
    let split : drop at b ≡ first ++ (others ++ tail) = stands ∙ ap (λ (t : List ℕ). t ++ tail) whole ∙ simp append_assoc in
    let found : step_in h (first ++ (others ++ tail)) x.at (length b) ≡ Ok (Block x) = step_in-spelling h x first (others ++ tail) (length b) are.1 (omega (arith, are.0, b-len, text-len, inside)) in
    let here : step_at h b at ≡ Ok (Block x) = ap (λ (t : List ℕ). step_in h t at (length b)) split ∙ subst (λ (i : ℕ). step_in h (first ++ (others ++ tail)) i (length b) ≡ Ok (Block x)) are.0 found in
    let next : drop (at + n) b ≡ others ++ tail = sym (drop-drop n at b) ∙ ap (drop n) split ∙ drop_at first (others ++ tail) n first-len in
    let rest : AreBlocks h b (at + n) xs (at + n + length others) = AreBlocks-AreSpellings h b (at + n) xs others tail (omega (arith, b-len, text-len, first-len, inside)) next are.2 in
    let place : at + n ≡ at + head_size h + x.len = omega arith in
    let end : at + n + length others ≡ at + length text = omega (arith, text-len, first-len) in
    (here, subst (λ (i : ℕ). AreBlocks h b i xs (at + length text)) place (subst (λ (e : ℕ). AreBlocks h b (at + n) xs e) end rest))

-- where `ENDB` stands, the file ends
end_back : (h : Header) (rest : List ℕ) (at size : ℕ)
    → at + 4 ≤ size → step_in h (codes "ENDB" ++ rest) at size ≡ Ok End
unfolding step_in
end_back h rest at size inside = rw (le-ltb size (at + 4) inside) refl

-- a file that is spelled so reads so
pub Reads-IsFile : (b : List ℕ) (h : Header) (blocks : List Head) → IsFile b h blocks → Reads b h blocks
Reads-IsFile b h blocks f =
    let header = header_written h in
    let end-text : List ℕ = codes "ENDB" ++ f.rest in
    let behind : List ℕ = f.spellings ++ end-text in
    let grouped : b ≡ header ++ behind = f.text ∙ simp append_assoc in
    let before : b ≡ (header ++ f.spellings) ++ end-text = f.text ∙ simp append_assoc in
    let header-len = length-header_written h in
    let end : ℕ = header_size h + length f.spellings in
    let end-len : length (header ++ f.spellings) ≡ end = length-append header f.spellings ∙ omega (arith, header-len) in
    let b-len : length b ≡ end + (4 + length f.rest) = ap length before ∙ length-append (header ++ f.spellings) end-text ∙ omega (arith, end-len, length-append (codes "ENDB") f.rest) in
    let stands : drop (header_size h) b ≡ behind = ap (drop (header_size h)) grouped ∙ drop_at header behind (header_size h) header-len in
    let end-stands : drop end b ≡ end-text = ap (drop end) before ∙ drop_at (header ++ f.spellings) end-text end end-len in
    record {
      header = ap header_of grouped ∙ header_of-header_written h behind f.version.0 f.version.1;
      end = end;
      blocks_stand = AreBlocks-AreSpellings h b (header_size h) blocks f.spellings end-text (omega (arith, b-len)) stands f.blocks_spelled;
      ends = ap (λ (t : List ℕ). step_in h t end (length b)) end-stands ∙ end_back h f.rest end (length b) (omega (arith, b-len));
    }
