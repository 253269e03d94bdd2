-- A file that reads as a header and blocks is spelled so: the grammar says no more than the reading.
use Rattle.std.proofs.Common.{◌≡◌, ℕ, ◌+◌, ◌-◌, ◌*◌, ◌/◌, ◌%◌, ◌^◌, ◌≤◌, ◌<◌, Bool, true, false, not, ◌||◌, ◌==◌, if◌then◌else◌, List, [], ◌∷◌, ◌++◌, length, take, drop, Option, Some, None, Result, Ok, Err, All, codes, slice_index, refl, sym, ap, subst, ◌∙◌, append_assoc, arith}
use Rattle.std.proofs.Math.Seq.{take-add}
use Rattle.std.proofs.lemmas.Bool.{ltb-false, leb-true, eqb-true, and_parts}
use Rattle.std.proofs.lemmas.List.{length-drop, length-take, take-take, drop-take, drop-drop, take-append-drop, drop_more}
use Rattle.std.proofs.lemmas.List.Elements.{All-drop}
use Rattle.std.proofs.lemmas.Slice.Eq.{bytes_eq-Decides}
use Rattle.std.specs.Prelude.{nat_lt}
use Rattle.std.specs.Char.{is_ascii_digit}
use Rattle.std.specs.Str.{bytes_eq}
use Rattle.bl_num.specs.declared.number.Order.{Order}
use Rattle.bl_num.specs.declared.number.Order.TheVariants.{Little, Big}
use Rattle.bl_num.specs.declared.number.Width.TheVariants.{Four, Eight}
use Rattle.bl_num.specs.Numbers.{bytes_of, pointer_bytes}
use Rattle.bl_num.proofs.BytesBack.{bytes_of-number_of}
use Rattle.bl_format.specs.declared.file.Header.{Header}
use Rattle.bl_format.specs.declared.file.Head.{Head}
use Rattle.bl_format.specs.declared.file.HeadFault.{HeadFault}
use Rattle.bl_format.specs.declared.file.HeadFault.TheVariants.{Compressed, BadMagic}
use Rattle.bl_format.specs.declared.file.BlockFault.{BlockFault}
use Rattle.bl_format.specs.declared.file.Step.{Step}
use Rattle.bl_format.specs.declared.file.Step.TheVariants.{Block, End}
use Rattle.bl_format.specs.Words.{part, number_at}
use Rattle.bl_format.specs.Blocks.{header_of, header_written, header_size, is_compressed, width_mark, order_mark, is_width_mark, is_order_mark, digits_value, bad_mark, unless_bad_mark, marked_header, head_size, head_in, checked_head, is_negative, step_in, step_at, AreBlocks, IsSpelling, AreSpellings, IsFile, Reads}
use Rattle.bl_num.proofs.BytesOf.{number_of-lt}
use Rattle.bl_format.proofs.BlocksOf.{step_in-block, block_place, AreBlocks-size}

-- ---- the header

header_tests : (compressed magic : Bool) (mark : Option ℕ) (marked : Result Header HeadFault) (h : Header)
    → ◌≡◌ {A = Result Header HeadFault} (if compressed then Err Compressed else if magic then Err BadMagic else unless_bad_mark mark marked) (Ok h)
    → (magic ≡ false) × (mark ≡ None) × (marked ≡ Ok h)
header_tests true magic mark marked h e = absurd (cc)
header_tests false true mark marked h e = absurd (cc)
header_tests false false (Some at) marked h e = absurd (cc)
header_tests false false None marked h e = (refl, refl, e)

magic_tests : (short name : Bool) → (short || not name) ≡ false → (short ≡ false) × (name ≡ true)
magic_tests true name e = absurd (cc)
magic_tests false false e = absurd (cc)
magic_tests false true e = (refl, refl)

mark_tests : (p q r s t : Bool) → ◌≡◌ {A = Option ℕ} (if not p then Some 7 else if not q then Some 8 else if not r then Some 9 else if not s then Some 10 else if not t then Some 11 else None) None
    → (p ≡ true) × (q ≡ true) × (r ≡ true) × (s ≡ true) × (t ≡ true)
mark_tests false q r s t e = absurd (cc)
mark_tests true false r s t e = absurd (cc)
mark_tests true true false s t e = absurd (cc)
mark_tests true true true false t e = absurd (cc)
mark_tests true true true true false e = absurd (cc)
mark_tests true true true true true e = (refl, refl, refl, refl, refl)

version_tests : (low high : Bool) (fault : HeadFault) (x h : Header) → ◌≡◌ {A = Result Header HeadFault} (if low || high then Err fault else Ok x) (Ok h) → (low ≡ false) × (high ≡ false) × (x ≡ h)
version_tests true high fault x h e = absurd (cc)
version_tests false true fault x h e = absurd (cc)
version_tests false false fault x h e = (refl, refl, cc)

width_cases : (m : ℕ) (p q : Bool) → (m == 95) ≡ p → (m == 45) ≡ q → (p || q) ≡ true → width_mark (if p then Four else Eight) ≡ m
width_cases m true q ep eq e = sym (eqb-true m 95 ep)
width_cases m false true ep eq e = sym (eqb-true m 45 eq)
width_cases m false false ep eq e = absurd (cc)

order_cases : (m : ℕ) (p q : Bool) → (m == 118) ≡ p → (m == 86) ≡ q → (p || q) ≡ true → order_mark (if p then Little else Big) ≡ m
order_cases m true q ep eq e = sym (eqb-true m 118 ep)
order_cases m false true ep eq e = sym (eqb-true m 86 eq)
order_cases m false false ep eq e = absurd (cc)

digit_range : (d : ℕ) → is_ascii_digit d ≡ true → (48 ≤ d) × (d ≤ 57)
digit_range d e = let t = and_parts _ _ e in (leb-true 48 d t.0, leb-true d 57 t.1)

digits_back : (v x y z : ℕ) → (48 ≤ x) × (x ≤ 57) → (48 ≤ y) × (y ≤ 57) → (48 ≤ z) × (z ≤ 57) → 100 * (x - 48) + 10 * (y - 48) + (z - 48) ≡ v
    → (x ≡ 48 + v / 100) × (y ≡ 48 + v / 10 % 10) × (z ≡ 48 + v % 10)
digits_back v x y z hx hy hz e = (omega (arith, hx.0, hx.1, hy.0, hy.1, hz.0, hz.1, e), omega (arith, hx.0, hx.1, hy.0, hy.1, hz.0, hz.1, e), omega (arith, hx.0, hx.1, hy.0, hy.1, hz.0, hz.1, e))

-- a header is spelled where it is read
pub record IsHeaderSpelled (b : List ℕ) (h : Header) : Type 0 where
  pub first : 250 ≤ h.version
  pub last : h.version ≤ 499
  pub text : b ≡ header_written h ++ drop 12 b

five : (a b c d e a' b' c' d' e' : ℕ) (rest : List ℕ) → a ≡ a' → b ≡ b' → c ≡ c' → d ≡ d' → e ≡ e' → a ∷ b ∷ c ∷ d ∷ e ∷ rest ≡ a' ∷ b' ∷ c' ∷ d' ∷ e' ∷ rest
five a b c d e a' b' c' d' e' rest p q r s t = cc

-- five elements from place 7 on
last_five : (b : List ℕ) → 12 ≤ length b → drop 7 b ≡ slice_index b 7 ∷ slice_index b 8 ∷ slice_index b 9 ∷ slice_index b 10 ∷ slice_index b 11 ∷ drop 12 b
last_five b long =
    drop_more b 7 0 (omega arith)
    ∙ ap (λ (t : List ℕ). slice_index b 7 ∷ t) (drop_more b 8 0 (omega arith)
    ∙ ap (λ (t : List ℕ). slice_index b 8 ∷ t) (drop_more b 9 0 (omega arith)
    ∙ ap (λ (t : List ℕ). slice_index b 9 ∷ t) (drop_more b 10 0 (omega arith)
    ∙ ap (λ (t : List ℕ). slice_index b 10 ∷ t) (drop_more b 11 0 (omega arith)))))

pub header_spelled : (b : List ℕ) (h : Header) → header_of b ≡ Ok h → IsHeaderSpelled b h
unfolding header_of header_written
header_spelled b h e =
    let w = slice_index b 7 in
    let o = slice_index b 8 in
    let x = slice_index b 9 in
    let y = slice_index b 10 in
    let z = slice_index b 11 in
    let tests = header_tests (is_compressed b) (nat_lt (length b) 12 || not (bytes_eq (take 7 b) (codes "BLENDER"))) (bad_mark b) (marked_header b) h e in
    let magic = magic_tests (nat_lt (length b) 12) (bytes_eq (take 7 b) (codes "BLENDER")) tests.0 in
    let long : 12 ≤ length b = ltb-false (length b) 12 magic.0 in
    let name : take 7 b ≡ codes "BLENDER" = (bytes_eq-Decides (take 7 b) (codes "BLENDER")).0 magic.1 in
    let marks = mark_tests (is_width_mark w) (is_order_mark o) (is_ascii_digit x) (is_ascii_digit y) (is_ascii_digit z) tests.1 in
    let version = digits_value (part b 9 3) in
    let made = version_tests (nat_lt version 250) (nat_lt 499 version) _ _ h tests.2 in
    let behind : drop 9 b ≡ x ∷ y ∷ z ∷ drop 12 b = sym (drop-drop 2 7 b) ∙ ap (drop 2) (last_five b long) in
    let spelled : version ≡ 100 * (x - 48) + 10 * (y - 48) + (z - 48) = ap (λ (t : List ℕ). digits_value (take 3 t)) behind in
    let version-is : version ≡ h.version = ap (λ (t : Header). t.version) made.2 in
    let digits = digits_back h.version x y z (digit_range x marks.2) (digit_range y marks.3) (digit_range z marks.4) (sym spelled ∙ version-is) in
    let width : w ≡ width_mark h.width = sym (width_cases w (w == 95) (w == 45) refl refl marks.0) ∙ ap (λ (t : Header). width_mark t.width) made.2 in
    let order : o ≡ order_mark h.order = sym (order_cases o (o == 118) (o == 86) refl refl marks.1) ∙ ap (λ (t : Header). order_mark t.order) made.2 in
    let v = h.version in
    record {
      first = subst (λ (n : ℕ). 250 ≤ n) version-is (ltb-false version 250 made.0);
      last = subst (λ (n : ℕ). n ≤ 499) version-is (ltb-false 499 version made.1);
      text = sym (take-append-drop 7 b) ∙ ap (λ (t : List ℕ). t ++ drop 7 b) name
          ∙ ap (λ (t : List ℕ). codes "BLENDER" ++ t) (last_five b long ∙ five w o x y z (width_mark h.width) (order_mark h.order) (48 + v / 100) (48 + v / 10 % 10) (48 + v % 10) (drop 12 b) width order digits.0 digits.1 digits.2);
    }

-- ---- the blocks

split : (n a m : ℕ) (w : List ℕ) → n ≡ a + m → take n w ≡ take a w ++ take m (drop a w)
split n a m w e = ap (λ (k : ℕ). take k w) e ∙ take-add a m w

-- a head's parts and the payload, one after another
parts : (p len : ℕ) (w : List ℕ) → take (16 + p + len) w ≡ take 4 w ++ take 4 (drop 4 w) ++ take p (drop 8 w) ++ take 4 (drop (8 + p) w) ++ take 4 (drop (12 + p) w) ++ take len (drop (16 + p) w)
parts p len w =
    split (16 + p + len) (16 + p) len w refl
    ∙ ap (λ (t : List ℕ). t ++ take len (drop (16 + p) w)) (split (16 + p) (12 + p) 4 w (omega arith)
    ∙ ap (λ (t : List ℕ). t ++ take 4 (drop (12 + p) w)) (split (12 + p) (8 + p) 4 w (omega arith)
    ∙ ap (λ (t : List ℕ). t ++ take 4 (drop (8 + p) w)) (split (8 + p) 8 p w refl
    ∙ ap (λ (t : List ℕ). t ++ take p (drop 8 w)) (split 8 4 4 w refl))))

field_spelled : (order : Order) (w : List ℕ) (at n : ℕ) → All (λ y. y < 256) w → at + n ≤ length w → bytes_of order n (number_at order w at n) ≡ take n (drop at w)
field_spelled order w at n all inside = bytes_of-number_of order n (drop at w) (All-drop (λ y. y < 256) at w all) (omega (arith, length-drop at w))

joined : (t c l a i n p l' a' i' n' : List ℕ) → t ≡ c ++ l ++ a ++ i ++ n ++ p → l' ≡ l → a' ≡ a → i' ≡ i → n' ≡ n → t ≡ c ++ l' ++ a' ++ i' ++ n' ++ p
joined t c l a i n p l' a' i' n' e el ea ei en = rw (el, ea, ei, en) e

pub block_spelled : (h : Header) (b : List ℕ) (at : ℕ) (x : Head) → All (λ y. y < 256) b → step_at h b at ≡ Ok (Block x) → IsSpelling h x (take (head_size h + x.len) (drop at b))
unfolding head_in
block_spelled h b at x bytes s =
    let w : List ℕ = drop at b in
    let p = pointer_bytes h.width in
    let found = step_in-block h w at (length b) x s in
    let head : head_in h w at ≡ x = found.head in
    let place : at ≡ x.at = ap (λ (t : Head). t.at) head in
    let all : All (λ y. y < 256) w = All-drop (λ y. y < 256) at b bytes in
    let fits : at + head_size h + x.len ≤ length b = let f = found.fits in omega (arith, f, place) in
    let long : 16 + p + x.len ≤ length w = omega (arith, fits, length-drop at b) in
    let len : bytes_of h.order 4 x.len ≡ take 4 (drop 4 w) = ap (λ (t : Head). bytes_of h.order 4 t.len) (sym head) ∙ field_spelled h.order w 4 4 all (omega (arith, long)) in
    let address : bytes_of h.order p x.address ≡ take p (drop 8 w) = ap (λ (t : Head). bytes_of h.order p t.address) (sym head) ∙ field_spelled h.order w 8 p all (omega (arith, long)) in
    let index : bytes_of h.order 4 x.index ≡ take 4 (drop (8 + p) w) = ap (λ (t : Head). bytes_of h.order 4 t.index) (sym head) ∙ field_spelled h.order w (8 + p) 4 all (omega (arith, long)) in
    let count : bytes_of h.order 4 x.count ≡ take 4 (drop (12 + p) w) = ap (λ (t : Head). bytes_of h.order 4 t.count) (sym head) ∙ field_spelled h.order w (12 + p) 4 all (omega (arith, long)) in
    record {
      code = take 4 w;
      payload = take x.len (drop (16 + p) w);
      code_len = length-take 4 w ∙ omega (arith, long);
      no_end = found.no_end;
      means = ap (λ (t : Head). t.code) head;
      len = found.len;
      address = subst (λ (v : ℕ). v < 256 ^ p) (ap (λ (t : Head). t.address) head) (number_of-lt h.order p (drop 8 w) (All-drop (λ y. y < 256) 8 w all));
      index = found.index;
      count = found.count;
      payload_len = length-take x.len (drop (16 + p) w) ∙ omega (arith, long, length-drop (16 + p) w);
      text_is = joined (take (16 + p + x.len) w) (take 4 w) (take 4 (drop 4 w)) (take p (drop 8 w)) (take 4 (drop (8 + p) w)) (take 4 (drop (12 + p) w)) (take x.len (drop (16 + p) w)) (bytes_of h.order 4 x.len) (bytes_of h.order p x.address) (bytes_of h.order 4 x.index) (bytes_of h.order 4 x.count) (parts p x.len w) len address index count;
    }

pub blocks_spelled : (h : Header) (b : List ℕ) (at end : ℕ) (xs : List Head) → All (λ y. y < 256) b → AreBlocks h b at xs end → AreSpellings h at xs (take (end - at) (drop at b))
blocks_spelled h b at end [] bytes stand = let none : end - at ≡ 0 = omega (arith, stand) in ap (λ (n : ℕ). take n (drop at b)) none
blocks_spelled h b at end (x ∷ xs) bytes stand =
    let size : ℕ = head_size h + x.len in
    let w : List ℕ = drop at b in
    let m : ℕ = end - (at + size) in
    let after = AreBlocks-size h b (at + head_size h + x.len) end xs stand.1 in
    let inside : at + size ≤ end = omega (arith, after) in
    let amount : end - at ≡ size + m = omega (arith, inside) in
    let first : take size (take (end - at) w) ≡ take size w = take-take size (end - at) w (omega (arith, inside)) in
    let others : drop size (take (end - at) w) ≡ take m (drop (at + size) b) = ap (λ (n : ℕ). drop size (take n w)) amount ∙ drop-take size m w ∙ ap (take m) (drop-drop size at b) in
    let place : at + head_size h + x.len ≡ at + size = omega arith in
    let rest : AreSpellings h (at + size) xs (take m (drop (at + size) b)) = subst (λ (i : ℕ). AreSpellings h i xs (take (end - i) (drop i b))) place (blocks_spelled h b (at + head_size h + x.len) end xs bytes stand.1) in
    (block_place h b at x stand.0, subst (IsSpelling h x) (sym first) (block_spelled h b at x bytes stand.0), subst (AreSpellings h (at + size) xs) (sym others) rest)

-- ---- the end, and the whole file

never_end : (len index count past : Bool) (f g i j : BlockFault) (x : Head)
    → ◌≡◌ {A = Result Step BlockFault} (if len then Err f else if index then Err g else if count then Err i else if past then Err j else Ok (Block x)) (Ok End) → ⊥
never_end true index count past f g i j x e = cc
never_end false true count past f g i j x e = cc
never_end false false true past f g i j x e = cc
never_end false false false true f g i j x e = cc
never_end false false false false f g i j x e = cc

end_tests : (four end head : Bool) (f g : BlockFault) (r : Result Step BlockFault) → (r ≡ Ok End → ⊥)
    → ◌≡◌ {A = Result Step BlockFault} (if four then Err f else if end then Ok End else if head then Err g else r) (Ok End) → end ≡ true
end_tests true end head f g r none e = absurd (cc)
end_tests false true head f g r none e = refl
end_tests false false true f g r none e = absurd (cc)
end_tests false false false f g r none e = absurd (none e)

pub end_spelled : (h : Header) (w : List ℕ) (at size : ℕ) → step_in h w at size ≡ Ok End → take 4 w ≡ codes "ENDB"
unfolding step_in
end_spelled h w at size e =
    let y = head_in h w at in
    let test = end_tests (nat_lt size (at + 4)) (bytes_eq (take 4 w) (codes "ENDB")) (nat_lt size (at + head_size h)) _ _ (checked_head h y size) (never_end (is_negative y.len) (is_negative y.index) (is_negative y.count) (nat_lt size (y.at + head_size h + y.len)) _ _ _ _ y) e in
    (bytes_eq-Decides (take 4 w) (codes "ENDB")).0 test

regroup : (a b c d : List ℕ) → a ++ (b ++ (c ++ d)) ≡ a ++ b ++ c ++ d
regroup a b c d = simp append_assoc

-- what is read of a list of bytes is what is spelled there
pub file_spelled : (b : List ℕ) (h : Header) (blocks : List Head) → All (λ y. y < 256) b → Reads b h blocks → IsFile b h blocks
file_spelled b h blocks bytes r =
    let header = header_spelled b h r.header in
    let end = r.end in
    let behind = AreBlocks-size h b (header_size h) end blocks r.blocks_stand in
    let spellings : List ℕ = take (end - header_size h) (drop (header_size h) b) in
    let rest : List ℕ = drop 4 (drop end b) in
    let place : header_size h + (end - header_size h) ≡ end = omega (arith, behind) in
    let last : drop end b ≡ codes "ENDB" ++ rest = sym (take-append-drop 4 (drop end b)) ∙ ap (λ (t : List ℕ). t ++ rest) (end_spelled h (drop end b) end (length b) r.ends) in
    let tail : drop (end - header_size h) (drop (header_size h) b) ≡ codes "ENDB" ++ rest = drop-drop (end - header_size h) (header_size h) b ∙ ap (λ (n : ℕ). drop n b) place ∙ last in
    let middle : drop (header_size h) b ≡ spellings ++ (codes "ENDB" ++ rest) = sym (take-append-drop (end - header_size h) (drop (header_size h) b)) ∙ ap (λ (t : List ℕ). spellings ++ t) tail in
    record {
      version = (header.first, header.last);
      spellings = spellings;
      rest = rest;
      blocks_spelled = blocks_spelled h b (header_size h) end blocks bytes r.blocks_stand;
      text = header.text ∙ ap (λ (t : List ℕ). header_written h ++ t) middle ∙ regroup (header_written h) spellings (codes "ENDB") rest;
    }
