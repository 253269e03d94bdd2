-- A payload that reads as a catalogue is spelled so: it is the catalogue's parts, with some bytes as padding and behind
-- the last struct. So the grammar of payloads says no more than their reading.
use Rattle.std.proofs.Common.{◌≡◌, ℕ, zero, suc, ◌+◌, ◌-◌, ◌≤◌, ◌<◌, Bool, true, false, cond, if◌then◌else◌, List, [], ◌∷◌, ◌++◌, length, take, drop, Some, None, Result, Ok, Err, All, codes, flat_map, refl, sym, ap, subst, ◌∙◌, append_assoc, arith}
use Rattle.std.specs.Prelude.{nat_lt, not, ◌==◌}
use Rattle.std.specs.List.{position_or_len, list_any}
use Rattle.std.specs.Str.{bytes_eq}
use Rattle.std.proofs.lemmas.Bool.{ltb-false, ltb-true, eqb-true}
use Rattle.std.proofs.lemmas.List.{length-append, length-drop, length-take, take-append-drop, drop-drop}
use Rattle.std.proofs.lemmas.Slice.Eq.{bytes_eq-Decides}
use Rattle.bl_num.specs.declared.number.Order.{Order}
use Rattle.bl_num.specs.Numbers.{bytes_of, number_of}
use Rattle.bl_num.proofs.BytesBack.{bytes_of-number_of}
use Rattle.bl_format.specs.declared.catalogue.Catalogue.{Catalogue}
use Rattle.bl_format.specs.declared.catalogue.TypeEntry.{TypeEntry}
use Rattle.bl_format.specs.declared.catalogue.StructEntry.{StructEntry}
use Rattle.bl_format.specs.declared.catalogue.MemberEntry.{MemberEntry}
use Rattle.bl_format.specs.declared.catalogue.SdnaFault.{SdnaFault}
use Rattle.bl_format.specs.declared.catalogue.SdnaFault.TheVariants.{CutShort, TwoTypes, TwoStructs}
use Rattle.bl_format.specs.Words.{part, number_at, is_one_of, aligned_place}
use Rattle.bl_format.specs.Schema.{Reading, ensure, tag_at, count_at, index_at, name_by, name_at, many_at, type_names_at, member_at, structs_at, type_entries, names_at, types_at, lengths_at, all_structs_at, catalogue_of, name_written, member_written, struct_written, names_part, types_part, lengths_part, structs_part, IsCatalogue, IsPayload}
use Rattle.bl_format.proofs.CatalogueRead.{bind_ok, all_drop, ok_same, entries_len, IsCatalogue-catalogue_of}

-- ---- a text that stands at a place

-- a text stands at a place, and ends at another
pub record IsSpelled (p : List ℕ) (at : ℕ) (text : List ℕ) (end : ℕ) : Type 0 where
  pub stands : drop at p ≡ text ++ drop end p
  pub place : end ≡ at + length text

regroup : (t u rest : List ℕ) → t ++ (u ++ rest) ≡ (t ++ u) ++ rest
regroup t u rest = simp append_assoc

then_spelled : (p : List ℕ) (at : ℕ) (t : List ℕ) (mid : ℕ) (u : List ℕ) (end : ℕ)
    → IsSpelled p at t mid → IsSpelled p mid u end → IsSpelled p at (t ++ u) end
then_spelled p at t mid u end a b = record {
  stands = a.stands ∙ ap (λ (x : List ℕ). t ++ x) b.stands ∙ regroup t u (drop end p);
  place = omega (arith, a.place, b.place, length-append t u);
}

nothing_spelled : (p : List ℕ) (at : ℕ) → IsSpelled p at [] at
nothing_spelled p at = record { stands = refl; place = omega arith }

taken : (p : List ℕ) (at n : ℕ) → at + n ≤ length p → IsSpelled p at (take n (drop at p)) (at + n)
taken p at n inside = record {
  stands = sym (take-append-drop n (drop at p)) ∙ ap (λ (x : List ℕ). take n (drop at p) ++ x) (drop-drop n at p);
  place = omega (arith, length-take n (drop at p), length-drop at p, inside);
}

-- ---- one thing at a place

tag_tests : (short same : Bool) (f g : SdnaFault) (x y : ℕ)
    → ◌≡◌ {A = Result ℕ SdnaFault} (if short then Err f else if same then Ok x else Err g) (Ok y)
    → (short ≡ false) × (same ≡ true) × (x ≡ y)
tag_tests true same f g x y e = absurd (cc)
tag_tests false true f g x y e = (refl, refl, cc)
tag_tests false false f g x y e = absurd (cc)

tag_spelled : (tag p : List ℕ) (at end : ℕ) → tag_at tag p at ≡ Ok end → IsSpelled p at tag end × (at + 4 ≤ length p)
unfolding tag_at
tag_spelled tag p at end e =
    let t = tag_tests (nat_lt (length p) (at + 4)) (bytes_eq (part p at 4) tag) _ _ (at + 4) end e in
    let inside : at + 4 ≤ length p = ltb-false (length p) (at + 4) t.0 in
    let same : take 4 (drop at p) ≡ tag = (bytes_eq-Decides (take 4 (drop at p)) tag).0 t.1 in
    (subst (λ (n : ℕ). IsSpelled p at tag n) t.2 (subst (λ (x : List ℕ). IsSpelled p at x (at + 4)) same (taken p at 4 inside)), inside)

count_tests : {A : Type 0} (short : Bool) (f : SdnaFault) (x y : A)
    → ◌≡◌ {A = Result A SdnaFault} (if short then Err f else Ok x) (Ok y) → (short ≡ false) × (x ≡ y)
count_tests true f x y e = absurd (cc)
count_tests false f x y e = (refl, cc)

count_spelled : (order : Order) (n : ℕ) (p : List ℕ) (at : ℕ) (v : ℕ × ℕ)
    → All (λ b. b < 256) p → count_at order n p at ≡ Ok v → IsSpelled p at (bytes_of order n v.0) v.1
unfolding count_at
count_spelled order n p at v bytes e =
    let t = count_tests (nat_lt (length p) (at + n)) _ (number_at order p at n, at + n) v e in
    let inside : at + n ≤ length p = ltb-false (length p) (at + n) t.0 in
    let back : bytes_of order n (number_of order n (drop at p)) ≡ take n (drop at p) = bytes_of-number_of order n (drop at p) (all_drop at p bytes) (omega (arith, inside, length-drop at p)) in
    subst (λ (x : ℕ × ℕ). IsSpelled p at (bytes_of order n x.0) x.1) t.1 (subst (λ (x : List ℕ). IsSpelled p at x (at + n)) (sym back) (taken p at n inside))

index_spelled : (order : Order) (n : ℕ) (p : List ℕ) (at : ℕ) (v : ℕ × ℕ)
    → All (λ b. b < 256) p → index_at order n p at ≡ Ok v → IsSpelled p at (bytes_of order 2 v.0) v.1
unfolding index_at
index_spelled order n p at v bytes e =
    let first = bind_ok (count_at order 2 p at) _ v e in
    let test = bind_ok (ensure (nat_lt first.0.0 n) _) _ v first.2 in
    subst (λ (x : ℕ × ℕ). IsSpelled p at (bytes_of order 2 x.0) x.1) (ok_same first.0 v test.2) (count_spelled order 2 p at first.0 bytes first.1)

-- a zero stands at the place of the first one
zero_at : (xs : List ℕ) → position_or_len (λ b. b == 0) xs < length xs
    → drop (position_or_len (λ b. b == 0) xs) xs ≡ 0 ∷ drop (position_or_len (λ b. b == 0) xs + 1) xs
zero_at [] lt = absurd (omega (arith, lt))
zero_at (x ∷ xs) lt = go (x == 0) refl (zero_at xs) lt
  where
    n : ℕ
    n = position_or_len (λ b. b == 0) xs

    go : (b : Bool) → (x == 0) ≡ b → (n < length xs → drop n xs ≡ 0 ∷ drop (n + 1) xs)
        → position_or_len (λ b. b == 0) (x ∷ xs) < length (x ∷ xs)
        → drop (position_or_len (λ b. b == 0) (x ∷ xs)) (x ∷ xs) ≡ 0 ∷ drop (position_or_len (λ b. b == 0) (x ∷ xs) + 1) (x ∷ xs)
    go true e more lt = rw e (ap (λ (y : ℕ). y ∷ xs) (eqb-true x 0 e))
    go false e more lt =
        let len : position_or_len (λ b. b == 0) (x ∷ xs) ≡ 1 + n = rw e refl in
        let first : 1 + n ≡ suc n = omega arith in
        let next : suc n + 1 ≡ suc (n + 1) = omega arith in
        rw (e, first, next) (more (omega (arith, len, lt)))

name_spelled : (p : List ℕ) (at : ℕ) (v : List ℕ × ℕ) → name_at p at ≡ Ok v → IsSpelled p at (name_written v.0) v.1
unfolding name_at
name_spelled p at v e = go (nat_lt (position_or_len (λ b. b == 0) (drop at p)) (length (drop at p))) refl e
  where
    w : List ℕ
    w = drop at p

    n : ℕ
    n = position_or_len (λ b. b == 0) w

    go : (b : Bool) → nat_lt n (length w) ≡ b → name_by p at (cond b (Some n) None) ≡ Ok v → IsSpelled p at (name_written v.0) v.1
    go true inside e =
        let lt : n < length w = ltb-true n (length w) inside in
        let end : ℕ = at + n + 1 in
        let behind : drop (n + 1) w ≡ drop end p = drop-drop (n + 1) at p ∙ ap (λ (k : ℕ). drop k p) (omega arith) in
        let zero-behind : drop n w ≡ 0 ∷ drop end p = zero_at w lt ∙ ap (λ (x : List ℕ). 0 ∷ x) behind in
        let text : w ≡ name_written (take n w) ++ drop end p = sym (take-append-drop n w) ∙ ap (λ (x : List ℕ). take n w ++ x) zero-behind ∙ regroup (take n w) (0 ∷ []) (drop end p) in
        let place : end ≡ at + length (name_written (take n w)) = omega (arith, length-append (take n w) (0 ∷ []), length-take n w, lt) in
        subst (λ (x : List ℕ × ℕ). IsSpelled p at (name_written x.0) x.1) (ok_same (take n w, end) v e) (record { stands = text; place = place })
    go false outside e = absurd (let e' : ◌≡◌ {A = Result (List ℕ × ℕ) SdnaFault} (Err (CutShort at)) (Ok v) = e in cc)

-- ---- many things

many_spelled : {A : Type 0} (p : List ℕ) (one : ℕ → Reading A) (write : A → List ℕ)
    → ((at : ℕ) (v : A × ℕ) → one at ≡ Ok v → IsSpelled p at (write v.0) v.1)
    → (n at : ℕ) (v : List A × ℕ) → many_at one n at ≡ Ok v
    → IsSpelled p at (flat_map write v.0) v.1 × (length v.0 ≡ n)
unfolding many_at
many_spelled {A} p one write spelled zero at v e = subst (λ (x : List A × ℕ). IsSpelled p at (flat_map write x.0) x.1 × (length x.0 ≡ 0)) (ok_same ([], at) v e) (nothing_spelled p at, refl)
many_spelled {A} p one write spelled (suc n) at v e =
    let first = bind_ok (one at) _ v e in
    let others = bind_ok (many_at one n first.0.1) _ v first.2 in
    let rest = many_spelled p one write spelled n first.0.1 others.0 others.1 in
    let text = then_spelled p at (write first.0.0) first.0.1 (flat_map write others.0.0) others.0.1 (spelled at first.0 first.1) rest.0 in
    subst (λ (x : List A × ℕ). IsSpelled p at (flat_map write x.0) x.1 × (length x.0 ≡ suc n)) (ok_same (first.0.0 ∷ others.0.0, others.0.1) v others.2) (text, omega (arith, rest.1))

type_names_spelled : (p : List ℕ) (n : ℕ) (before : List (List ℕ)) (at : ℕ) (v : List (List ℕ) × ℕ)
    → type_names_at p before n at ≡ Ok v → IsSpelled p at (flat_map name_written v.0) v.1 × (length v.0 ≡ n)
unfolding type_names_at
type_names_spelled p zero before at v e = subst (λ (x : List (List ℕ) × ℕ). IsSpelled p at (flat_map name_written x.0) x.1 × (length x.0 ≡ 0)) (ok_same ([], at) v e) (nothing_spelled p at, refl)
type_names_spelled p (suc n) before at v e =
    let first = bind_ok (name_at p at) _ v e in
    let name = first.0.0 in
    let test = bind_ok (ensure (not (is_one_of name before)) (TwoTypes at)) _ v first.2 in
    let others = bind_ok (type_names_at p (name ∷ before) n first.0.1) _ v test.2 in
    let rest = type_names_spelled p n (name ∷ before) first.0.1 others.0 others.1 in
    let text = then_spelled p at (name_written name) first.0.1 (flat_map name_written others.0.0) others.0.1 (name_spelled p at first.0 first.1) rest.0 in
    subst (λ (x : List (List ℕ) × ℕ). IsSpelled p at (flat_map name_written x.0) x.1 × (length x.0 ≡ suc n)) (ok_same (name ∷ others.0.0, others.0.1) v others.2) (text, omega (arith, rest.1))

member_spelled : (order : Order) (types names : ℕ) (p : List ℕ) (at : ℕ) (v : MemberEntry × ℕ)
    → All (λ b. b < 256) p → member_at order types names p at ≡ Ok v → IsSpelled p at (member_written order v.0) v.1
unfolding member_at
member_spelled order types names p at v bytes e =
    let first = bind_ok (index_at order types p at) _ v e in
    let second = bind_ok (index_at order names p first.0.1) _ v first.2 in
    let text = then_spelled p at (bytes_of order 2 first.0.0) first.0.1 (bytes_of order 2 second.0.0) second.0.1 (index_spelled order types p at first.0 bytes first.1) (index_spelled order names p first.0.1 second.0 bytes second.1) in
    subst (λ (x : MemberEntry × ℕ). IsSpelled p at (member_written order x.0) x.1) (ok_same (record { type_number = first.0.0; name_number = second.0.0 }, second.0.1) v second.2) text

structs_spelled : (order : Order) (types names : ℕ) (p : List ℕ) (n : ℕ) (before : List ℕ) (at : ℕ) (v : List StructEntry × ℕ)
    → All (λ b. b < 256) p → structs_at order types names p before n at ≡ Ok v
    → IsSpelled p at (flat_map (struct_written order) v.0) v.1 × (length v.0 ≡ n)
unfolding structs_at
structs_spelled order types names p zero before at v bytes e = subst (λ (x : List StructEntry × ℕ). IsSpelled p at (flat_map (struct_written order) x.0) x.1 × (length x.0 ≡ 0)) (ok_same ([], at) v e) (nothing_spelled p at, refl)
structs_spelled order types names p (suc n) before at v bytes e =
    let t = bind_ok (index_at order types p at) _ v e in
    let test = bind_ok (ensure (not (list_any (λ x. x == t.0.0) before)) (TwoStructs at)) _ v t.2 in
    let count = bind_ok (count_at order 2 p t.0.1) _ v test.2 in
    let members = bind_ok (many_at (member_at order types names p) count.0.0 count.0.1) _ v count.2 in
    let others = bind_ok (structs_at order types names p (t.0.0 ∷ before) n members.0.1) _ v members.2 in
    let rest = structs_spelled order types names p n (t.0.0 ∷ before) members.0.1 others.0 bytes others.1 in
    let all-members = many_spelled p (member_at order types names p) (member_written order) (λ i w h. member_spelled order types names p i w bytes h) count.0.0 count.0.1 members.0 members.1 in
    let number = index_spelled order types p at t.0 bytes t.1 in
    let counted = subst (λ (k : ℕ). IsSpelled p t.0.1 (bytes_of order 2 k) count.0.1) (sym all-members.1) (count_spelled order 2 p t.0.1 count.0 bytes count.1) in
    let a = bytes_of order 2 t.0.0 in
    let b = bytes_of order 2 (length members.0.0) in
    let ms : List ℕ = flat_map (member_written order) members.0.0 in
    let one = then_spelled p at (a ++ b) count.0.1 ms members.0.1 (then_spelled p at a t.0.1 b count.0.1 number counted) all-members.0 in
    let text = then_spelled p at (a ++ b ++ ms) members.0.1 (flat_map (struct_written order) others.0.0) others.0.1 one rest.0 in
    subst (λ (x : List StructEntry × ℕ). IsSpelled p at (flat_map (struct_written order) x.0) x.1 × (length x.0 ≡ suc n))
    (ok_same (record { type_number = t.0.0; members = members.0.0 } ∷ others.0.0, others.0.1) v others.2) (text, omega (arith, rest.1))

-- ---- the types of names and lengths

pub entries_names : (names : List (List ℕ)) (lengths : List ℕ) → length names ≡ length lengths
    → flat_map (λ (t : TypeEntry). name_written t.name) (type_entries names lengths) ≡ flat_map name_written names
entries_names [] ls e = refl
entries_names (x ∷ xs) [] e = absurd (omega (arith, e))
entries_names (x ∷ xs) (l ∷ ls) e = ap (λ (t : List ℕ). name_written x ++ t) (entries_names xs ls (omega (arith, e)))

pub entries_lengths : (order : Order) (names : List (List ℕ)) (lengths : List ℕ) → length names ≡ length lengths
    → flat_map (λ (t : TypeEntry). bytes_of order 2 t.length) (type_entries names lengths) ≡ flat_map (bytes_of order 2) lengths
entries_lengths order [] [] e = refl
entries_lengths order [] (l ∷ ls) e = absurd (omega (arith, e))
entries_lengths order (x ∷ xs) [] e = absurd (omega (arith, e))
entries_lengths order (x ∷ xs) (l ∷ ls) e = ap (λ (t : List ℕ). bytes_of order 2 l ++ t) (entries_lengths order xs ls (omega (arith, e)))

-- ---- the parts

names_spelled : (order : Order) (p : List ℕ) (v : List (List ℕ) × ℕ)
    → All (λ b. b < 256) p → names_at order p ≡ Ok v
    → IsSpelled p 0 (codes "SDNA" ++ codes "NAME" ++ bytes_of order 4 (length v.0) ++ flat_map name_written v.0) v.1
names_spelled order p v bytes e =
    let tag-1 = bind_ok (tag_at (codes "SDNA") p 0) _ v e in
    let tag-2 = bind_ok (tag_at (codes "NAME") p tag-1.0) _ v tag-1.2 in
    let n = bind_ok (count_at order 4 p tag-2.0) _ v tag-2.2 in
    let names = many_spelled p (name_at p) name_written (name_spelled p) n.0.0 n.0.1 v n.2 in
    let first = tag_spelled (codes "SDNA") p 0 tag-1.0 tag-1.1 in
    let second = tag_spelled (codes "NAME") p tag-1.0 tag-2.0 tag-2.1 in
    let count = subst (λ (k : ℕ). IsSpelled p tag-2.0 (bytes_of order 4 k) n.0.1) (sym names.1) (count_spelled order 4 p tag-2.0 n.0 bytes n.1) in
    let tags = then_spelled p 0 (codes "SDNA") tag-1.0 (codes "NAME") tag-2.0 first.0 second.0 in
    let counted = then_spelled p 0 (codes "SDNA" ++ codes "NAME") tag-2.0 (bytes_of order 4 (length v.0)) n.0.1 tags count in
    then_spelled p 0 (codes "SDNA" ++ codes "NAME" ++ bytes_of order 4 (length v.0)) n.0.1 (flat_map name_written v.0) v.1 counted names.0

types_spelled : (order : Order) (p : List ℕ) (at : ℕ) (v : List (List ℕ) × ℕ)
    → All (λ b. b < 256) p → types_at order p at ≡ Ok v
    → IsSpelled p (aligned_place at) (codes "TYPE" ++ bytes_of order 4 (length v.0) ++ flat_map name_written v.0) v.1
    × (aligned_place at ≤ length p)
types_spelled order p at v bytes e =
    let tag = bind_ok (tag_at (codes "TYPE") p (aligned_place at)) _ v e in
    let n = bind_ok (count_at order 4 p tag.0) _ v tag.2 in
    let names = type_names_spelled p n.0.0 [] n.0.1 v n.2 in
    let first = tag_spelled (codes "TYPE") p (aligned_place at) tag.0 tag.1 in
    let count = subst (λ (k : ℕ). IsSpelled p tag.0 (bytes_of order 4 k) n.0.1) (sym names.1) (count_spelled order 4 p tag.0 n.0 bytes n.1) in
    let counted = then_spelled p (aligned_place at) (codes "TYPE") tag.0 (bytes_of order 4 (length v.0)) n.0.1 first.0 count in
    (then_spelled p (aligned_place at) (codes "TYPE" ++ bytes_of order 4 (length v.0)) n.0.1 (flat_map name_written v.0) v.1 counted names.0, omega (arith, first.1))

lengths_spelled : (order : Order) (types : ℕ) (p : List ℕ) (at : ℕ) (v : List ℕ × ℕ)
    → All (λ b. b < 256) p → lengths_at order types p at ≡ Ok v
    → IsSpelled p (aligned_place at) (codes "TLEN" ++ flat_map (bytes_of order 2) v.0) v.1
    × (aligned_place at ≤ length p) × (length v.0 ≡ types)
lengths_spelled order types p at v bytes e =
    let tag = bind_ok (tag_at (codes "TLEN") p (aligned_place at)) _ v e in
    let lengths = many_spelled p (count_at order 2 p) (bytes_of order 2) (λ i w h. count_spelled order 2 p i w bytes h) types tag.0 v tag.2 in
    let first = tag_spelled (codes "TLEN") p (aligned_place at) tag.0 tag.1 in
    (then_spelled p (aligned_place at) (codes "TLEN") tag.0 (flat_map (bytes_of order 2) v.0) v.1 first.0 lengths.0, omega (arith, first.1), lengths.1)

all_structs_spelled : (order : Order) (types names : ℕ) (p : List ℕ) (at : ℕ) (v : List StructEntry × ℕ)
    → All (λ b. b < 256) p → all_structs_at order types names p at ≡ Ok v
    → IsSpelled p (aligned_place at) (codes "STRC" ++ bytes_of order 4 (length v.0) ++ flat_map (struct_written order) v.0) v.1
    × (aligned_place at ≤ length p)
all_structs_spelled order types names p at v bytes e =
    let tag = bind_ok (tag_at (codes "STRC") p (aligned_place at)) _ v e in
    let n = bind_ok (count_at order 4 p tag.0) _ v tag.2 in
    let structs = structs_spelled order types names p n.0.0 [] n.0.1 v bytes n.2 in
    let first = tag_spelled (codes "STRC") p (aligned_place at) tag.0 tag.1 in
    let count = subst (λ (k : ℕ). IsSpelled p tag.0 (bytes_of order 4 k) n.0.1) (sym structs.1) (count_spelled order 4 p tag.0 n.0 bytes n.1) in
    let counted = then_spelled p (aligned_place at) (codes "STRC") tag.0 (bytes_of order 4 (length v.0)) n.0.1 first.0 count in
    (then_spelled p (aligned_place at) (codes "STRC" ++ bytes_of order 4 (length v.0)) n.0.1 (flat_map (struct_written order) v.0) v.1 counted structs.0, omega (arith, first.1))

-- ---- the whole payload

-- the bytes from the end of a part to where the next one begins
abbrev padding_behind : List ℕ → ℕ → List ℕ
padding_behind p end = take (aligned_place end - end) (drop end p)

padding_spelled : (p : List ℕ) (end : ℕ) → aligned_place end ≤ length p
    → IsSpelled p end (padding_behind p end) (aligned_place end)
padding_spelled p end inside =
    let up : end + (aligned_place end - end) ≡ aligned_place end = omega arith in
    subst (λ (k : ℕ). IsSpelled p end (padding_behind p end) k) up (taken p end (aligned_place end - end) (omega (arith, inside, up)))

padding_length : (p : List ℕ) (end : ℕ) → aligned_place end ≤ length p → length (padding_behind p end) ≡ aligned_place end - end
padding_length p end inside = let s = (padding_spelled p end inside).place in omega (arith, s)

-- a part that begins at a multiple of 4 has the padding that its length asks for
padding_by_length : (at len end : ℕ) → end ≡ aligned_place at + len → aligned_place end - end ≡ aligned_place len - len
padding_by_length at len end e = omega (arith, e)

respelled : (p : List ℕ) (at : ℕ) (t u : List ℕ) (end : ℕ) → t ≡ u → IsSpelled p at t end → IsSpelled p at u end
respelled p at t u end same spelled = subst (λ (x : List ℕ). IsSpelled p at x end) same spelled

-- the four parts, each spelled at its place, make a payload
parts_spelled : (order : Order) (c : Catalogue) (p : List ℕ) (a b d e : ℕ) → IsCatalogue c
    → IsSpelled p 0 (names_part order c) a
    → IsSpelled p (aligned_place a) (types_part order c) b → aligned_place a ≤ length p
    → IsSpelled p (aligned_place b) (lengths_part order c) d → aligned_place b ≤ length p
    → IsSpelled p (aligned_place d) (structs_part order c) e → aligned_place d ≤ length p
    → IsPayload order c p
parts_spelled order c p a b d e is names types types-inside lengths lengths-inside structs structs-inside =
    let n : List ℕ = names_part order c in
    let t : List ℕ = types_part order c in
    let l : List ℕ = lengths_part order c in
    let x : List ℕ = padding_behind p a in
    let y : List ℕ = padding_behind p b in
    let z : List ℕ = padding_behind p d in
    let before-types = then_spelled p 0 n a x (aligned_place a) names (padding_spelled p a types-inside) in
    let to-types = then_spelled p 0 (n ++ x) (aligned_place a) t b before-types types in
    let before-lengths = then_spelled p 0 (n ++ x ++ t) b y (aligned_place b) to-types (padding_spelled p b lengths-inside) in
    let to-lengths = then_spelled p 0 (n ++ x ++ t ++ y) (aligned_place b) l d before-lengths lengths in
    let before-structs = then_spelled p 0 (n ++ x ++ t ++ y ++ l) d z (aligned_place d) to-lengths (padding_spelled p d structs-inside) in
    let all = then_spelled p 0 (n ++ x ++ t ++ y ++ l ++ z) (aligned_place d) (structs_part order c) e before-structs structs in
    record {
      is_catalogue = is;
      before_types = x;
      before_lengths = y;
      before_structs = z;
      rest = drop e p;
      types_aligned = padding_length p a types-inside ∙ padding_by_length 0 (length n) a names.place;
      lengths_aligned = padding_length p b lengths-inside ∙ padding_by_length a (length t) b types.place;
      structs_aligned = padding_length p d structs-inside ∙ padding_by_length b (length l) d lengths.place;
      text = all.stands;
    }

-- what is read of a payload of bytes is what is spelled there
pub IsPayload-catalogue_of : (order : Order) (p : List ℕ) (c : Catalogue)
    → All (λ b. b < 256) p → catalogue_of order p ≡ Ok c → IsPayload order c p
unfolding catalogue_of
IsPayload-catalogue_of order p c bytes e =
    let names = bind_ok (names_at order p) _ c e in
    let types = bind_ok (types_at order p names.0.1) _ c names.2 in
    let lengths = bind_ok (lengths_at order (length types.0.0) p types.0.1) _ c types.2 in
    let structs = bind_ok (all_structs_at order (length types.0.0) (length names.0.0) p lengths.0.1) _ c lengths.2 in
    let read : Catalogue = record { names = names.0.0; types = type_entries types.0.0 lengths.0.0; structs = structs.0.0 } in
    let same : c ≡ read = sym (ok_same read c structs.2) in
    let n = names_spelled order p names.0 bytes names.1 in
    let t = types_spelled order p names.0.1 types.0 bytes types.1 in
    let l = lengths_spelled order (length types.0.0) p types.0.1 lengths.0 bytes lengths.1 in
    let s = all_structs_spelled order (length types.0.0) (length names.0.0) p lengths.0.1 structs.0 bytes structs.1 in
    let many : length (type_entries types.0.0 lengths.0.0) ≡ length types.0.0 = entries_len types.0.0 lengths.0.0 (sym l.2) in
    let types-text : codes "TYPE" ++ bytes_of order 4 (length types.0.0) ++ flat_map name_written types.0.0 ≡ types_part order read = rw (many, entries_names types.0.0 lengths.0.0 (sym l.2)) refl in
    let lengths-text : codes "TLEN" ++ flat_map (bytes_of order 2) lengths.0.0 ≡ lengths_part order read = rw (entries_lengths order types.0.0 lengths.0.0 (sym l.2)) refl in
    let types-part = respelled p (aligned_place names.0.1) _ (types_part order read) types.0.1 types-text t.0 in
    let lengths-part = respelled p (aligned_place types.0.1) _ (lengths_part order read) lengths.0.1 lengths-text l.0 in
    rw same (parts_spelled order read p names.0.1 types.0.1 lengths.0.1 structs.0.1 (rw (sym same) (IsCatalogue-catalogue_of order p c bytes e)) n types-part t.1 lengths-part l.1 s.0 s.1)
