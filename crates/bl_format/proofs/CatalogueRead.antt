-- What a payload of bytes reads as is a catalogue by the grammar: its counts fit, its numbers are in range, its names
-- have no zeros, and its types' names and its structs' types differ. So what was read, written and read again is the
-- same.
use Rattle.std.proofs.Common.{◌≡◌, ◌≢◌, ℕ, zero, suc, ◌+◌, ◌^◌, ◌<◌, Bool, true, false, not, cond, List, [], ◌∷◌, length, take, drop, Some, None, Result, Ok, Err, refl, sym, subst, ◌∙◌, arith}
use Rattle.std.specs.Prelude.{All, codes, nat_lt, ◌==◌, if◌then◌else◌}
use Rattle.std.specs.List.{slice_index_or, AllPairs, position_or_len, list_any}
use Rattle.std.specs.Str.{bytes_eq}
use Rattle.std.proofs.lemmas.List.Elements.{All-head, All-tail, All-cons}
use Rattle.std.proofs.lemmas.Bool.{ltb-true, or_parts, not-true}
use Rattle.std.proofs.lemmas.List.Kept.{AllPairs-cons}
use Rattle.std.proofs.lemmas.Slice.Eq.{bytes_eq-Decides}
use Rattle.std.proofs.lemmas.Bool.Decides.{Decides-eqb}
use Rattle.bl_num.proofs.BytesOf.{number_of-lt}
use Rattle.bl_num.specs.declared.number.Order.{Order}
use Rattle.bl_format.specs.declared.catalogue.SdnaFault.{SdnaFault}
use Rattle.bl_format.specs.declared.catalogue.Catalogue.{Catalogue}
use Rattle.bl_format.specs.declared.catalogue.TypeEntry.{TypeEntry}
use Rattle.bl_format.specs.declared.catalogue.StructEntry.{StructEntry}
use Rattle.bl_format.specs.declared.catalogue.MemberEntry.{MemberEntry}
use Rattle.bl_format.specs.Words.{part, number_at, is_one_of, aligned_place}
use Rattle.bl_format.specs.declared.catalogue.SdnaFault.TheVariants.{CutShort, TwoTypes, TwoStructs}
use Rattle.bl_format.proofs.CatalogueBack.{pairs_head, pairs_tail, catalogue_of-catalogue_written}
use Rattle.bl_format.specs.Schema.{◌>>=◌, Reading, ensure, count_at, index_at, name_by, name_at, many_at, type_names_at, member_at, structs_at, type_entries, names_at, types_at, lengths_at, all_structs_at, catalogue_of, catalogue_written, tag_at, IsName, MemberFits, StructFits, IsCatalogue, CanBeRead}

IsByte : ℕ → Type 0
IsByte b = b < 256

-- ---- what an answer that is Ok says of its parts

pub bind_ok : {A B : Type 0} (r : Result A SdnaFault) (f : A → Result B SdnaFault) (y : B)
    → (r >>= f) ≡ Ok y → (x : A) × (r ≡ Ok x) × (f x ≡ Ok y)
bind_ok (Ok x) f y e = (x, refl, e)
bind_ok {A} {B} (Err z) f y e = absurd (let e' : ◌≡◌ {A = Result B SdnaFault} (Err z) (Ok y) = e in cc)

pub if_ok : {A : Type 0} (b : Bool) (z : SdnaFault) (x y : A) → (if b then Err z else Ok x) ≡ Ok y → x ≡ y
if_ok {A} true z x y e = absurd (let e' : ◌≡◌ {A = Result A SdnaFault} (Err z) (Ok y) = e in cc)
if_ok {A} false z x y e = let e' : ◌≡◌ {A = Result A SdnaFault} (Ok x) (Ok y) = e in cc

pub ensure_ok : (b : Bool) (z : SdnaFault) (x : ℕ) → ensure b z ≡ Ok x → b ≡ true
ensure_ok true z x e = refl
ensure_ok false z x e = absurd (let e' : ◌≡◌ {A = Result ℕ SdnaFault} (Err z) (Ok x) = e in cc)

-- ---- numbers and names

pub all_drop : (n : ℕ) (xs : List ℕ) → All (λ b. b < 256) xs → All (λ b. b < 256) (drop n xs)
all_drop zero xs all = all
all_drop (suc n) [] all = all
all_drop (suc n) (x ∷ xs) all = all_drop n xs (All-tail (λ b. b < 256) x xs all)

count_lt : (order : Order) (n : ℕ) (p : List ℕ) (at : ℕ) (v : ℕ × ℕ)
    → All (λ b. b < 256) p → count_at order n p at ≡ Ok v → v.0 < 256 ^ n
unfolding count_at
count_lt order n p at v all e =
    let same : (number_at order p at n, at + n) ≡ v = if_ok (nat_lt (length p) (at + n)) _ (number_at order p at n, at + n) v e in
    subst (λ (x : ℕ × ℕ). x.0 < 256 ^ n) same (number_of-lt order n (drop at p) (all_drop at p all))

index_lt : (order : Order) (n : ℕ) (p : List ℕ) (at : ℕ) (v : ℕ × ℕ)
    → All (λ b. b < 256) p → index_at order n p at ≡ Ok v → (v.0 < n) × (v.0 < 2 ^ 16)
unfolding index_at
index_lt order n p at v all e =
    let first = bind_ok (count_at order 2 p at) _ v e in
    let second = bind_ok (ensure (nat_lt first.0.0 n) _) _ v first.2 in
    let same : first.0 ≡ v = let e' : ◌≡◌ {A = Result (ℕ × ℕ) SdnaFault} (Ok first.0) (Ok v) = second.2 in cc in
    let inside : first.0.0 < n = ltb-true first.0.0 n (ensure_ok (nat_lt first.0.0 n) _ second.0 second.1) in
    let fits : first.0.0 < 256 ^ 2 = count_lt order 2 p at first.0 all first.1 in
    subst (λ (x : ℕ × ℕ). (x.0 < n) × (x.0 < 2 ^ 16)) same (inside, omega (arith, fits))

-- what stands before the first zero
before_zero : (xs : List ℕ) → IsName (take (position_or_len (λ b. b == 0) xs) xs)
before_zero [] = λ k d lt. absurd (omega (arith, lt))
before_zero (x ∷ xs) = go (x == 0) refl (before_zero xs)
  where
    go : (b : Bool) → (x == 0) ≡ b → IsName (take (position_or_len (λ b. b == 0) xs) xs) → IsName (take (position_or_len (λ b. b == 0) (x ∷ xs)) (x ∷ xs))
    go true e more = rw e (λ k d lt. absurd (omega (arith, lt)))
    go false e more = let s : 1 + position_or_len (λ b. b == 0) xs ≡ suc (position_or_len (λ b. b == 0) xs) = omega arith in rw (e, s) (All-cons (λ b. b ≢ 0) x (take (position_or_len (λ b. b == 0) xs) xs) (λ z. absurd (let t : (x == 0) ≡ true = (Decides-eqb x 0).1 z in let f : true ≡ false = sym t ∙ e in cc)) more)

pub ok_same : {A : Type 0} (x y : A) → ◌≡◌ {A = Result A SdnaFault} (Ok x) (Ok y) → x ≡ y
ok_same {A} x y e = let e' : ◌≡◌ {A = Result A SdnaFault} (Ok x) (Ok y) = e in cc

name_ok : (p : List ℕ) (at : ℕ) (v : List ℕ × ℕ) → name_at p at ≡ Ok v → IsName v.0
unfolding name_at
name_ok p at v e = go (nat_lt (position_or_len (λ b. b == 0) (drop at p)) (length (drop at p))) e
  where
    n : ℕ
    n = position_or_len (λ b. b == 0) (drop at p)

    go : (b : Bool) → name_by p at (cond b (Some n) None) ≡ Ok v → IsName v.0
    go true e = subst (λ (x : List ℕ × ℕ). IsName x.0) (ok_same (part p at n, at + n + 1) v e) (before_zero (drop at p))
    go false e = absurd (let e' : ◌≡◌ {A = Result (List ℕ × ℕ) SdnaFault} (Err (CutShort at)) (Ok v) = e in cc)

-- ---- many things

many_all : {A : Type 0} (one : ℕ → Reading A) (P : A → Type 0)
    → ((at : ℕ) (v : A × ℕ) → one at ≡ Ok v → P v.0) → (n at : ℕ) (v : List A × ℕ) → many_at one n at ≡ Ok v
    → All P v.0 × (length v.0 ≡ n)
unfolding many_at
many_all {A} one P holds zero at v e = subst (λ (x : List A × ℕ). All P x.0 × (length x.0 ≡ 0)) (ok_same ([], at) v e) ((λ k d lt. absurd (omega (arith, lt))), refl)
many_all {A} one P holds (suc n) at v e =
    let first = bind_ok (one at) _ v e in
    let others = bind_ok (many_at one n first.0.1) _ v first.2 in
    let ih = many_all one P holds n first.0.1 others.0 others.1 in
    subst (λ (x : List A × ℕ). All P x.0 × (length x.0 ≡ suc n)) (ok_same (first.0.0 ∷ others.0.0, others.0.1) v others.2) (All-cons P first.0.0 others.0.0 (holds at first.0 first.1) ih.0, omega (arith, ih.1))

text_differs : (x y : List ℕ) → bytes_eq y x ≡ false → x ≢ y
text_differs x y e same = absurd (let t : bytes_eq y x ≡ true = (bytes_eq-Decides y x).1 (sym same) in let f : true ≡ false = sym t ∙ e in cc)

number_differs : (x y : ℕ) → (x == y) ≡ false → x ≢ y
number_differs x y e same = absurd (let t : (x == y) ≡ true = (Decides-eqb x y).1 same in let f : true ≡ false = sym t ∙ e in cc)

-- type names: names, none of which stood before, and no two of which are the same
pub record AreTypeNames (before : List (List ℕ)) (n : ℕ) (names : List (List ℕ)) : Type 0 where
  pub count : length names ≡ n
  pub named : All IsName names
  pub new : All (λ (x : List ℕ). is_one_of x before ≡ false) names
  pub differ : AllPairs (λ (x y : List ℕ). x ≢ y) names

type_names_ok : (p : List ℕ) (n : ℕ) (before : List (List ℕ)) (at : ℕ) (v : List (List ℕ) × ℕ)
    → type_names_at p before n at ≡ Ok v → AreTypeNames before n v.0
unfolding type_names_at
type_names_ok p zero before at v e =
    subst (λ (x : List (List ℕ) × ℕ). AreTypeNames before 0 x.0) (ok_same ([], at) v e)
    (record { count = refl; named = λ k d lt. absurd (omega (arith, lt)); new = λ k d lt. absurd (omega (arith, lt)); differ = λ i j d lt inside. absurd (omega (arith, inside)) })
type_names_ok p (suc n) before at v e =
    let first = bind_ok (name_at p at) _ v e in
    let name = first.0.0 in
    let test = bind_ok (ensure (not (is_one_of name before)) (TwoTypes at)) _ v first.2 in
    let others = bind_ok (type_names_at p (name ∷ before) n first.0.1) _ v test.2 in
    let names = others.0.0 in
    let ih = type_names_ok p n (name ∷ before) first.0.1 others.0 others.1 in
    let is-new : is_one_of name before ≡ false = not-true (is_one_of name before) (ensure_ok (not (is_one_of name before)) (TwoTypes at) test.0 test.1) in
    let parts : (k : ℕ) (d : List ℕ) → k < length names → (bytes_eq (slice_index_or names k d) name ≡ false) × (is_one_of (slice_index_or names k d) before ≡ false) = λ k d lt. or_parts (bytes_eq (slice_index_or names k d) name) (is_one_of (slice_index_or names k d) before) (ih.new k d lt) in
    subst (λ (x : List (List ℕ) × ℕ). AreTypeNames before (suc n) x.0) (ok_same (name ∷ names, others.0.1) v others.2)
    (record {
      count = omega (arith, ih.count);
      named = All-cons IsName name names (name_ok p at first.0 first.1) ih.named;
      new = All-cons (λ (x : List ℕ). is_one_of x before ≡ false) name names is-new (λ k d lt. (parts k d lt).1);
      differ = AllPairs-cons (λ (x y : List ℕ). x ≢ y) name names (λ k d lt. text_differs name (slice_index_or names k d) (parts k d lt).0) ih.differ;
    })

-- ---- structs

member_ok : (order : Order) (c : Catalogue) (types names : ℕ) (p : List ℕ) (at : ℕ) (v : MemberEntry × ℕ)
    → types ≡ length c.types → names ≡ length c.names → All (λ b. b < 256) p
    → member_at order types names p at ≡ Ok v → MemberFits c v.0
unfolding member_at
member_ok order c types names p at v et en all e =
    let first = bind_ok (index_at order types p at) _ v e in
    let second = bind_ok (index_at order names p first.0.1) _ v first.2 in
    let t = index_lt order types p at first.0 all first.1 in
    let n = index_lt order names p first.0.1 second.0 all second.1 in
    subst (λ (x : MemberEntry × ℕ). MemberFits c x.0) (ok_same (record { type_number = first.0.0; name_number = second.0.0 }, second.0.1) v second.2)
    (record { type_number = omega (arith, t.0, et); name_number = omega (arith, n.0, en); type_number_fits = t.1; name_number_fits = n.1 })

-- structs of a catalogue, none of a type that stood before, and no two of the same type
pub record AreStructs (c : Catalogue) (before : List ℕ) (n : ℕ) (structs : List StructEntry) : Type 0 where
  pub count : length structs ≡ n
  pub fit : All (StructFits c) structs
  pub new : All (λ (s : StructEntry). list_any (λ x. x == s.type_number) before ≡ false) structs
  pub differ : AllPairs (λ (s t : StructEntry). s.type_number ≢ t.type_number) structs

structs_ok : (order : Order) (c : Catalogue) (types names : ℕ) (p : List ℕ) (n : ℕ) (before : List ℕ) (at : ℕ) (v : List StructEntry × ℕ)
    → types ≡ length c.types → names ≡ length c.names → All (λ b. b < 256) p
    → structs_at order types names p before n at ≡ Ok v → AreStructs c before n v.0
unfolding structs_at
structs_ok order c types names p zero before at v et en all e =
    subst (λ (x : List StructEntry × ℕ). AreStructs c before 0 x.0) (ok_same ([], at) v e)
    (record { count = refl; fit = λ k d lt. absurd (omega (arith, lt)); new = λ k d lt. absurd (omega (arith, lt)); differ = λ i j d lt inside. absurd (omega (arith, inside)) })
structs_ok order c types names p (suc n) before at v et en all e =
    let first = bind_ok (index_at order types p at) _ v e in
    let t = first.0.0 in
    let test = bind_ok (ensure (not (list_any (λ x. x == t) before)) (TwoStructs at)) _ v first.2 in
    let count = bind_ok (count_at order 2 p first.0.1) _ v test.2 in
    let members = bind_ok (many_at (member_at order types names p) count.0.0 count.0.1) _ v count.2 in
    let others = bind_ok (structs_at order types names p (t ∷ before) n members.0.1) _ v members.2 in
    let s : StructEntry = record { type_number = t; members = members.0.0 } in
    let ss = others.0.0 in
    let number = index_lt order types p at first.0 all first.1 in
    let few = count_lt order 2 p first.0.1 count.0 all count.1 in
    let fits = many_all (member_at order types names p) (MemberFits c) (λ at' v' e'. member_ok order c types names p at' v' et en all e') count.0.0 count.0.1 members.0 members.1 in
    let ih = structs_ok order c types names p n (t ∷ before) members.0.1 others.0 et en all others.1 in
    let is-new : list_any (λ x. x == t) before ≡ false = not-true (list_any (λ x. x == t) before) (ensure_ok (not (list_any (λ x. x == t) before)) (TwoStructs at) test.0 test.1) in
    let parts : (k : ℕ) (d : StructEntry) → k < length ss → ((t == (slice_index_or ss k d).type_number) ≡ false) × (list_any (λ x. x == (slice_index_or ss k d).type_number) before ≡ false) = λ k d lt. or_parts (t == (slice_index_or ss k d).type_number) (list_any (λ x. x == (slice_index_or ss k d).type_number) before) (ih.new k d lt) in
    subst (λ (x : List StructEntry × ℕ). AreStructs c before (suc n) x.0) (ok_same (s ∷ ss, others.0.1) v others.2)
    (record {
      count = omega (arith, ih.count);
      fit = All-cons (StructFits c) s ss (record { type_number = omega (arith, number.0, et); type_number_fits = number.1; few_members = omega (arith, few, fits.1); members = fits.0 }) ih.fit;
      new = All-cons (λ (u : StructEntry). list_any (λ x. x == u.type_number) before ≡ false) s ss is-new (λ k d lt. (parts k d lt).1);
      differ = AllPairs-cons (λ (u w : StructEntry). u.type_number ≢ w.type_number) s ss (λ k d lt. number_differs t (slice_index_or ss k d).type_number (parts k d lt).0) ih.differ;
    })

-- ---- types of names and lengths

pub entries_len : (names : List (List ℕ)) (lengths : List ℕ)
    → length names ≡ length lengths → length (type_entries names lengths) ≡ length names
entries_len [] ls e = refl
entries_len (x ∷ xs) [] e = absurd (omega (arith, e))
entries_len (x ∷ xs) (l ∷ ls) e = let ih = entries_len xs ls (omega (arith, e)) in omega (arith, ih)

entries_names : (P : List ℕ → Type 0) (names : List (List ℕ)) (lengths : List ℕ)
    → All P names → All (λ (t : TypeEntry). P t.name) (type_entries names lengths)
entries_names P [] ls all = λ k d lt. absurd (omega (arith, lt))
entries_names P (x ∷ xs) [] all = λ k d lt. absurd (omega (arith, lt))
entries_names P (x ∷ xs) (l ∷ ls) all = All-cons (λ (t : TypeEntry). P t.name) (record { name = x; length = l }) (type_entries xs ls) (All-head P x xs all) (entries_names P xs ls (All-tail P x xs all))

entries_lengths : (P : ℕ → Type 0) (names : List (List ℕ)) (lengths : List ℕ)
    → All P lengths → All (λ (t : TypeEntry). P t.length) (type_entries names lengths)
entries_lengths P [] ls all = λ k d lt. absurd (omega (arith, lt))
entries_lengths P (x ∷ xs) [] all = λ k d lt. absurd (omega (arith, lt))
entries_lengths P (x ∷ xs) (l ∷ ls) all = All-cons (λ (t : TypeEntry). P t.length) (record { name = x; length = l }) (type_entries xs ls) (All-head P l ls all) (entries_lengths P xs ls (All-tail P l ls all))

entries_differ : (names : List (List ℕ)) (lengths : List ℕ)
    → AllPairs (λ (x y : List ℕ). x ≢ y) names
    → AllPairs (λ (t u : TypeEntry). t.name ≢ u.name) (type_entries names lengths)
entries_differ [] ls p = λ i j d lt inside. absurd (omega (arith, inside))
entries_differ (x ∷ xs) [] p = λ i j d lt inside. absurd (omega (arith, inside))
entries_differ (x ∷ xs) (l ∷ ls) p =
    let Differ : List ℕ → List ℕ → Type 0 = λ y z. y ≢ z in
    AllPairs-cons (λ (t u : TypeEntry). t.name ≢ u.name) (record { name = x; length = l }) (type_entries xs ls) (entries_names (λ y. x ≢ y) xs ls (pairs_head Differ x xs p)) (entries_differ xs ls (pairs_tail Differ x xs p))

-- ---- the parts, and the whole payload

names_ok : (order : Order) (p : List ℕ) (v : List (List ℕ) × ℕ)
    → All (λ b. b < 256) p → names_at order p ≡ Ok v → All IsName v.0 × (length v.0 < 2 ^ 32)
names_ok order p v all e =
    let tag-1 = bind_ok (tag_at (codes "SDNA") p 0) _ v e in
    let tag-2 = bind_ok (tag_at (codes "NAME") p tag-1.0) _ v tag-1.2 in
    let n = bind_ok (count_at order 4 p tag-2.0) _ v tag-2.2 in
    let names = many_all (name_at p) IsName (name_ok p) n.0.0 n.0.1 v n.2 in
    let few = count_lt order 4 p tag-2.0 n.0 all n.1 in
    (names.0, omega (arith, names.1, few))

types_ok : (order : Order) (p : List ℕ) (at : ℕ) (v : List (List ℕ) × ℕ)
    → All (λ b. b < 256) p → types_at order p at ≡ Ok v → (n : ℕ) × AreTypeNames [] n v.0 × (n < 2 ^ 32)
types_ok order p at v all e =
    let tag = bind_ok (tag_at (codes "TYPE") p (aligned_place at)) _ v e in
    let n = bind_ok (count_at order 4 p tag.0) _ v tag.2 in
    let few = count_lt order 4 p tag.0 n.0 all n.1 in
    (n.0.0, type_names_ok p n.0.0 [] n.0.1 v n.2, omega (arith, few))

lengths_ok : (order : Order) (types : ℕ) (p : List ℕ) (at : ℕ) (v : List ℕ × ℕ)
    → All (λ b. b < 256) p → lengths_at order types p at ≡ Ok v
    → All (λ n. n < 2 ^ 16) v.0 × (length v.0 ≡ types)
lengths_ok order types p at v all e =
    let tag = bind_ok (tag_at (codes "TLEN") p (aligned_place at)) _ v e in
    many_all (count_at order 2 p) (λ n. n < 2 ^ 16) (λ i w h. let lt = count_lt order 2 p i w all h in omega (arith, lt)) types tag.0 v tag.2

all_structs_ok : (order : Order) (c : Catalogue) (types names : ℕ) (p : List ℕ) (at : ℕ) (v : List StructEntry × ℕ)
    → types ≡ length c.types → names ≡ length c.names → All (λ b. b < 256) p
    → all_structs_at order types names p at ≡ Ok v → (n : ℕ) × AreStructs c [] n v.0 × (n < 2 ^ 32)
all_structs_ok order c types names p at v et en all e =
    let tag = bind_ok (tag_at (codes "STRC") p (aligned_place at)) _ v e in
    let n = bind_ok (count_at order 4 p tag.0) _ v tag.2 in
    let few = count_lt order 4 p tag.0 n.0 all n.1 in
    (n.0.0, structs_ok order c types names p n.0.0 [] n.0.1 v et en all n.2, omega (arith, few))

-- what a payload of bytes reads as is a catalogue by the grammar
pub IsCatalogue-catalogue_of : (order : Order) (p : List ℕ) (c : Catalogue)
    → All (λ b. b < 256) p → catalogue_of order p ≡ Ok c → IsCatalogue c
unfolding catalogue_of
IsCatalogue-catalogue_of order p c all e =
    let names = bind_ok (names_at order p) _ c e in
    let types = bind_ok (types_at order p names.0.1) _ c names.2 in
    let lengths = bind_ok (lengths_at order (length types.0.0) p types.0.1) _ c types.2 in
    let structs = bind_ok (all_structs_at order (length types.0.0) (length names.0.0) p lengths.0.1) _ c lengths.2 in
    let read : Catalogue = record { names = names.0.0; types = type_entries types.0.0 lengths.0.0; structs = structs.0.0 } in
    let same : read ≡ c = ok_same read c structs.2 in
    let n = names_ok order p names.0 all names.1 in
    let t = types_ok order p names.0.1 types.0 all types.1 in
    let l = lengths_ok order (length types.0.0) p types.0.1 lengths.0 all lengths.1 in
    let types-len : length (type_entries types.0.0 lengths.0.0) ≡ length types.0.0 = entries_len types.0.0 lengths.0.0 (sym l.1) in
    let s = all_structs_ok order read (length types.0.0) (length names.0.0) p lengths.0.1 structs.0 (sym types-len) refl all structs.1 in
    subst IsCatalogue same (record {
      few_names = n.1;
      few_types = omega (arith, types-len, t.1.count, t.2);
      few_structs = omega (arith, s.1.count, s.2);
      names = n.0;
      type_names = entries_names IsName types.0.0 lengths.0.0 t.1.named;
      type_names_differ = entries_differ types.0.0 lengths.0.0 t.1.differ;
      lengths_fit = entries_lengths (λ x. x < 2 ^ 16) types.0.0 lengths.0.0 l.0;
      structs = s.1.fit;
      struct_types_differ = s.1.differ;
    })

-- a catalogue that can be read is one by the grammar
pub IsCatalogue-can_be_read : (c : Catalogue) → CanBeRead c → IsCatalogue c
IsCatalogue-can_be_read c read = IsCatalogue-catalogue_of read.order read.payload c read.bytes read.reads

-- what was read, written in either order and read again, is the same
pub catalogue_of-written_again : (order other : Order) (p : List ℕ) (c : Catalogue)
    → All (λ b. b < 256) p → catalogue_of order p ≡ Ok c
    → catalogue_of other (catalogue_written other c) ≡ Ok c
catalogue_of-written_again order other p c all e = catalogue_of-catalogue_written other c (IsCatalogue-catalogue_of order p c all e)
