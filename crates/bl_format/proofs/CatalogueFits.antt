-- What a payload reads as is written in no more bytes than the payload has, each below 256: each part that is read
-- takes as many bytes as it is written in.
use Rattle.std.proofs.Common.{◌≡◌, ℕ, zero, suc, ◌+◌, ◌≤◌, ◌<◌, Bool, true, false, not, cond, All, List, [], ◌∷◌, ◌++◌, length, drop, Some, None, Result, Ok, Err, refl, sym, ap, subst, ◌∙◌, arith, ltb-false, ltb-true, length-drop, length-append, length-take}
use Rattle.std.specs.Prelude.{codes, nat_lt, flat_map, ◌==◌}
use Rattle.std.specs.Int.{byte_at, bytes_high_first, bytes_low_first}
use Rattle.std.specs.List.{position_or_len, list_any}
use Rattle.std.specs.Str.{bytes_eq}
use Rattle.std.proofs.lemmas.List.{length-replicate}
use Rattle.std.proofs.lemmas.List.Elements.{All-nil, All-cons, All-append, All-take, All-drop, All-replicate}
use Rattle.bl_num.specs.declared.number.Order.{Order}
use Rattle.bl_num.specs.declared.number.Order.TheVariants.{Little, Big}
use Rattle.bl_num.specs.Numbers.{bytes_of}
use Rattle.bl_num.proofs.BytesOf.{length-bytes_of}
use Rattle.bl_format.specs.declared.catalogue.SdnaFault.{SdnaFault}
use Rattle.bl_format.specs.declared.catalogue.SdnaFault.TheVariants.{BadTag, CutShort, TwoTypes, TwoStructs}
use Rattle.bl_format.specs.declared.catalogue.Catalogue.{Catalogue}
use Rattle.bl_format.specs.declared.catalogue.TypeEntry.{TypeEntry}
use Rattle.bl_format.specs.declared.catalogue.StructEntry.{StructEntry}
use Rattle.bl_format.specs.declared.catalogue.MemberEntry.{MemberEntry}
use Rattle.bl_format.specs.Words.{part, number_at, is_one_of, aligned_place, zeros}
use Rattle.bl_format.specs.Schema.{Reading, ensure, tag_at, count_at, index_at, name_by, name_at, many_at, type_names_at, member_at, structs_at, type_entries, names_at, types_at, lengths_at, all_structs_at, catalogue_of, catalogue_written, name_written, member_written, struct_written, padding_of, with_padding, names_part, types_part, lengths_part, structs_part}
use Rattle.bl_format.proofs.CatalogueRead.{bind_ok, ok_same, entries_len}
use Rattle.bl_format.proofs.CatalogueSpelled.{entries_names, entries_lengths}

-- all bytes are below 256
abbrev pub AreBytes : List ℕ → Type 0
AreBytes bytes = All (λ b. b < 256) bytes

-- what is read from a place up to another is written in as many bytes
record Takes (p : List ℕ) (at to : ℕ) (written : List ℕ) : Type 0 where
  end : to ≡ at + length written
  within : to ≤ length p
  bytes : AreBytes written

takes_both : (p : List ℕ) (a b c : ℕ) (u v : List ℕ) → Takes p a b u → Takes p b c v → Takes p a c (u ++ v)
takes_both p a b c u v h k = record {
  end = omega (arith, h.end, k.end, length-append u v);
  within = k.within;
  bytes = All-append (λ b. b < 256) u v h.bytes k.bytes;
}

takes_none : (p : List ℕ) (at : ℕ) → at ≤ length p → Takes p at at []
takes_none p at le = record { end = omega arith; within = le; bytes = All-nil (λ b. b < 256) }

-- ---- what an answer that is Ok says of its parts

not_cut : {A : Type 0} (cut : Bool) (z : SdnaFault) (r : Result A SdnaFault) (y : A) → cond cut (Err z) r ≡ Ok y → (cut ≡ false) × (r ≡ Ok y)
not_cut {A} true z r y e = absurd (let e' : ◌≡◌ {A = Result A SdnaFault} (Err z) (Ok y) = e in cc)
not_cut false z r y e = (refl, e)

fits : {A : Type 0} (good : Bool) (z : SdnaFault) (x y : A) → cond good (Ok x) (Err z) ≡ Ok y → x ≡ y
fits true z x y e = ok_same x y e
fits {A} false z x y e = absurd (let e' : ◌≡◌ {A = Result A SdnaFault} (Err z) (Ok y) = e in cc)

-- ---- one thing

byte_at-lt : (k x : ℕ) → byte_at k x < 256
byte_at-lt zero x = omega arith
byte_at-lt (suc k) x = omega arith

high_first_bytes : (n x : ℕ) → AreBytes (bytes_high_first n x)
high_first_bytes zero x = All-nil (λ b. b < 256)
high_first_bytes (suc n) x = All-cons (λ b. b < 256) (byte_at n x) (bytes_high_first n x) (byte_at-lt n x) (high_first_bytes n x)

low_first_bytes : (i n x : ℕ) → AreBytes (bytes_low_first i n x)
low_first_bytes i zero x = All-nil (λ b. b < 256)
low_first_bytes i (suc n) x = All-cons (λ b. b < 256) (byte_at i x) (bytes_low_first (suc i) n x) (byte_at-lt i x) (low_first_bytes (suc i) n x)

-- a number is written in bytes
pub bytes_of-AreBytes : (order : Order) (n x : ℕ) → AreBytes (bytes_of order n x)
bytes_of-AreBytes Little n x = low_first_bytes 0 n x
bytes_of-AreBytes Big n x = high_first_bytes n x

tag_takes : (tag p : List ℕ) (at to : ℕ) → length tag ≡ 4 → AreBytes tag → tag_at tag p at ≡ Ok to → Takes p at to tag
unfolding tag_at
tag_takes tag p at to four bytes e =
    let cut = not_cut (nat_lt (length p) (at + 4)) (CutShort at) (cond (bytes_eq (part p at 4) tag) (Ok (at + 4)) (Err (BadTag at))) to e in
    let is : at + 4 ≡ to = fits (bytes_eq (part p at 4) tag) (BadTag at) (at + 4) to cut.1 in
    record { end = omega (arith, is, four); within = omega (arith, is, ltb-false (length p) (at + 4) cut.0); bytes = bytes }

count_takes : (order : Order) (n : ℕ) (p : List ℕ) (at : ℕ) (v : ℕ × ℕ) → count_at order n p at ≡ Ok v → Takes p at v.1 (bytes_of order n v.0)
unfolding count_at
count_takes order n p at v e =
    let cut = not_cut (nat_lt (length p) (at + n)) (CutShort at) (Ok (number_at order p at n, at + n)) v e in
    let is : (number_at order p at n, at + n) ≡ v = ok_same (number_at order p at n, at + n) v cut.1 in
    let end : at + n ≡ v.1 = ap (λ (x : ℕ × ℕ). x.1) is in
    record { end = omega (arith, end, length-bytes_of order n v.0); within = omega (arith, end, ltb-false (length p) (at + n) cut.0); bytes = bytes_of-AreBytes order n v.0 }

index_takes : (order : Order) (n : ℕ) (p : List ℕ) (at : ℕ) (v : ℕ × ℕ) → index_at order n p at ≡ Ok v → Takes p at v.1 (bytes_of order 2 v.0)
unfolding index_at
index_takes order n p at v e =
    let first = bind_ok (count_at order 2 p at) _ v e in
    let second = bind_ok (ensure (nat_lt first.0.0 n) _) _ v first.2 in
    let same : first.0 ≡ v = ok_same first.0 v second.2 in
    count_takes order 2 p at v (first.1 ∙ ap (λ (x : ℕ × ℕ). Ok x) same)

-- a part has the bytes that are asked for
pub length-part : (p : List ℕ) (at n : ℕ) → at + n ≤ length p → length (part p at n) ≡ n
length-part p at n le = omega (arith, length-take n (drop at p), length-drop at p)

name_takes : (p : List ℕ) (at : ℕ) (v : List ℕ × ℕ) → AreBytes p → name_at p at ≡ Ok v → Takes p at v.1 (name_written v.0)
unfolding name_at
name_takes p at v all e = go (nat_lt (position_or_len (λ b. b == 0) (drop at p)) (length (drop at p))) refl e
  where
    go : (b : Bool) → nat_lt (position_or_len (λ b. b == 0) (drop at p)) (length (drop at p)) ≡ b
        → name_by p at (cond b (Some (position_or_len (λ b. b == 0) (drop at p))) None) ≡ Ok v → Takes p at v.1 (name_written v.0)
    go true lt e =
        let n : ℕ = position_or_len (λ b. b == 0) (drop at p) in
        let below : n < length (drop at p) = ltb-true n (length (drop at p)) lt in
        let le : at + n + 1 ≤ length p = omega (arith, length-drop at p) in
        let long : length (part p at n) ≡ n = length-part p at n (omega arith) in
        subst (λ (x : List ℕ × ℕ). Takes p at x.1 (name_written x.0)) (ok_same (part p at n, at + n + 1) v e) (record {
          end = omega (arith, long, length-append (part p at n) (0 ∷ []));
          within = le;
          bytes = All-append (λ b. b < 256) (part p at n) (0 ∷ []) (All-take (λ b. b < 256) n (drop at p) (All-drop (λ b. b < 256) at p all)) (All-cons (λ b. b < 256) 0 [] (omega arith) (All-nil (λ b. b < 256)));
        })
    go false lt e = absurd (let e' : ◌≡◌ {A = Result (List ℕ × ℕ) SdnaFault} (Err (CutShort at)) (Ok v) = e in cc)

-- ---- many things

-- what is read takes the bytes of many things, and is as many
record TakesMany {A : Type 0} (p : List ℕ) (write : A → List ℕ) (at n : ℕ) (v : List A × ℕ) : Type 0 where
  takes : Takes p at v.1 (flat_map write v.0)
  count : length v.0 ≡ n

takes_one_more : {A : Type 0} (p : List ℕ) (write : A → List ℕ) (at n : ℕ) (x : A) (next : ℕ) (v w : List A × ℕ)
    → Takes p at next (write x) → TakesMany p write next n v → ◌≡◌ {A = Result (List A × ℕ) SdnaFault} (Ok (x ∷ v.0, v.1)) (Ok w) → TakesMany p write at (suc n) w
takes_one_more {A} p write at n x next v w first others e =
    subst (λ (u : List A × ℕ). TakesMany p write at (suc n) u) (ok_same (x ∷ v.0, v.1) w e) (record {
      takes = takes_both p at next v.1 (write x) (flat_map write v.0) first others.takes;
      count = omega (arith, others.count);
    })

takes_no_more : {A : Type 0} (p : List ℕ) (write : A → List ℕ) (at : ℕ) (w : List A × ℕ)
    → at ≤ length p → ◌≡◌ {A = Result (List A × ℕ) SdnaFault} (Ok ([], at)) (Ok w) → TakesMany p write at 0 w
takes_no_more {A} p write at w le e =
    subst (λ (u : List A × ℕ). TakesMany p write at 0 u) (ok_same ([], at) w e) (record { takes = takes_none p at le; count = refl })

many_takes : {A : Type 0} (p : List ℕ) (one : ℕ → Reading A) (write : A → List ℕ)
    → ((at : ℕ) (v : A × ℕ) → one at ≡ Ok v → Takes p at v.1 (write v.0))
    → (n at : ℕ) (v : List A × ℕ) → at ≤ length p → many_at one n at ≡ Ok v → TakesMany p write at n v
unfolding many_at
many_takes p one write h zero at v le e = takes_no_more p write at v le e
many_takes p one write h (suc n) at v le e =
    let first = bind_ok (one at) _ v e in
    let others = bind_ok (many_at one n first.0.1) _ v first.2 in
    let here = h at first.0 first.1 in
    takes_one_more p write at n first.0.0 first.0.1 others.0 v here (many_takes p one write h n first.0.1 others.0 here.within others.1) others.2

type_names_takes : (p : List ℕ) (before : List (List ℕ)) (n at : ℕ) (v : List (List ℕ) × ℕ) → AreBytes p → at ≤ length p
    → type_names_at p before n at ≡ Ok v → TakesMany p name_written at n v
unfolding type_names_at
type_names_takes p before zero at v all le e = takes_no_more p name_written at v le e
type_names_takes p before (suc n) at v all le e =
    let first = bind_ok (name_at p at) _ v e in
    let test = bind_ok (ensure (not (is_one_of first.0.0 before)) (TwoTypes at)) _ v first.2 in
    let others = bind_ok (type_names_at p (first.0.0 ∷ before) n first.0.1) _ v test.2 in
    let here = name_takes p at first.0 all first.1 in
    takes_one_more p name_written at n first.0.0 first.0.1 others.0 v here (type_names_takes p (first.0.0 ∷ before) n first.0.1 others.0 all here.within others.1) others.2

member_takes : (order : Order) (types names : ℕ) (p : List ℕ) (at : ℕ) (v : MemberEntry × ℕ)
    → member_at order types names p at ≡ Ok v → Takes p at v.1 (member_written order v.0)
unfolding member_at
member_takes order types names p at v e =
    let first = bind_ok (index_at order types p at) _ v e in
    let second = bind_ok (index_at order names p first.0.1) _ v first.2 in
    subst (λ (x : MemberEntry × ℕ). Takes p at x.1 (member_written order x.0)) (ok_same (record { type_number = first.0.0; name_number = second.0.0 }, second.0.1) v second.2)
    (takes_both p at first.0.1 second.0.1 (bytes_of order 2 first.0.0) (bytes_of order 2 second.0.0) (index_takes order types p at first.0 first.1) (index_takes order names p first.0.1 second.0 second.1))

structs_takes : (order : Order) (types names : ℕ) (p before : List ℕ) (n at : ℕ) (v : List StructEntry × ℕ) → at ≤ length p
    → structs_at order types names p before n at ≡ Ok v → TakesMany p (struct_written order) at n v
unfolding structs_at
structs_takes order types names p before zero at v le e = takes_no_more p (struct_written order) at v le e
structs_takes order types names p before (suc n) at v le e =
    let first = bind_ok (index_at order types p at) _ v e in
    let t : ℕ = first.0.0 in
    let test = bind_ok (ensure (not (list_any (λ x. x == t) before)) (TwoStructs at)) _ v first.2 in
    let count = bind_ok (count_at order 2 p first.0.1) _ v test.2 in
    let members = bind_ok (many_at (member_at order types names p) count.0.0 count.0.1) _ v count.2 in
    let others = bind_ok (structs_at order types names p (t ∷ before) n members.0.1) _ v members.2 in
    let number = index_takes order types p at first.0 first.1 in
    let many = count_takes order 2 p first.0.1 count.0 count.1 in
    let inside = many_takes p (member_at order types names p) (member_written order) (member_takes order types names p) count.0.0 count.0.1 members.0 many.within members.1 in
    let counted : Takes p first.0.1 count.0.1 (bytes_of order 2 (length members.0.0)) = subst (λ (m : ℕ). Takes p first.0.1 count.0.1 (bytes_of order 2 m)) (sym inside.count) many in
    let front = takes_both p at first.0.1 count.0.1 (bytes_of order 2 t) (bytes_of order 2 (length members.0.0)) number counted in
    let here = takes_both p at count.0.1 members.0.1 (bytes_of order 2 t ++ bytes_of order 2 (length members.0.0)) (flat_map (member_written order) members.0.0) front inside.takes in
    takes_one_more p (struct_written order) at n (record { type_number = t; members = members.0.0 }) members.0.1 others.0 v here
    (structs_takes order types names p (t ∷ before) n members.0.1 others.0 here.within others.1) others.2

-- ---- the parts

tag_bytes : (a b c d : ℕ) → a < 256 → b < 256 → c < 256 → d < 256 → AreBytes (a ∷ b ∷ c ∷ d ∷ [])
tag_bytes a b c d la lb lc ld =
    All-cons (λ x. x < 256) a (b ∷ c ∷ d ∷ []) la (All-cons (λ x. x < 256) b (c ∷ d ∷ []) lb (All-cons (λ x. x < 256) c (d ∷ []) lc (All-cons (λ x. x < 256) d [] ld (All-nil (λ x. x < 256)))))

sdna_bytes : AreBytes (codes "SDNA")
sdna_bytes = tag_bytes 83 68 78 65 (omega arith) (omega arith) (omega arith) (omega arith)

name_bytes : AreBytes (codes "NAME")
name_bytes = tag_bytes 78 65 77 69 (omega arith) (omega arith) (omega arith) (omega arith)

type_bytes : AreBytes (codes "TYPE")
type_bytes = tag_bytes 84 89 80 69 (omega arith) (omega arith) (omega arith) (omega arith)

tlen_bytes : AreBytes (codes "TLEN")
tlen_bytes = tag_bytes 84 76 69 78 (omega arith) (omega arith) (omega arith) (omega arith)

strc_bytes : AreBytes (codes "STRC")
strc_bytes = tag_bytes 83 84 82 67 (omega arith) (omega arith) (omega arith) (omega arith)

-- a count and as many things
counted_takes : {A : Type 0} (order : Order) (p : List ℕ) (write : A → List ℕ) (at next n : ℕ) (v : List A × ℕ)
    → Takes p at next (bytes_of order 4 n) → TakesMany p write next n v → Takes p at v.1 (bytes_of order 4 (length v.0) ++ flat_map write v.0)
counted_takes order p write at next n v count many =
    takes_both p at next v.1 (bytes_of order 4 (length v.0)) (flat_map write v.0) (subst (λ (m : ℕ). Takes p at next (bytes_of order 4 m)) (sym many.count) count) many.takes

names_takes : (order : Order) (p : List ℕ) (v : List (List ℕ) × ℕ) → AreBytes p → names_at order p ≡ Ok v
    → Takes p 0 v.1 (codes "SDNA" ++ (codes "NAME" ++ (bytes_of order 4 (length v.0) ++ flat_map name_written v.0)))
names_takes order p v all e =
    let first = bind_ok (tag_at (codes "SDNA") p 0) _ v e in
    let second = bind_ok (tag_at (codes "NAME") p first.0) _ v first.2 in
    let n = bind_ok (count_at order 4 p second.0) _ v second.2 in
    let count = count_takes order 4 p second.0 n.0 n.1 in
    let many = many_takes p (name_at p) name_written (λ at w h. name_takes p at w all h) n.0.0 n.0.1 v count.within n.2 in
    let text : List ℕ = bytes_of order 4 (length v.0) ++ flat_map name_written v.0 in
    let counted = counted_takes order p name_written second.0 n.0.1 n.0.0 v count many in
    takes_both p 0 first.0 v.1 (codes "SDNA") (codes "NAME" ++ text) (tag_takes (codes "SDNA") p 0 first.0 refl sdna_bytes first.1)
    (takes_both p first.0 second.0 v.1 (codes "NAME") text (tag_takes (codes "NAME") p first.0 second.0 refl name_bytes second.1) counted)

types_takes : (order : Order) (p : List ℕ) (at : ℕ) (v : List (List ℕ) × ℕ) → AreBytes p → types_at order p at ≡ Ok v
    → Takes p (aligned_place at) v.1 (codes "TYPE" ++ (bytes_of order 4 (length v.0) ++ flat_map name_written v.0))
types_takes order p at v all e =
    let tag = bind_ok (tag_at (codes "TYPE") p (aligned_place at)) _ v e in
    let n = bind_ok (count_at order 4 p tag.0) _ v tag.2 in
    let count = count_takes order 4 p tag.0 n.0 n.1 in
    let many = type_names_takes p [] n.0.0 n.0.1 v all count.within n.2 in
    takes_both p (aligned_place at) tag.0 v.1 (codes "TYPE") (bytes_of order 4 (length v.0) ++ flat_map name_written v.0)
    (tag_takes (codes "TYPE") p (aligned_place at) tag.0 refl type_bytes tag.1) (counted_takes order p name_written tag.0 n.0.1 n.0.0 v count many)

lengths_take : (order : Order) (types : ℕ) (p : List ℕ) (at : ℕ) (v : List ℕ × ℕ) → lengths_at order types p at ≡ Ok v
    → Takes p (aligned_place at) v.1 (codes "TLEN" ++ flat_map (bytes_of order 2) v.0) × (length v.0 ≡ types)
lengths_take order types p at v e =
    let tag = bind_ok (tag_at (codes "TLEN") p (aligned_place at)) _ v e in
    let here = tag_takes (codes "TLEN") p (aligned_place at) tag.0 refl tlen_bytes tag.1 in
    let many = many_takes p (count_at order 2 p) (bytes_of order 2) (count_takes order 2 p) types tag.0 v here.within tag.2 in
    (takes_both p (aligned_place at) tag.0 v.1 (codes "TLEN") (flat_map (bytes_of order 2) v.0) here many.takes, many.count)

all_structs_take : (order : Order) (types names : ℕ) (p : List ℕ) (at : ℕ) (v : List StructEntry × ℕ) → all_structs_at order types names p at ≡ Ok v
    → Takes p (aligned_place at) v.1 (codes "STRC" ++ (bytes_of order 4 (length v.0) ++ flat_map (struct_written order) v.0))
all_structs_take order types names p at v e =
    let tag = bind_ok (tag_at (codes "STRC") p (aligned_place at)) _ v e in
    let n = bind_ok (count_at order 4 p tag.0) _ v tag.2 in
    let count = count_takes order 4 p tag.0 n.0 n.1 in
    let many = structs_takes order types names p [] n.0.0 n.0.1 v count.within n.2 in
    takes_both p (aligned_place at) tag.0 v.1 (codes "STRC") (bytes_of order 4 (length v.0) ++ flat_map (struct_written order) v.0)
    (tag_takes (codes "STRC") p (aligned_place at) tag.0 refl strc_bytes tag.1) (counted_takes order p (struct_written order) tag.0 n.0.1 n.0.0 v count many)

-- ---- types of names and lengths

-- ---- the whole payload

numbers_bytes : (order : Order) (ts : List TypeEntry) → AreBytes (flat_map (λ (t : TypeEntry). bytes_of order 2 t.length) ts)
numbers_bytes order [] = All-nil (λ b. b < 256)
numbers_bytes order (t ∷ ts) = All-append (λ b. b < 256) (bytes_of order 2 t.length) (flat_map (λ (t : TypeEntry). bytes_of order 2 t.length) ts) (bytes_of-AreBytes order 2 t.length) (numbers_bytes order ts)

-- the lengths of any catalogue are written in bytes
pub lengths_part-AreBytes : (order : Order) (c : Catalogue) → AreBytes (lengths_part order c)
lengths_part-AreBytes order c =
    All-append (λ b. b < 256) (codes "TLEN") (flat_map (λ (t : TypeEntry). bytes_of order 2 t.length) c.types) tlen_bytes (numbers_bytes order c.types)

-- the parts of a catalogue's payload are bytes, and the whole has at most so many
pub record PartsFit (order : Order) (c : Catalogue) (most : ℕ) : Type 0 where
  pub names : AreBytes (names_part order c)
  pub types : AreBytes (types_part order c)
  pub structs : AreBytes (structs_part order c)
  pub short : length (catalogue_written order c) ≤ most

aligned_sum : (a b : ℕ) → aligned_place (aligned_place a + b) ≡ aligned_place a + aligned_place b
aligned_sum a b = omega arith

length-with_padding : (text : List ℕ) → length (with_padding text) ≡ aligned_place (length text)
length-with_padding text = omega (arith, length-append text (zeros (padding_of text)), length-replicate {A = ℕ} (padding_of text) 0)

-- how long the payload of a catalogue is
pub length-catalogue_written : (order : Order) (c : Catalogue)
    → length (catalogue_written order c) ≡ aligned_place (length (names_part order c)) + aligned_place (length (types_part order c)) + aligned_place (length (lengths_part order c)) + length (structs_part order c)
unfolding catalogue_written
length-catalogue_written order c =
    let a : List ℕ = with_padding (names_part order c) in
    let b : List ℕ = with_padding (types_part order c) in
    let d : List ℕ = with_padding (lengths_part order c) in
    omega (arith, length-append (a ++ b ++ d) (structs_part order c), length-append (a ++ b) d, length-append a b, length-with_padding (names_part order c), length-with_padding (types_part order c), length-with_padding (lengths_part order c))

aligned_behind : (x y z b d : ℕ) → b ≡ aligned_place x + aligned_place y → d ≡ b + z → aligned_place d ≡ aligned_place x + aligned_place y + aligned_place z
aligned_behind x y z b d at end = omega arith

parts_fit : (order : Order) (c : Catalogue) (p : List ℕ) (a b d f : ℕ) → Takes p 0 a (names_part order c)
    → Takes p (aligned_place a) b (types_part order c) → Takes p (aligned_place b) d (lengths_part order c)
    → Takes p (aligned_place d) f (structs_part order c) → PartsFit order c (length p)
parts_fit order c p a b d f names types lengths structs =
    let x : ℕ = length (names_part order c) in
    let y : ℕ = length (types_part order c) in
    let z : ℕ = length (lengths_part order c) in
    let first : a ≡ x = omega (arith, names.end) in
    let second : aligned_place b ≡ aligned_place x + aligned_place y = ap (λ (n : ℕ). aligned_place n) (types.end ∙ ap (λ (n : ℕ). aligned_place n + y) first) ∙ aligned_sum x y in
    let third : aligned_place d ≡ aligned_place x + aligned_place y + aligned_place z = aligned_behind x y z (aligned_place b) d second lengths.end in
    record {
      names = names.bytes;
      types = types.bytes;
      structs = structs.bytes;
      short = omega (arith, length-catalogue_written order c, structs.end, structs.within, third);
    }

-- what a payload of bytes reads as is written in bytes, and in no more than the payload has
pub catalogue_of-PartsFit : (order : Order) (p : List ℕ) (c : Catalogue) → AreBytes p → catalogue_of order p ≡ Ok c
    → PartsFit order c (length p)
unfolding catalogue_of
catalogue_of-PartsFit order p c all e =
    let names = bind_ok (names_at order p) _ c e in
    let types = bind_ok (types_at order p names.0.1) _ c names.2 in
    let lengths = bind_ok (lengths_at order (length types.0.0) p types.0.1) _ c types.2 in
    let structs = bind_ok (all_structs_at order (length types.0.0) (length names.0.0) p lengths.0.1) _ c lengths.2 in
    let read : Catalogue = record { names = names.0.0; types = type_entries types.0.0 lengths.0.0; structs = structs.0.0 } in
    let a = names_takes order p names.0 all names.1 in
    let b = types_takes order p names.0.1 types.0 all types.1 in
    let d = lengths_take order (length types.0.0) p types.0.1 lengths.0 lengths.1 in
    let f = all_structs_take order (length types.0.0) (length names.0.0) p lengths.0.1 structs.0 structs.1 in
    let count : length (type_entries types.0.0 lengths.0.0) ≡ length types.0.0 = entries_len types.0.0 lengths.0.0 (sym d.1) in
    let b' : Takes p (aligned_place names.0.1) types.0.1 (types_part order read) = rw (count, entries_names types.0.0 lengths.0.0 (sym d.1)) b in
    let d' : Takes p (aligned_place types.0.1) lengths.0.1 (lengths_part order read) = rw (entries_lengths order types.0.0 lengths.0.0 (sym d.1)) d.0 in
    subst (λ (x : Catalogue). PartsFit order x (length p)) (ok_same read c structs.2)
    (parts_fit order read p names.0.1 types.0.1 lengths.0.1 structs.0.1 a b' d' f)

with_padding-AreBytes : (text : List ℕ) → AreBytes text → AreBytes (with_padding text)
with_padding-AreBytes text all = All-append (λ b. b < 256) text (zeros (padding_of text)) all (All-replicate (λ b. b < 256) (padding_of text) 0 (omega arith))

-- the payload of a catalogue whose parts are bytes is bytes
pub catalogue_written-AreBytes : (order : Order) (c : Catalogue) (most : ℕ) → PartsFit order c most → AreBytes (catalogue_written order c)
unfolding catalogue_written
catalogue_written-AreBytes order c most h =
    let a : List ℕ = with_padding (names_part order c) in
    let b : List ℕ = with_padding (types_part order c) in
    let d : List ℕ = with_padding (lengths_part order c) in
    All-append (λ x. x < 256) (a ++ b ++ d) (structs_part order c)
    (All-append (λ x. x < 256) (a ++ b) d
    (All-append (λ x. x < 256) a b (with_padding-AreBytes (names_part order c) h.names) (with_padding-AreBytes (types_part order c) h.types))
    (with_padding-AreBytes (lengths_part order c) (lengths_part-AreBytes order c)))
    h.structs
