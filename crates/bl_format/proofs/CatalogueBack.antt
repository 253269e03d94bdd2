-- The grammar of payloads implies their reading: a payload that is its catalogue's parts, with any bytes as padding
-- and behind the last struct, reads as that catalogue. So a catalogue that is written is read again.
use Rattle.std.proofs.Common.{◌≡◌, ◌≢◌, ℕ, suc, ◌+◌, ◌-◌, ◌^◌, ◌<◌, true, false, List, [], ◌∷◌, ◌++◌, length, take, drop, Some, Ok, refl, sym, ap, ◌∙◌, append_assoc, arith}
use Rattle.std.specs.Prelude.{All, codes, flat_map, map, nat_lt, ◌==◌}
use Rattle.std.specs.List.{slice_index_or, AllPairs, position, position_or_len, list_any}
use Rattle.std.specs.Str.{bytes_eq}
use Rattle.std.proofs.lemmas.List.{take_at, drop_at, length-append, drop-drop, length-drop, length-replicate, append-nil, length-map}
use Rattle.std.proofs.lemmas.List.Elements.{All-head, All-tail}
use Rattle.std.proofs.lemmas.Bool.{le-ltb, lt-ltb, false_from_ne_true, ne_eqb}
use Rattle.std.proofs.lemmas.Slice.Eq.{bytes_eq-Decides}
use Rattle.bl_num.specs.declared.number.Order.{Order}
use Rattle.bl_num.specs.Numbers.{number_of, bytes_of}
use Rattle.bl_format.specs.declared.catalogue.Catalogue.{Catalogue}
use Rattle.bl_format.specs.declared.catalogue.TypeEntry.{TypeEntry}
use Rattle.bl_format.specs.declared.catalogue.StructEntry.{StructEntry}
use Rattle.bl_format.specs.declared.catalogue.MemberEntry.{MemberEntry}
use Rattle.bl_format.specs.Words.{part, is_one_of, aligned_place, zeros}
use Rattle.bl_format.specs.Schema.{Reading, tag_at, count_at, index_at, name_at, many_at, type_names_at, member_at, structs_at, name_written, member_written, struct_written, type_entries, padding_of, names_part, types_part, lengths_part, structs_part, catalogue_of, catalogue_written, IsName, MemberFits, StructFits, IsCatalogue, IsPayload}
use Rattle.bl_num.proofs.BytesOf.{length-bytes_of, number_of-bytes_of}

-- how much stands behind a place
pub len_at : (p t back : List ℕ) (at : ℕ) → drop at p ≡ t ++ back → length p - at ≡ length t + length back
len_at p t back at stands = sym (length-drop at p) ∙ ap length stands ∙ length-append t back

-- what stands behind a text
pub behind : (p t back : List ℕ) (at : ℕ) → drop at p ≡ t ++ back → drop (at + length t) p ≡ back
behind p t back at stands = sym (drop-drop (length t) at p) ∙ ap (drop (length t)) stands ∙ drop_at t back (length t) refl

-- a number of n bytes
pub count_at-bytes_of : (order : Order) (n v at : ℕ) (p back : List ℕ)
    → 0 < n → v < 256 ^ n → drop at p ≡ bytes_of order n v ++ back → count_at order n p at ≡ Ok (v, at + n)
unfolding count_at
count_at-bytes_of order n v at p back some lt stands =
    let len = len_at p (bytes_of order n v) back at stands in
    let fits : nat_lt (length p) (at + n) ≡ false = le-ltb (length p) (at + n) (omega (arith, len, length-bytes_of order n v, some)) in
    let number : number_of order n (drop at p) ≡ v = ap (number_of order n) stands ∙ number_of-bytes_of order n v back lt in
    rw (fits, number) refl

-- a number of two bytes that is in range
pub index_at-bytes_of : (order : Order) (n v at : ℕ) (p back : List ℕ)
    → v < n → v < 2 ^ 16 → drop at p ≡ bytes_of order 2 v ++ back → index_at order n p at ≡ Ok (v, at + 2)
unfolding index_at
index_at-bytes_of order n v at p back inside lt stands = rw (count_at-bytes_of order 2 v at p back (omega arith) (omega (arith, lt)) stands, lt-ltb v n inside) refl

pub text_eq : (xs : List ℕ) → bytes_eq xs xs ≡ true
text_eq xs = (bytes_eq-Decides xs xs).1 refl

pub text_ne : (xs ys : List ℕ) → xs ≢ ys → bytes_eq xs ys ≡ false
text_ne xs ys ne = false_from_ne_true (bytes_eq xs ys) (λ e. ne ((bytes_eq-Decides xs ys).0 e))

pub tag_at-tag : (tag : List ℕ) (at : ℕ) (p back : List ℕ)
    → length tag ≡ 4 → drop at p ≡ tag ++ back → tag_at tag p at ≡ Ok (at + 4)
unfolding tag_at
tag_at-tag tag at p back four stands =
    let len = len_at p tag back at stands in
    let fits : nat_lt (length p) (at + 4) ≡ false = le-ltb (length p) (at + 4) (omega (arith, len, four)) in
    let same : bytes_eq (part p at 4) tag ≡ true = ap (λ (t : List ℕ). bytes_eq (take 4 t) tag) stands ∙ ap (λ (t : List ℕ). bytes_eq t tag) (take_at tag back 4 four) ∙ text_eq tag in
    rw (fits, same) refl

-- the first zero stands behind a name
zero_place : (name back : List ℕ)
    → IsName name → position_or_len (λ b. b == 0) (name ++ 0 ∷ back) ≡ length name
zero_place [] back is = refl
zero_place (b ∷ bs) back is =
    let differs : (b == 0) ≡ false = ne_eqb b 0 (All-head (λ b. b ≢ 0) b bs is) in
    let more : position_or_len (λ b. b == 0) (bs ++ 0 ∷ back) ≡ length bs = zero_place bs back (All-tail (λ b. b ≢ 0) b bs is) in
    rw (differs, more) (omega arith)

pub name_at-name : (name : List ℕ) (at : ℕ) (p back : List ℕ)
    → IsName name → drop at p ≡ name ++ 0 ∷ back → name_at p at ≡ Ok (name, at + length name + 1)
unfolding name_at
name_at-name name at p back is stands =
    let place : position_or_len (λ b. b == 0) (drop at p) ≡ length name = ap (position_or_len (λ b. b == 0)) stands ∙ zero_place name back is in
    let len : length (drop at p) ≡ length name + suc (length back) = ap length stands ∙ length-append name (0 ∷ back) in
    let found : position (λ b. b == 0) (drop at p) ≡ Some (length name) = rw (place, len, lt-ltb (length name) (length name + suc (length back)) (omega arith)) refl in
    let text : part p at (length name) ≡ name = ap (take (length name)) stands ∙ take_at name (0 ∷ back) (length name) refl in
    rw (found, text) refl

-- things that are read back one by one are read back one after another
pub many_at-all : {A : Type 0} (one : ℕ → Reading A) (write : A → List ℕ) (P : A → Type 0) (p : List ℕ)
    → ((x : A) (at : ℕ) (back : List ℕ) → P x → drop at p ≡ write x ++ back → one at ≡ Ok (x, at + length (write x)))
    → (xs : List A) (at : ℕ) (back : List ℕ) → All P xs → drop at p ≡ flat_map write xs ++ back
    → many_at one (length xs) at ≡ Ok (xs, at + length (flat_map write xs))
unfolding many_at
many_at-all one write P p reads [] at back all stands = ap (λ (e : ℕ). Ok ([], e)) (omega arith)
many_at-all one write P p reads (x ∷ xs) at back all stands =
    let others : List ℕ = flat_map write xs in
    let split : drop at p ≡ write x ++ (others ++ back) = stands ∙ simp append_assoc in
    let first : one at ≡ Ok (x, at + length (write x)) = reads x at (others ++ back) (All-head P x xs all) split in
    let rest : many_at one (length xs) (at + length (write x)) ≡ Ok (xs, at + length (write x) + length others) = many_at-all one write P p reads xs (at + length (write x)) back (All-tail P x xs all) (behind p (write x) (others ++ back) at split) in
    let end : at + length (write x) + length others ≡ at + length (write x ++ others) = omega (arith, length-append (write x) others) in
    rw (first, rest, end) refl

-- a name with its zero
pub name_at-name_written : (p : List ℕ) (name : List ℕ) (at : ℕ) (back : List ℕ)
    → IsName name → drop at p ≡ name_written name ++ back
    → name_at p at ≡ Ok (name, at + length (name_written name))
name_at-name_written p name at back is stands =
    let end : at + length name + 1 ≡ at + length (name_written name) = omega (arith, length-append name (0 ∷ [])) in
    name_at-name name at p back is (stands ∙ simp append_assoc) ∙ ap (λ (e : ℕ). Ok (name, e)) end

-- the first of a list whose elements pairwise differ, and each other one
pub pairs_head : {X : Type 0} (R : X → X → Type 0) (x : X) (xs : List X) → AllPairs R (x ∷ xs) → All (R x) xs
pairs_head R x xs p = λ k d lt. p 0 (suc k) d (omega arith) (omega (arith, lt))

-- the others pairwise differ
pub pairs_tail : {X : Type 0} (R : X → X → Type 0) (x : X) (xs : List X) → AllPairs R (x ∷ xs) → AllPairs R xs
pairs_tail R x xs p = λ i j d lt inside. p (suc i) (suc j) d (omega (arith, lt)) (omega (arith, inside))

-- type names, none of which stood before
pub type_names_at-all : (p : List ℕ) (ts : List TypeEntry) (before : List (List ℕ)) (at : ℕ) (back : List ℕ)
    → All (λ (t : TypeEntry). IsName t.name) ts
    → All (λ (t : TypeEntry). is_one_of t.name before ≡ false) ts
    → AllPairs (λ (t u : TypeEntry). t.name ≢ u.name) ts
    → drop at p ≡ flat_map (λ (t : TypeEntry). name_written t.name) ts ++ back
    → type_names_at p before (length ts) at ≡ Ok (map (λ (t : TypeEntry). t.name) ts, at + length (flat_map (λ (t : TypeEntry). name_written t.name) ts))
unfolding type_names_at
type_names_at-all p [] before at back names new differ stands = ap (λ (e : ℕ). Ok ([], e)) (omega arith)
type_names_at-all p (t ∷ ts) before at back names new differ stands =
    let IsNamed : TypeEntry → Type 0 = λ u. IsName u.name in
    let IsNew : TypeEntry → Type 0 = λ u. is_one_of u.name before ≡ false in
    let Differ : TypeEntry → TypeEntry → Type 0 = λ u v. u.name ≢ v.name in
    let write : TypeEntry → List ℕ = λ u. name_written u.name in
    let others : List ℕ = flat_map write ts in
    let split : drop at p ≡ write t ++ (others ++ back) = stands ∙ simp append_assoc in
    let first : name_at p at ≡ Ok (t.name, at + length (write t)) = name_at-name_written p t.name at (others ++ back) (All-head IsNamed t ts names) split in
    let fresh : is_one_of t.name before ≡ false = All-head IsNew t ts new in
    let still-new : All (λ (u : TypeEntry). is_one_of u.name (t.name ∷ before) ≡ false) ts = λ k d lt. rw (text_ne (slice_index_or ts k d).name t.name (λ e. pairs_head Differ t ts differ k d lt (sym e)), All-tail IsNew t ts new k d lt) refl in
    let rest = type_names_at-all p ts (t.name ∷ before) (at + length (write t)) back (All-tail IsNamed t ts names) still-new (pairs_tail Differ t ts differ) (behind p (write t) (others ++ back) at split) in
    let end : at + length (write t) + length others ≡ at + length (write t ++ others) = omega (arith, length-append (write t) others) in
    rw (first, fresh, rest, end) refl

-- a member's two numbers
pub member_at-member_written : (order : Order) (c : Catalogue) (p : List ℕ) (m : MemberEntry) (at : ℕ) (back : List ℕ)
    → MemberFits c m → drop at p ≡ member_written order m ++ back
    → member_at order (length c.types) (length c.names) p at ≡ Ok (m, at + length (member_written order m))
unfolding member_at
member_at-member_written order c p m at back fits stands =
    let a = bytes_of order 2 m.type_number in
    let b = bytes_of order 2 m.name_number in
    let split : drop at p ≡ a ++ (b ++ back) = stands ∙ simp append_assoc in
    let first = index_at-bytes_of order (length c.types) m.type_number at p (b ++ back) fits.type_number fits.type_number_fits split in
    let next : drop (at + 2) p ≡ b ++ back = ap (λ (n : ℕ). drop (at + n) p) (sym (length-bytes_of order 2 m.type_number)) ∙ behind p a (b ++ back) at split in
    let second = index_at-bytes_of order (length c.names) m.name_number (at + 2) p back fits.name_number fits.name_number_fits next in
    let end : at + 2 + 2 ≡ at + length (a ++ b) = omega (arith, length-append a b, length-bytes_of order 2 m.type_number, length-bytes_of order 2 m.name_number) in
    rw (first, second, end) refl

-- structs, none of a type that stood before
pub structs_at-all : (order : Order) (c : Catalogue) (p : List ℕ) (ss : List StructEntry) (before : List ℕ) (at : ℕ) (back : List ℕ)
    → All (StructFits c) ss
    → All (λ (s : StructEntry). list_any (λ x. x == s.type_number) before ≡ false) ss
    → AllPairs (λ (s t : StructEntry). s.type_number ≢ t.type_number) ss
    → drop at p ≡ flat_map (struct_written order) ss ++ back
    → structs_at order (length c.types) (length c.names) p before (length ss) at ≡ Ok (ss, at + length (flat_map (struct_written order) ss))
unfolding structs_at
structs_at-all order c p [] before at back fit new differ stands = ap (λ (e : ℕ). Ok ([], e)) (omega arith)
structs_at-all order c p (s ∷ ss) before at back fit new differ stands =
    let IsNew : StructEntry → Type 0 = λ u. list_any (λ x. x == u.type_number) before ≡ false in
    let Differ : StructEntry → StructEntry → Type 0 = λ u v. u.type_number ≢ v.type_number in
    let write = struct_written order in
    let fits : StructFits c s = All-head (StructFits c) s ss fit in
    let a = bytes_of order 2 s.type_number in
    let b = bytes_of order 2 (length s.members) in
    let members : List ℕ = flat_map (member_written order) s.members in
    let others : List ℕ = flat_map write ss in
    let behind-members : List ℕ = others ++ back in
    let la = length-bytes_of order 2 s.type_number in
    let lb = length-bytes_of order 2 (length s.members) in
    let split : drop at p ≡ a ++ (b ++ (members ++ behind-members)) = stands ∙ simp append_assoc in
    let number = index_at-bytes_of order (length c.types) s.type_number at p (b ++ (members ++ behind-members)) fits.type_number fits.type_number_fits split in
    let fresh : list_any (λ x. x == s.type_number) before ≡ false = All-head IsNew s ss new in
    let second : drop (at + 2) p ≡ b ++ (members ++ behind-members) = ap (λ (n : ℕ). drop (at + n) p) (sym la) ∙ behind p a (b ++ (members ++ behind-members)) at split in
    let count = count_at-bytes_of order 2 (length s.members) (at + 2) p (members ++ behind-members) (omega arith) (omega (arith, fits.few_members)) second in
    let third : drop (at + 2 + 2) p ≡ members ++ behind-members = ap (λ (n : ℕ). drop (at + 2 + n) p) (sym lb) ∙ behind p b (members ++ behind-members) (at + 2) second in
    let all-members = many_at-all (member_at order (length c.types) (length c.names) p) (member_written order) (MemberFits c) p (member_at-member_written order c p) s.members (at + 2 + 2) behind-members fits.members third in
    let fourth : drop (at + 2 + 2 + length members) p ≡ others ++ back = behind p members behind-members (at + 2 + 2) third in
    let still-new : All (λ (u : StructEntry). list_any (λ x. x == u.type_number) (s.type_number ∷ before) ≡ false) ss = λ k d lt. rw (ne_eqb s.type_number (slice_index_or ss k d).type_number (pairs_head Differ s ss differ k d lt), All-tail IsNew s ss new k d lt) refl in
    let rest = structs_at-all order c p ss (s.type_number ∷ before) (at + 2 + 2 + length members) back (All-tail (StructFits c) s ss fit) still-new (pairs_tail Differ s ss differ) fourth in
    let end : at + 2 + 2 + length members + length others ≡ at + length (write s ++ others) = omega (arith, length-append (write s) others, length-append (a ++ b) members, length-append a b, la, lb) in
    rw (number, fresh, count, all-members, rest, end) refl

-- the types of their names and lengths
type_entries-types : (ts : List TypeEntry)
    → type_entries (map (λ (t : TypeEntry). t.name) ts) (map (λ (t : TypeEntry). t.length) ts) ≡ ts
type_entries-types [] = refl
type_entries-types (t ∷ ts) = ap (λ (us : List TypeEntry). t ∷ us) (type_entries-types ts)

-- the lengths of types
many_at-lengths : (order : Order) (p : List ℕ) (ts : List TypeEntry) (at : ℕ) (back : List ℕ)
    → All (λ (t : TypeEntry). t.length < 2 ^ 16) ts
    → drop at p ≡ flat_map (λ (t : TypeEntry). bytes_of order 2 t.length) ts ++ back
    → many_at (count_at order 2 p) (length ts) at ≡ Ok (map (λ (t : TypeEntry). t.length) ts, at + length (flat_map (λ (t : TypeEntry). bytes_of order 2 t.length) ts))
unfolding many_at
many_at-lengths order p [] at back fit stands = ap (λ (e : ℕ). Ok ([], e)) (omega arith)
many_at-lengths order p (t ∷ ts) at back fit stands =
    let Fits : TypeEntry → Type 0 = λ u. u.length < 2 ^ 16 in
    let write : TypeEntry → List ℕ = λ u. bytes_of order 2 u.length in
    let others : List ℕ = flat_map write ts in
    let lt : t.length < 2 ^ 16 = All-head Fits t ts fit in
    let len = length-bytes_of order 2 t.length in
    let split : drop at p ≡ write t ++ (others ++ back) = stands ∙ simp append_assoc in
    let first = count_at-bytes_of order 2 t.length at p (others ++ back) (omega arith) (omega (arith, lt)) split in
    let next : drop (at + 2) p ≡ others ++ back = ap (λ (n : ℕ). drop (at + n) p) (sym len) ∙ behind p (write t) (others ++ back) at split in
    let rest = many_at-lengths order p ts (at + 2) back (All-tail Fits t ts fit) next in
    let end : at + 2 + length others ≡ at + length (write t ++ others) = omega (arith, length-append (write t) others, len) in
    rw (first, rest, end) refl

-- the pieces of a payload, one behind another
regroup : (a b n ns bt ty tc ts bl tl ls bs st sc ss rest : List ℕ)
    → (a ++ b ++ n ++ ns) ++ bt ++ (ty ++ tc ++ ts) ++ bl ++ (tl ++ ls) ++ bs ++ (st ++ sc ++ ss) ++ rest
    ≡ a ++ (b ++ (n ++ (ns ++ (bt ++ (ty ++ (tc ++ (ts ++ (bl ++ (tl ++ (ls ++ (bs ++ (st ++ (sc ++ (ss ++ rest))))))))))))))
regroup a b n ns bt ty tc ts bl tl ls bs st sc ss rest = simp append_assoc

-- a payload by the grammar reads as its catalogue
pub catalogue_of-IsPayload : (order : Order) (c : Catalogue) (p : List ℕ)
    → IsPayload order c p → catalogue_of order p ≡ Ok c
unfolding catalogue_of
catalogue_of-IsPayload order c p f =
    let is = f.is_catalogue in
    let named : ℕ → List ℕ = bytes_of order 4 in
    let names : List ℕ = flat_map name_written c.names in
    let types : List ℕ = flat_map (λ (t : TypeEntry). name_written t.name) c.types in
    let lengths : List ℕ = flat_map (λ (t : TypeEntry). bytes_of order 2 t.length) c.types in
    let structs : List ℕ = flat_map (struct_written order) c.structs in
    let names-count = length-bytes_of order 4 (length c.names) in
    let types-count = length-bytes_of order 4 (length c.types) in
    let structs-count = length-bytes_of order 4 (length c.structs) in
    let after-lengths : List ℕ = f.before_structs ++ (codes "STRC" ++ (named (length c.structs) ++ (structs ++ f.rest))) in
    let after-types : List ℕ = f.before_lengths ++ (codes "TLEN" ++ (lengths ++ after-lengths)) in
    let after-names : List ℕ = f.before_types ++ (codes "TYPE" ++ (named (length c.types) ++ (types ++ after-types))) in
    -- the names
    let at-0 : drop 0 p ≡ codes "SDNA" ++ (codes "NAME" ++ (named (length c.names) ++ (names ++ after-names))) = f.text ∙ regroup (codes "SDNA") (codes "NAME") (named (length c.names)) names f.before_types (codes "TYPE") (named (length c.types)) types f.before_lengths (codes "TLEN") lengths f.before_structs (codes "STRC") (named (length c.structs)) structs f.rest in
    let tag-1 = tag_at-tag (codes "SDNA") 0 p (codes "NAME" ++ (named (length c.names) ++ (names ++ after-names))) refl at-0 in
    let at-4 : drop 4 p ≡ codes "NAME" ++ (named (length c.names) ++ (names ++ after-names)) = behind p (codes "SDNA") (codes "NAME" ++ (named (length c.names) ++ (names ++ after-names))) 0 at-0 in
    let tag-2 = tag_at-tag (codes "NAME") 4 p (named (length c.names) ++ (names ++ after-names)) refl at-4 in
    let at-8 : drop 8 p ≡ named (length c.names) ++ (names ++ after-names) = behind p (codes "NAME") (named (length c.names) ++ (names ++ after-names)) 4 at-4 in
    let count-1 = count_at-bytes_of order 4 (length c.names) 8 p (names ++ after-names) (omega arith) (omega (arith, is.few_names)) at-8 in
    let at-12 : drop 12 p ≡ names ++ after-names = ap (λ (n : ℕ). drop (8 + n) p) (sym names-count) ∙ behind p (named (length c.names)) (names ++ after-names) 8 at-8 in
    let all-names = many_at-all (name_at p) name_written IsName p (name_at-name_written p) c.names 12 after-names is.names at-12 in
    let names-end : ℕ = 12 + length names in
    -- the types
    let t : ℕ = aligned_place names-end in
    let names-len : length (names_part order c) ≡ names-end = omega (arith, length-append (codes "SDNANAME" ++ named (length c.names)) names, length-append (codes "SDNANAME") (named (length c.names)), names-count) in
    let types-place : names-end + length f.before_types ≡ t = omega (arith, f.types_aligned, names-len) in
    let at-t : drop t p ≡ codes "TYPE" ++ (named (length c.types) ++ (types ++ after-types)) = ap (λ (n : ℕ). drop n p) (sym types-place) ∙ behind p f.before_types (codes "TYPE" ++ (named (length c.types) ++ (types ++ after-types))) names-end (behind p names after-names 12 at-12) in
    let tag-3 = tag_at-tag (codes "TYPE") t p (named (length c.types) ++ (types ++ after-types)) refl at-t in
    let at-t4 : drop (t + 4) p ≡ named (length c.types) ++ (types ++ after-types) = behind p (codes "TYPE") (named (length c.types) ++ (types ++ after-types)) t at-t in
    let count-2 = count_at-bytes_of order 4 (length c.types) (t + 4) p (types ++ after-types) (omega arith) (omega (arith, is.few_types)) at-t4 in
    let at-t8 : drop (t + 4 + 4) p ≡ types ++ after-types = ap (λ (n : ℕ). drop (t + 4 + n) p) (sym types-count) ∙ behind p (named (length c.types)) (types ++ after-types) (t + 4) at-t4 in
    let all-types = type_names_at-all p c.types [] (t + 4 + 4) after-types is.type_names (λ k d lt. refl) is.type_names_differ at-t8 in
    let types-number : length (map (λ (u : TypeEntry). u.name) c.types) ≡ length c.types = length-map c.types (λ (u : TypeEntry). u.name) in
    let types-end : ℕ = t + 4 + 4 + length types in
    -- their lengths
    let l : ℕ = aligned_place types-end in
    let types-len : length (types_part order c) ≡ 8 + length types = omega (arith, length-append (codes "TYPE" ++ named (length c.types)) types, length-append (codes "TYPE") (named (length c.types)), types-count) in
    let lengths-place : types-end + length f.before_lengths ≡ l = omega (arith, f.lengths_aligned, types-len) in
    let at-l : drop l p ≡ codes "TLEN" ++ (lengths ++ after-lengths) = ap (λ (n : ℕ). drop n p) (sym lengths-place) ∙ behind p f.before_lengths (codes "TLEN" ++ (lengths ++ after-lengths)) types-end (behind p types after-types (t + 4 + 4) at-t8) in
    let tag-4 = tag_at-tag (codes "TLEN") l p (lengths ++ after-lengths) refl at-l in
    let at-l4 : drop (l + 4) p ≡ lengths ++ after-lengths = behind p (codes "TLEN") (lengths ++ after-lengths) l at-l in
    let all-lengths = many_at-lengths order p c.types (l + 4) after-lengths is.lengths_fit at-l4 in
    let lengths-end : ℕ = l + 4 + length lengths in
    -- the structs
    let s : ℕ = aligned_place lengths-end in
    let lengths-len : length (lengths_part order c) ≡ 4 + length lengths = length-append (codes "TLEN") lengths in
    let structs-place : lengths-end + length f.before_structs ≡ s = omega (arith, f.structs_aligned, lengths-len) in
    let at-s : drop s p ≡ codes "STRC" ++ (named (length c.structs) ++ (structs ++ f.rest)) = ap (λ (n : ℕ). drop n p) (sym structs-place) ∙ behind p f.before_structs (codes "STRC" ++ (named (length c.structs) ++ (structs ++ f.rest))) lengths-end (behind p lengths after-lengths (l + 4) at-l4) in
    let tag-5 = tag_at-tag (codes "STRC") s p (named (length c.structs) ++ (structs ++ f.rest)) refl at-s in
    let at-s4 : drop (s + 4) p ≡ named (length c.structs) ++ (structs ++ f.rest) = behind p (codes "STRC") (named (length c.structs) ++ (structs ++ f.rest)) s at-s in
    let count-3 = count_at-bytes_of order 4 (length c.structs) (s + 4) p (structs ++ f.rest) (omega arith) (omega (arith, is.few_structs)) at-s4 in
    let at-s8 : drop (s + 4 + 4) p ≡ structs ++ f.rest = ap (λ (n : ℕ). drop (s + 4 + n) p) (sym structs-count) ∙ behind p (named (length c.structs)) (structs ++ f.rest) (s + 4) at-s4 in
    let all-structs = structs_at-all order c p c.structs [] (s + 4 + 4) f.rest is.structs (λ k d lt. refl) is.struct_types_differ at-s8 in
    rw (tag-1, tag-2, count-1, all-names, tag-3, count-2, all-types, types-number, tag-4, all-lengths, tag-5, count-3, all-structs, type_entries-types c.types) refl

-- the payload of a catalogue is one by the grammar
IsPayload-catalogue_written : (order : Order) (c : Catalogue)
    → IsCatalogue c → IsPayload order c (catalogue_written order c)
unfolding catalogue_written
IsPayload-catalogue_written order c is = record {
  is_catalogue = is;
  before_types = zeros (padding_of (names_part order c));
  before_lengths = zeros (padding_of (types_part order c));
  before_structs = zeros (padding_of (lengths_part order c));
  rest = [];
  types_aligned = length-replicate (padding_of (names_part order c)) 0;
  lengths_aligned = length-replicate (padding_of (types_part order c)) 0;
  structs_aligned = length-replicate (padding_of (lengths_part order c)) 0;
  text = pieces (names_part order c) (zeros (padding_of (names_part order c))) (types_part order c) (zeros (padding_of (types_part order c))) (lengths_part order c) (zeros (padding_of (lengths_part order c))) (structs_part order c);
}
  where
    pieces : (n a t b l d s : List ℕ) → (n ++ a) ++ (t ++ b) ++ (l ++ d) ++ s ≡ n ++ a ++ t ++ b ++ l ++ d ++ s ++ []
    pieces n a t b l d s = simp (append_assoc, append-nil)

-- a catalogue that is written is read again
pub catalogue_of-catalogue_written : (order : Order) (c : Catalogue)
    → IsCatalogue c → catalogue_of order (catalogue_written order c) ≡ Ok c
catalogue_of-catalogue_written order c is = catalogue_of-IsPayload order c (catalogue_written order c) (IsPayload-catalogue_written order c is)
