-- Which groups have a raw node, what is named in a group, and that nothing is said where nothing is named.
use Rattle.std.proofs.Common.{◌≡◌, ◌≢◌, ◌<◌, ◌≤◌, inl, inr, ℕ, suc, ◌+◌, Bool, true, false, cond, not, List, [], ◌∷◌, ◌++◌, length, get_or, take, set, replicate, Option, Some, None, refl, sym, ap, subst, ◌∙◌, arith, eqb-true}
use Rattle.std.specs.Prelude.{All, ◌==◌, ◌&&◌, ◌||◌, flat_map, slice_get, IfSome}
use Rattle.std.specs.Option.{option_or}
use Rattle.std.proofs.lemmas.Bool.{cases_lt, and_parts, and_from, not-true, eq-eqb, false_from_ne_true}
use Rattle.std.proofs.lemmas.List.{append-nil, get_or_past, get_or-replicate, get_or-set_same, get_or-set_other, length-map, length-replicate, length-take-le}
use Rattle.std.proofs.lemmas.List.Folds.{list_any_at, list_any-append}
use Rattle.std.proofs.lemmas.List.Sums.{count_by-le-length}
use Rattle.std.proofs.lemmas.Option.{slice_get-get_or}
use Rattle.bl_format.specs.declared.file.Header.{Header}
use Rattle.bl_format.specs.declared.file.Head.{Head}
use Rattle.bl_format.specs.declared.catalogue.Catalogue.{Catalogue}
use Rattle.bl_format.specs.declared.raw.View.{View}
use Rattle.bl_format.specs.Words.{last_from, last_place, numbers_below}
use Rattle.bl_format.specs.Blocks.{is_two_letter}
use Rattle.bl_format.specs.Nodes.{Mark, has_id_part, is_id}
use Rattle.bl_format.specs.Graph.{Target, Naming}
use Rattle.bl_selection.specs.Selection.{no_head}
use Rattle.bl_selection.proofs.EntriesAsNodes.{length-numbers_below}
use Rattle.bl_addresses.specs.Marks.{target_in_group}
use Rattle.bl_file.specs.declared.speakers.Speaker.{Speaker}
use Rattle.bl_file.specs.declared.views.Sight.{Sight}
use Rattle.bl_file.specs.Groups.{is_raw_of, has_raw_below, has_raw}
use Rattle.bl_file.specs.Outlines.{marks_of}
use Rattle.bl_file.specs.Seen.{Namings, mark_group}
use Rattle.bl_file.specs.Heard.{views_of_target}
use Rattle.bl_file.specs.Views.{is_raw, is_raw_head, raw_target, elements_said, node_said, node_at_said}
use Rattle.bl_file.proofs.GroupLemmas.{codes_of, is_head}
use Rattle.bl_file.proofs.IdLemmas.{get_or-numbers_below}
use Rattle.bl_file.proofs.TableLemmas.{group_at, last_from-inside, mark_told, marks-long}
use Rattle.bl_file.proofs.ViewLemmas.{raw_inside}

-- ---- what is found

found_either : (Q : ℕ → Type 0) (o : Option ℕ) (b : Bool) (i : ℕ) → IfSome o Q → (b ≡ true → Q i) → IfSome (option_or o (cond b (Some i) None)) Q
found_either Q (Some n) b i later here = later
found_either Q None true i later here = here refl
found_either Q None false i later here = tt

-- what is so of each element that passes is so of the last one
last_from-so : {X : Type 0} (p : X → Bool) (Q : ℕ → Type 0) (i : ℕ) (xs : List X)
    → ((k : ℕ) (d : X) → k < length xs → p (get_or xs k d) ≡ true → Q (i + k)) → IfSome (last_from p i xs) Q
last_from-so p Q i [] so = tt
last_from-so p Q i (x ∷ xs) so =
    found_either Q (last_from p (suc i) xs) (p x) i
    (last_from-so p Q (suc i) xs (λ k d lt is. let at : i + suc k ≡ suc i + k = omega arith in subst Q at (so (suc k) d (omega (arith, lt)) is)))
    (λ is. let at : i + 0 ≡ i = omega arith in subst Q at (so 0 x (omega arith) is))

-- the same from the front
last_place-so : {X : Type 0} (p : X → Bool) (Q : ℕ → Type 0) (xs : List X)
    → ((k : ℕ) (d : X) → k < length xs → p (get_or xs k d) ≡ true → Q k) → IfSome (last_place p xs) Q
last_place-so p Q xs so = last_from-so p Q 0 xs (λ k d lt is. let at : k ≡ 0 + k = omega arith in subst Q at (so k d lt is))

null_inside : (null : Bool) (o : Option ℕ) (n : ℕ) → IfSome o (λ k. k < 0 + n) → IfSome (cond null None o) (λ k. k < n)
null_inside true o n lt = tt
null_inside false None n lt = tt
null_inside false (Some k) n lt = omega (arith, lt)

-- an address names in a group a node that has a mark
pub in_group_inside : (ms : List Mark) (group address : ℕ) → IfSome (target_in_group ms group address) (λ to. to < length ms)
unfolding target_in_group
in_group_inside ms group address =
    null_inside (address == 0) _ (length ms) (last_from-inside (λ (m : Mark). m.group == group && m.address == address) 0 ms)

-- a raw node is one of its group
raw_of_group : (nodes : List Head) (marks : List Mark) (group k : ℕ) (d : Mark) → k < length marks
    → ((get_or marks k d).group == group) ≡ true → is_raw nodes k ≡ true → is_raw_of marks nodes group k ≡ true
raw_of_group nodes marks group k d lt own raw =
    and_from (is_raw nodes k) (mark_group (slice_get marks k) == group) raw
    (ap (λ (o : Option Mark). mark_group o == group) (slice_get-get_or marks k d lt) ∙ own)

-- where a node that is found in a group is raw, the group has a raw node
pub found_in_group : (marks : List Mark) (nodes : List Head) (group address : ℕ) (raw : Bool) → raw ≡ has_raw marks nodes group
    → IfSome (last_place (λ (m : Mark). m.group == group && m.address == address) marks) (λ n. is_raw nodes n ≡ true → raw ≡ true)
found_in_group marks nodes group address raw has =
    last_place-so (λ (m : Mark). m.group == group && m.address == address) (λ n. is_raw nodes n ≡ true → raw ≡ true) marks
    (λ k d lt is own. has ∙ list_any_at (is_raw_of marks nodes group) (numbers_below (length nodes)) k 0
    (omega (arith, raw_inside nodes k own, length-numbers_below (length nodes)))
    (ap (is_raw_of marks nodes group) (get_or-numbers_below (length nodes) k 0 (raw_inside nodes k own))
    ∙ raw_of_group nodes marks group k d lt (and_parts _ _ is).0 own))

-- an ID isn't raw
id_indexed : (c : Catalogue) (x : Head) → is_id c x.code x.count x.index ≡ true → (x.index == 0) ≡ false
unfolding is_id
id_indexed c x is =
    let three = (and_parts (is_two_letter x.code && x.count == 1 && not (x.index == 0)) (has_id_part c x.index) is).0 in
    not-true (x.index == 0) (and_parts (is_two_letter x.code && x.count == 1) (not (x.index == 0)) three).1

-- an ID that is found isn't raw
pub found_id : (h : Header) (c : Catalogue) (nodes : List Head) (table : List Mark) (address : ℕ) → table ≡ marks_of h c nodes
    → IfSome (last_place (λ (m : Mark). m.is_an_id && m.address == address) table) (λ n. is_raw nodes n ≡ false)
found_id h c nodes table address is =
    let long : length table ≡ length nodes = ap (λ (ms : List Mark). length ms) is ∙ marks-long h c nodes in
    last_place-so (λ (m : Mark). m.is_an_id && m.address == address) (λ n. is_raw nodes n ≡ false) table
    (λ k d lt found.
    let there : k < length nodes = omega (arith, lt, long) in
    let own : (get_or table k d).is_an_id ≡ true = (and_parts _ _ found).0 in
    let told = ap (λ (ms : List Mark). get_or ms k d) is ∙ mark_told h c nodes k d there in
    ap (λ (o : Option Head). is_raw_head o) (slice_get-get_or nodes k no_head there)
    ∙ id_indexed c (get_or nodes k no_head) (sym (ap (λ (m : Mark). m.is_an_id) told) ∙ own))

-- ---- groups

-- no group has a number above that of the nodes
pub groups_inside : (h : Header) (c : Catalogue) (nodes : List Head) (table : List Mark) → table ≡ marks_of h c nodes
    → All (λ (m : Mark). m.group ≤ length nodes) table
groups_inside h c nodes table is k d lt =
    let there : k < length nodes = omega (arith, lt, ap (λ (ms : List Mark). length ms) is, marks-long h c nodes) in
    let codes = codes_of nodes in
    let many : length codes ≡ length nodes = length-map nodes (λ (y : Head). y.code) in
    let own = ap (λ (ms : List Mark). (get_or ms k d).group) is ∙ group_at h c nodes k d there in
    omega (arith, own, count_by-le-length is_head (take (suc k) codes), length-take-le (suc k) codes (omega (arith, many, there)))

-- ---- the groups that have a raw node, by one node after another

-- by the number of a group whether it has a raw node among the first k
abbrev pub RawSoFar : List Mark → List Head → ℕ → List Bool → Type 0
RawSoFar marks nodes k raw = (group : ℕ) → get_or raw group false ≡ has_raw_below marks nodes group k

or_false : (b : Bool) → b ≡ (b || (false || false))
or_false true = refl
or_false false = refl

or_true : (b : Bool) → true ≡ (b || (true || false))
or_true true = refl
or_true false = refl

has_raw-more : (marks : List Mark) (nodes : List Head) (group k : ℕ)
    → has_raw_below marks nodes group (k + 1) ≡ (has_raw_below marks nodes group k || (is_raw_of marks nodes group k || false))
has_raw-more marks nodes group k =
    let next : k + 1 ≡ suc k = omega arith in
    ap (has_raw_below marks nodes group) next
    ∙ list_any-append (is_raw_of marks nodes group) (numbers_below k) (k ∷ [])

raw_at : (nodes : List Head) (k : ℕ) (d : Head) → k < length nodes → is_raw nodes k ≡ ((get_or nodes k d).index == 0)
raw_at nodes k d lt = ap (λ (o : Option Head). is_raw_head o) (slice_get-get_or nodes k d lt)

-- one node more, which isn't raw
pub raw-kept : (marks : List Mark) (nodes : List Head) (k : ℕ) (d : Head) (raw : List Bool) → k < length nodes
    → (get_or nodes k d).index ≢ 0 → RawSoFar marks nodes k raw → RawSoFar marks nodes (k + 1) raw
raw-kept marks nodes k d raw lt struct before group =
    let none : is_raw nodes k ≡ false =
    raw_at nodes k d lt ∙ false_from_ne_true ((get_or nodes k d).index == 0) (λ is. struct (eqb-true (get_or nodes k d).index 0 is)) in
    before group ∙ or_false (has_raw_below marks nodes group k)
    ∙ sym (has_raw-more marks nodes group k
    ∙ ap (λ b. has_raw_below marks nodes group k || ((b && mark_group (slice_get marks k) == group) || false)) none)

raw_set : (raw : List Bool) (own group : ℕ) (old same : Bool) → (own == group) ≡ same → own < length raw → get_or raw group false ≡ old
    → get_or (set raw own true) group false ≡ (old || ((true && same) || false))
raw_set raw own group old true is lt before =
    let here : group ≡ own = sym (eqb-true own group is) in
    ap (λ g. get_or (set raw own true) g false) here ∙ get_or-set_same raw own true false lt ∙ or_true old
raw_set raw own group old false is lt before =
    get_or-set_other raw own group true false
    (λ here. let same : (own == group) ≡ true = eq-eqb own group (sym here) in absurd (cc)) ∙ before ∙ or_false old

-- one node more, which is raw and of this group
pub raw-more : (marks : List Mark) (nodes : List Head) (k own : ℕ) (d : Head) (raw : List Bool) → k < length nodes
    → (get_or nodes k d).index ≡ 0 → own ≡ mark_group (slice_get marks k) → own < length raw
    → RawSoFar marks nodes k raw → RawSoFar marks nodes (k + 1) (set raw own true)
raw-more marks nodes k own d raw lt is of below before group =
    let here : is_raw nodes k ≡ true = raw_at nodes k d lt ∙ eq-eqb (get_or nodes k d).index 0 is in
    raw_set raw own group (has_raw_below marks nodes group k) (own == group) refl below (before group)
    ∙ ap (λ g. has_raw_below marks nodes group k || ((true && g == group) || false)) of
    ∙ sym (has_raw-more marks nodes group k
    ∙ ap (λ b. has_raw_below marks nodes group k || ((b && mark_group (slice_get marks k) == group) || false)) here)

-- no node is left
pub raw-all : (marks : List Mark) (nodes : List Head) (k : ℕ) (raw : List Bool) → k ≡ length nodes → RawSoFar marks nodes k raw
    → (group : ℕ) → get_or raw group false ≡ has_raw marks nodes group
raw-all marks nodes k raw is before group = before group ∙ ap (has_raw_below marks nodes group) is

-- at the start none has
pub raw-none : (raw : List Bool) (n group : ℕ) → raw ≡ replicate n false → get_or raw group false ≡ false
raw-none raw n group is = elim (cases_lt group n) [
  | inl lt ↦ (ap (λ (bs : List Bool). get_or bs group false) is ∙ get_or-replicate n group false false lt)
  | inr ge ↦ (get_or_past raw group false (omega (arith, ge, ap (λ (bs : List Bool). length bs) is, length-replicate n false)))
]

-- ---- nodes from which nothing is named

flat_map-silent : {X : Type 0} (f : X → List View) (xs : List X) → ((x : X) → f x ≡ []) → flat_map f xs ≡ []
flat_map-silent f [] none = refl
flat_map-silent f (x ∷ xs) none = rw none (flat_map-silent f xs none)

silent_said : (s : Sight) (names : Naming Target) (x : Head) (b : List ℕ) → ((address : ℕ) → names address ≡ None)
    → [] ≡ node_said s.speakers.now s.nodes.now names s.header.now s.layout.now.catalogue x b
silent_said s names x b silent = by (x.index == 0)
  where
    by : (raw : Bool) → [] ≡ cond raw [] (elements_said (get_or s.speakers.now x.index []) s.nodes.now names s.header.now s.layout.now.catalogue x b x.count)
    by true = refl
    by false =
        sym (flat_map-silent _ (numbers_below x.count)
        (λ e. flat_map-silent _ (get_or s.speakers.now x.index [])
        (λ (y : Speaker). flat_map-silent _ (numbers_below y.count)
        (λ k. ap (λ t. views_of_target y.kind (raw_target s.nodes.now t)) (silent _)))))

-- a node from which nothing is named says nothing
pub silent_node : (names : Namings) (s : Sight) (b : List ℕ) (k : ℕ) (old : List View) → ((address : ℕ) → names k address ≡ None)
    → old ≡ old ++ node_at_said names s b k
silent_node names s b k old silent =
    sym (append-nil old) ∙ ap (λ vs. old ++ vs) (silent_said s (names k) (get_or s.nodes.now k no_head) b silent)
