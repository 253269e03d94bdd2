-- What addresses name by a table of nodes, and that the views of a file are by its own.
use Rattle.std.proofs.Common.{◌≡◌, ◌<◌, ◌≤◌, ℕ, suc, ◌+◌, Bool, true, false, cond, List, [], ◌∷◌, ◌++◌, length, get_or, Option, Some, None, refl, sym, ap, ◌∙◌, arith}
use Rattle.std.specs.Prelude.{◌==◌, ◌&&◌, map, flat_map, slice_get, option_map, IfSome}
use Rattle.std.specs.List.{enumerate_from}
use Rattle.std.specs.Option.{option_or}
use Rattle.std.proofs.lemmas.List.{get_or-map, length-map}
use Rattle.std.proofs.lemmas.List.FromFn.{length-enumerate_from, get_or-enumerate_from}
use Rattle.std.proofs.lemmas.Option.{slice_get-get_or}
use Rattle.bl_format.specs.declared.file.Header.{Header}
use Rattle.bl_format.specs.declared.file.Head.{Head}
use Rattle.bl_format.specs.declared.catalogue.Catalogue.{Catalogue}
use Rattle.bl_format.specs.Words.{last_from}
use Rattle.bl_format.specs.Nodes.{Mark, group_of, mark, marks, target_of}
use Rattle.bl_format.specs.Graph.{node_cells, node_views, file_views}
use Rattle.bl_selection.specs.Selection.{no_head}
use Rattle.bl_file.specs.Outlines.{file_with, marks_of}
use Rattle.bl_file.specs.Seen.{mark_group, table_names, named_views, views_seen}

-- ---- what is named is there

found_inside : (o : Option ℕ) (b : Bool) (i n : ℕ) → IfSome o (λ k. k < suc i + n)
    → IfSome (option_or o (cond b (Some i) None)) (λ k. k < i + suc n)
found_inside (Some k) b i n lt = omega (arith, lt)
found_inside None true i n lt = omega arith
found_inside None false i n lt = tt

-- the last element that passes is there
pub last_from-inside : {X : Type 0} (p : X → Bool) (i : ℕ) (xs : List X) → IfSome (last_from p i xs) (λ k. k < i + length xs)
last_from-inside p i [] = tt
last_from-inside p i (x ∷ xs) = found_inside (last_from p (suc i) xs) (p x) i (length xs) (last_from-inside p (suc i) xs)

either_inside : (null : Bool) (first second : Option ℕ) (n : ℕ) → IfSome first (λ k. k < 0 + n) → IfSome second (λ k. k < 0 + n)
    → IfSome (cond null None (option_or first second)) (λ k. k < n)
either_inside true first second n f s = tt
either_inside false (Some k) second n f s = omega (arith, f)
either_inside false None (Some k) n f s = omega (arith, s)
either_inside false None None n f s = tt

-- an address names a node that has a mark
pub target_of-inside : (ms : List Mark) (group address : ℕ) → IfSome (target_of ms group address) (λ to. to < length ms)
unfolding target_of
target_of-inside ms group address =
    either_inside (address == 0) _ _ (length ms)
    (last_from-inside (λ (m : Mark). m.group == group && m.address == address) 0 ms)
    (last_from-inside (λ (m : Mark). m.is_an_id && m.address == address) 0 ms)

-- ---- groups

-- the group of a node is that of its mark
pub group_is : (o : Option Mark) (group : ℕ) → option_map (λ (m : Mark). m.group) o ≡ Some group → group ≡ mark_group o
group_is None group e = absurd (cc)
group_is (Some m) group e = cc

-- what an address names in a node's group is what it names from the node
pub named_in_group : (ms : List Mark) (node group address : ℕ) (target : Option ℕ)
    → target ≡ target_of ms group address → option_map (λ (m : Mark). m.group) (slice_get ms node) ≡ Some group
    → target ≡ table_names ms node address
named_in_group ms node group address target is told =
    is ∙ ap (λ g. target_of ms g address) (group_is (slice_get ms node) group told)

-- there are as many marks as nodes
pub marks-long : (h : Header) (c : Catalogue) (nodes : List Head) → length (marks_of h c nodes) ≡ length nodes
unfolding marks
marks-long h c nodes =
    length-map (enumerate_from 0 nodes) (λ (p : ℕ × Head). mark (file_with h c nodes []) p.0 p.1) ∙ length-enumerate_from 0 nodes

-- the mark of a node
pub mark_told : (h : Header) (c : Catalogue) (nodes : List Head) (k : ℕ) (d : Mark) → k < length nodes
    → get_or (marks_of h c nodes) k d ≡ mark (file_with h c nodes []) k (get_or nodes k no_head)
unfolding marks
mark_told h c nodes k d lt =
    let f = file_with h c nodes [] in
    let of : ℕ × Head → Mark = λ p. mark f p.0 p.1 in
    let here : 0 + k ≡ k = omega arith in
    get_or-map of (enumerate_from 0 nodes) k (0, no_head) d (omega (arith, lt, length-enumerate_from 0 nodes))
    ∙ ap of (get_or-enumerate_from 0 nodes k (0, no_head) lt)
    ∙ ap (λ n. mark f n (get_or nodes k no_head)) here

-- its group
pub group_at : (h : Header) (c : Catalogue) (nodes : List Head) (k : ℕ) (d : Mark) → k < length nodes
    → (get_or (marks_of h c nodes) k d).group ≡ group_of (map (λ (y : Head). y.code) nodes) k
group_at h c nodes k d lt = ap (λ (m : Mark). m.group) (mark_told h c nodes k d lt)

-- the group in the table of a file's nodes is that of the node
group_told : (h : Header) (c : Catalogue) (nodes : List Head) (k : ℕ) → k < length nodes
    → mark_group (slice_get (marks_of h c nodes) k) ≡ group_of (map (λ (y : Head). y.code) nodes) k
group_told h c nodes k lt =
    let none : Mark = record { group = 0; address = 0; is_an_id = false } in
    ap mark_group (slice_get-get_or (marks_of h c nodes) k none (omega (arith, lt, marks-long h c nodes)))
    ∙ group_at h c nodes k none lt

-- ---- views

-- the marks say nothing of the bytes
same_marks : (h : Header) (c : Catalogue) (nodes : List Head) (b : List ℕ) → marks (file_with h c nodes b) ≡ marks_of h c nodes
unfolding marks
same_marks h c nodes b = refl

node_by_table : (h : Header) (c : Catalogue) (nodes : List Head) (b : List ℕ) (k : ℕ) (x : Head) → k < length nodes
    → named_views (table_names (marks_of h c nodes) k) h c b x ≡ node_views (file_with h c nodes b) k x
unfolding node_cells
node_by_table h c nodes b k x lt =
    let codes : List (List ℕ) = map (λ (y : Head). y.code) nodes in
    ap (λ g. named_views (target_of (marks_of h c nodes) g) h c b x) (group_told h c nodes k lt)
    ∙ ap (λ ms. named_views (target_of ms (group_of codes k)) h c b x) (sym (same_marks h c nodes b))

nodes_by_table : (h : Header) (c : Catalogue) (nodes : List Head) (b : List ℕ) (i : ℕ) (xs : List Head) → i + length xs ≤ length nodes
    → flat_map (λ (p : ℕ × Head). named_views (table_names (marks_of h c nodes) p.0) h c b p.1) (enumerate_from i xs)
    ≡ flat_map (λ (p : ℕ × Head). node_views (file_with h c nodes b) p.0 p.1) (enumerate_from i xs)
nodes_by_table h c nodes b i [] le = refl
nodes_by_table h c nodes b i (x ∷ xs) le =
    let names = table_names (marks_of h c nodes) in
    ap (λ vs. vs ++ flat_map (λ (p : ℕ × Head). named_views (names p.0) h c b p.1) (enumerate_from (i + 1) xs))
    (node_by_table h c nodes b i x (omega (arith, le)))
    ∙ ap (λ vs. node_views (file_with h c nodes b) i x ++ vs) (nodes_by_table h c nodes b (i + 1) xs (omega (arith, le)))

-- the views of a file are those by the table of its nodes
pub views_by_table : (h : Header) (c : Catalogue) (nodes : List Head) (table : List Mark) (b : List ℕ) → table ≡ marks_of h c nodes
    → views_seen (table_names table) h c nodes b ≡ file_views (file_with h c nodes b)
unfolding file_views views_seen
views_by_table h c nodes table b is =
    ap (λ ms. flat_map (λ (p : ℕ × Head). named_views (table_names ms p.0) h c b p.1) (enumerate_from 0 nodes)) is
    ∙ nodes_by_table h c nodes b 0 nodes (omega arith)
