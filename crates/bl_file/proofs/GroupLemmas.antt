-- The marks that groups, addresses and IDs of nodes give.
use Rattle.std.proofs.Common.{◌≡◌, ℕ, suc, ◌+◌, Bool, not, List, [], ◌∷◌, ◌++◌, length, refl, sym, ap, ◌∙◌, arith}
use Rattle.std.specs.Prelude.{map}
use Rattle.std.specs.List.{enumerate_from}
use Rattle.bl_format.specs.declared.file.Header.{Header}
use Rattle.bl_format.specs.declared.file.Head.{Head}
use Rattle.bl_format.specs.declared.catalogue.Catalogue.{Catalogue}
use Rattle.bl_format.specs.Nodes.{Mark, group_of, is_data, is_id}
use Rattle.bl_addresses.specs.Marks.{marks_by}
use Rattle.bl_addresses.proofs.MarkLemmas.{marks_by-marks}
use Rattle.bl_file.specs.Outlines.{file_with, ids_of, marks_of}

-- the codes of some nodes
abbrev pub codes_of : List Head → List (List ℕ)
codes_of nodes = map (λ (x : Head). x.code) nodes

-- a code heads a group
abbrev pub is_head : List ℕ → Bool
is_head code = not (is_data code)

-- one element more, with its number
pub enumerate-push : {X : Type 0} (i : ℕ) (xs : List X) (x : X)
    → enumerate_from i (xs ++ x ∷ []) ≡ enumerate_from i xs ++ (i + length xs, x) ∷ []
enumerate-push i [] x = let here : i ≡ i + 0 = omega arith in ap (λ n. (n, x) ∷ []) here
enumerate-push i (y ∷ ys) x =
    let far : (i + 1) + length ys ≡ i + suc (length ys) = omega arith in
    ap (λ ps. (i, y) ∷ ps) (enumerate-push (i + 1) ys x ∙ ap (λ n. enumerate_from (i + 1) ys ++ (n, x) ∷ []) far)

-- what is said of nodes without their numbers
map-seconds : {X Y : Type 0} (f : X → Y) (i : ℕ) (xs : List X) → map (λ p. f p.1) (enumerate_from i xs) ≡ map f xs
map-seconds f i [] = refl
map-seconds f i (x ∷ xs) = ap (λ ys. f x ∷ ys) (map-seconds f (i + 1) xs)

-- groups, addresses and IDs give the marks of the nodes
pub marks-made : (nodes : List Head) (groups addresses : List ℕ) (ids : List Bool) (table : List Mark)
    → groups ≡ map (λ p. group_of (codes_of nodes) p.0) (enumerate_from 0 nodes)
    → addresses ≡ map (λ (x : Head). x.address) nodes → table ≡ marks_by groups addresses ids
    → (h : Header) (c : Catalogue) → ids ≡ ids_of c nodes → table ≡ marks_of h c nodes
marks-made nodes groups addresses ids table are stand made h c flags =
    let own : List ℕ = map (λ p. group_of (codes_of nodes) p.0) (enumerate_from 0 nodes) in
    made ∙ ap (λ gs. marks_by gs addresses ids) are
    ∙ ap (λ xs. marks_by own xs ids) (stand ∙ sym (map-seconds (λ (x : Head). x.address) 0 nodes))
    ∙ ap (λ bs. marks_by own (map (λ p. p.1.address) (enumerate_from 0 nodes)) bs)
    (flags ∙ sym (map-seconds (λ (x : Head). is_id c x.code x.count x.index) 0 nodes))
    ∙ marks_by-marks (file_with h c nodes [])
