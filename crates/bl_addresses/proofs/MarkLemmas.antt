-- The marks of nodes, one for each.
use Rattle.std.proofs.Common.{◌≡◌, ◌<◌, ℕ, zero, suc, Bool, false, List, [], ◌∷◌, length, get_or, map, refl, ap, arith}
use Rattle.std.specs.List.{enumerate_from}
use Rattle.bl_format.specs.declared.file.Head.{Head}
use Rattle.bl_format.specs.Nodes as nodes
use Rattle.bl_addresses.specs.Marks.{marks_by, mark_at}

-- there are as many marks as groups
pub length-marks_by : (groups addresses : List ℕ) (ids : List Bool)
    → length addresses ≡ length groups → length ids ≡ length groups
    → length (marks_by groups addresses ids) ≡ length groups
unfolding marks_by
length-marks_by [] [] [] a b = refl
length-marks_by [] [] (i ∷ is) a b = absurd (omega (arith, b))
length-marks_by [] (x ∷ xs) is a b = absurd (omega (arith, a))
length-marks_by (g ∷ gs) [] is a b = absurd (omega (arith, a))
length-marks_by (g ∷ gs) (x ∷ xs) [] a b = absurd (omega (arith, b))
length-marks_by (g ∷ gs) (x ∷ xs) (i ∷ is) a b =
    ap (λ n. suc n) (length-marks_by gs xs is (omega (arith, a)) (omega (arith, b)))

-- their groups are those that were given
pub groups-marks_by : (groups addresses : List ℕ) (ids : List Bool)
    → length addresses ≡ length groups → length ids ≡ length groups
    → map (λ (m : nodes.Mark). m.group) (marks_by groups addresses ids) ≡ groups
unfolding marks_by
groups-marks_by [] [] [] a b = refl
groups-marks_by [] [] (i ∷ is) a b = absurd (omega (arith, b))
groups-marks_by [] (x ∷ xs) is a b = absurd (omega (arith, a))
groups-marks_by (g ∷ gs) [] is a b = absurd (omega (arith, a))
groups-marks_by (g ∷ gs) (x ∷ xs) [] a b = absurd (omega (arith, b))
groups-marks_by (g ∷ gs) (x ∷ xs) (i ∷ is) a b =
    ap (λ ns. g ∷ ns) (groups-marks_by gs xs is (omega (arith, a)) (omega (arith, b)))

-- the mark of a node is what was given of it
pub mark_at-marks_by : (groups addresses : List ℕ) (ids : List Bool) (n : ℕ)
    → length addresses ≡ length groups → length ids ≡ length groups → n < length groups
    → mark_at (marks_by groups addresses ids) n
    ≡ record { group = get_or groups n 0; address = get_or addresses n 0; is_an_id = get_or ids n false }
unfolding marks_by
mark_at-marks_by [] addresses ids n a b lt = absurd (omega (arith, lt))
mark_at-marks_by (g ∷ gs) [] ids n a b lt = absurd (omega (arith, a))
mark_at-marks_by (g ∷ gs) (x ∷ xs) [] n a b lt = absurd (omega (arith, b))
mark_at-marks_by (g ∷ gs) (x ∷ xs) (i ∷ is) zero a b lt = refl
mark_at-marks_by (g ∷ gs) (x ∷ xs) (i ∷ is) (suc n) a b lt =
    mark_at-marks_by gs xs is n (omega (arith, a)) (omega (arith, b)) (omega (arith, lt))

-- the marks of nodes whose groups, addresses and IDs are given by functions
pub marks_by-map : {X : Type 0} (group address : X → ℕ) (is_an_id : X → Bool) (xs : List X)
    → marks_by (map group xs) (map address xs) (map is_an_id xs)
    ≡ map (λ x. record { group = group x; address = address x; is_an_id = is_an_id x }) xs
unfolding marks_by
marks_by-map group address is_an_id [] = refl
marks_by-map group address is_an_id (x ∷ xs) =
    let own : nodes.Mark = record { group = group x; address = address x; is_an_id = is_an_id x } in
    ap (λ ms. own ∷ ms) (marks_by-map group address is_an_id xs)

-- what the nodes of a file give are the file's marks
pub marks_by-marks : (f : nodes.File)
    → marks_by (map (λ p. nodes.group_of (map (λ (x : Head). x.code) f.nodes) p.0) (enumerate_from 0 f.nodes))
    (map (λ p. p.1.address) (enumerate_from 0 f.nodes))
    (map (λ p. nodes.is_id f.catalogue p.1.code p.1.count p.1.index) (enumerate_from 0 f.nodes))
    ≡ nodes.marks f
unfolding nodes.marks
marks_by-marks f =
    marks_by-map (λ p. nodes.group_of (map (λ (x : Head). x.code) f.nodes) p.0) (λ p. p.1.address)
    (λ p. nodes.is_id f.catalogue p.1.code p.1.count p.1.index) (enumerate_from 0 f.nodes)
