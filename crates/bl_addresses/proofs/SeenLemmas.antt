-- What a table's parts tell of its nodes.
use Rattle.std.proofs.Common.{◌≡◌, ◌<◌, ℕ, zero, suc, ◌+◌, ◌∙◌, Bool, true, false, List, [], ◌∷◌, length, get_or, map, Some, refl, sym, ap, subst, arith, eqb-true}
use Rattle.std.specs.Prelude.{◌==◌, slice_get, option_map}
use Rattle.std.proofs.lemmas.List.{get_or_default}
use Rattle.bl_format.specs.Nodes.{Mark}
use Rattle.bl_addresses.specs.declared.marks.Row.{Row}
use Rattle.bl_addresses.specs.declared.marks.Scope.TheVariants.{Group, File}
use Rattle.bl_addresses.specs.Marks.{mark_at, row_of}
use Rattle.bl_addresses.specs.Table.{IsTable, address_in, has_row, marks_from, marks_in}

-- equal numbers pass the test for that
eqb-from : (m n : ℕ) → m ≡ n → (m == n) ≡ true
eqb-from m n e = grind (arith)

-- the address of a node that has a row, where all its rows have that address
address_found : (rows : List Row) (r : Row) (a j : ℕ)
    → ((k : ℕ) (d : Row) → k < length rows → (get_or rows k d).node ≡ r.node → (get_or rows k d).address ≡ a)
    → j < length rows → get_or rows j r ≡ r → address_in rows r.node ≡ a
unfolding address_in
address_found [] r a j same lt is = absurd (omega (arith, lt))
address_found (x ∷ rows) r a j same lt is =
    go (x.node == r.node) refl j lt is
    (λ k less there. address_found rows r a k (λ i d low. same (suc i) d (omega (arith, low))) less there)
  where
    go : (b : Bool) → (x.node == r.node) ≡ b → (j : ℕ) → j < length (x ∷ rows) → get_or (x ∷ rows) j r ≡ r
        → ((k : ℕ) → k < length rows → get_or rows k r ≡ r → address_in rows r.node ≡ a)
        → address_in (x ∷ rows) r.node ≡ a
    go true e j lt is by_step = rw e (same 0 r (omega arith) (eqb-true x.node r.node e))
    go false e zero lt is by_step = absurd (cc (e, eqb-from x.node r.node (ap (λ (y : Row). y.node) is)))
    go false e (suc j) lt is by_step = rw e (by_step j (omega (arith, lt)) is)

-- a node has a row if one is its
row_found : (rows : List Row) (r : Row) (j : ℕ) → j < length rows → get_or rows j r ≡ r → has_row rows r.node ≡ true
unfolding has_row
row_found [] r j lt is = absurd (omega (arith, lt))
row_found (x ∷ rows) r zero lt is = rw (eqb-from x.node r.node (ap (λ (y : Row). y.node) is)) refl
row_found (x ∷ rows) r (suc j) lt is = go (x.node == r.node) refl (row_found rows r j (omega (arith, lt)) is)
  where
    go : (b : Bool) → (x.node == r.node) ≡ b → has_row rows r.node ≡ true → has_row (x ∷ rows) r.node ≡ true
    go true e rest = rw e refl
    go false e rest = rw e rest

-- and has none if none is
no_row : (rows : List Row) (n : ℕ) → ((k : ℕ) (d : Row) → k < length rows → (get_or rows k d).node ≡ n → ⊥)
    → has_row rows n ≡ false
unfolding has_row
no_row [] n never = refl
no_row (x ∷ rows) n never =
    go (x.node == n) refl (no_row rows n (λ k d less. never (suc k) d (omega (arith, less))))
  where
    go : (b : Bool) → (x.node == n) ≡ b → has_row rows n ≡ false → has_row (x ∷ rows) n ≡ false
    go true e rest = absurd (never 0 x (omega arith) (eqb-true x.node n e))
    go false e rest = rw e rest

-- marks are those that rows tell, from node i on
pub marks_from-is : (marks : List Mark) (nodes ids : List Row) (i : ℕ)
    → ((k : ℕ) (d : Mark) → k < length marks → address_in nodes (i + k) ≡ (get_or marks k d).address)
    → ((k : ℕ) (d : Mark) → k < length marks → has_row ids (i + k) ≡ (get_or marks k d).is_an_id)
    → marks_from i (map (λ (m : Mark). m.group) marks) nodes ids ≡ marks
unfolding marks_from
marks_from-is [] nodes ids i addresses are = refl
marks_from-is (m ∷ marks) nodes ids i addresses are =
    let here : i + 0 ≡ i = omega arith in
    let address : address_in nodes i ≡ m.address =
    subst (λ n. address_in nodes n ≡ m.address) here (addresses 0 m (omega arith)) in
    let is_an_id : has_row ids i ≡ m.is_an_id = subst (λ n. has_row ids n ≡ m.is_an_id) here (are 0 m (omega arith)) in
    let next : (k : ℕ) → i + suc k ≡ suc i + k = λ k. omega arith in
    let rest = marks_from-is marks nodes ids (suc i)
    (λ k d less. subst (λ n. address_in nodes n ≡ (get_or marks k d).address) (next k) (addresses (suc k) d (omega (arith, less))))
    (λ k d less. subst (λ n. has_row ids n ≡ (get_or marks k d).is_an_id) (next k) (are (suc k) d (omega (arith, less)))) in
    let first : record { group = m.group; address = address_in nodes i; is_an_id = has_row ids i } ≡ m =
    λ j. record { group = m.group; address = address j; is_an_id = is_an_id j } in
    ap (λ n. n ∷ marks_from (suc i) (map (λ (m : Mark). m.group) marks) nodes ids) first ∙ ap (λ ms. m ∷ ms) rest

-- the address of a node of a table
table_address : (marks : List Mark) (nodes ids : List Row) → IsTable marks nodes ids → (k : ℕ) (d : Mark)
    → k < length marks → address_in nodes k ≡ (get_or marks k d).address
table_address marks nodes ids t k d lt =
    let has = t.nodes_sorted.members.whole k (lt, refl) in
    let at : ℕ = has.0 in
    address_found nodes (row_of Group (mark_at marks k) k) (get_or marks k d).address at
    (λ j e less is.
    let row = t.nodes_sorted.members.inside j e less in
    let there : (get_or nodes j e).address ≡ (mark_at marks (get_or nodes j e).node).address =
    ap (λ p. p.address) row.1 in
    let own : (mark_at marks (get_or nodes j e).node).address ≡ (mark_at marks k).address =
    ap (λ n. (mark_at marks n).address) is in
    there ∙ own ∙ ap (λ (m : Mark). m.address) (get_or_default marks k _ d lt))
    has.1 has.2

-- whether a node of a table is an ID
table_id : (marks : List Mark) (nodes ids : List Row) → IsTable marks nodes ids → (k : ℕ) (d : Mark)
    → k < length marks → has_row ids k ≡ (get_or marks k d).is_an_id
table_id marks nodes ids t k d lt =
    go (mark_at marks k).is_an_id refl ∙ ap (λ (m : Mark). m.is_an_id) (get_or_default marks k _ d lt)
  where
    go : (b : Bool) → (mark_at marks k).is_an_id ≡ b → has_row ids k ≡ (mark_at marks k).is_an_id
    go true e =
        let has = t.ids_sorted.members.whole k (lt, e) in
        let at : ℕ = has.0 in
        row_found ids (row_of File (mark_at marks k) k) at has.1 has.2 ∙ sym e
    go false e = no_row ids k (λ j r less is.
        let row = t.ids_sorted.members.inside j r less in
        let own : (mark_at marks k).is_an_id ≡ true = subst (λ n. (mark_at marks n).is_an_id ≡ true) is row.0.1 in
        absurd (cc (own, e))) ∙ sym e

-- a table's parts tell the marks of its nodes
pub marks_in-is : (marks : List Mark) (groups : List ℕ) (nodes ids : List Row)
    → map (λ (m : Mark). m.group) marks ≡ groups → IsTable marks nodes ids → marks_in groups nodes ids ≡ marks
marks_in-is marks groups nodes ids given t =
    ap (λ gs. marks_in gs nodes ids) (sym given)
    ∙ marks_from-is marks nodes ids 0
    (λ k d lt. let at : k ≡ 0 + k = omega arith in
    subst (λ n. address_in nodes n ≡ (get_or marks k d).address) at (table_address marks nodes ids t k d lt))
    (λ k d lt. let at : k ≡ 0 + k = omega arith in
    subst (λ n. has_row ids n ≡ (get_or marks k d).is_an_id) at (table_id marks nodes ids t k d lt))

-- there are as many as groups
pub length-marks_from : (i : ℕ) (groups : List ℕ) (nodes ids : List Row)
    → length (marks_from i groups nodes ids) ≡ length groups
unfolding marks_from
length-marks_from i [] nodes ids = refl
length-marks_from i (g ∷ groups) nodes ids = ap (λ n. suc n) (length-marks_from (suc i) groups nodes ids)

-- the group of each is the one that was given
pub group-marks_from : (i : ℕ) (groups : List ℕ) (nodes ids : List Row) (n d : ℕ) → n < length groups
    → option_map (λ (m : Mark). m.group) (slice_get (marks_from i groups nodes ids) n) ≡ Some (get_or groups n d)
unfolding marks_from
group-marks_from i [] nodes ids n d lt = absurd (omega (arith, lt))
group-marks_from i (g ∷ groups) nodes ids zero d lt = refl
group-marks_from i (g ∷ groups) nodes ids (suc n) d lt =
    group-marks_from (suc i) groups nodes ids n d (omega (arith, lt))
