-- Tables by the number of a type.
use Rattle.std.proofs.Common.{◌≡◌, ◌≢◌, ℕ, suc, ◌+◌, ◌<◌, Bool, true, false, cond, eqb, List, [], ◌∷◌, ◌++◌, length, get_or, set, take, Option, Some, None, refl, sym, ◌∙◌, ap, arith, eq-eqb}
use Rattle.std.specs.Prelude.{◌==◌, if◌then◌else◌}
use Rattle.std.specs.List.{position_from}
use Rattle.std.specs.Option.{option_or}
use Rattle.std.proofs.lemmas.Bool.{eqb-true}
use Rattle.std.proofs.lemmas.List.{get_or-set_same, get_or-set_other, take_more, length-set, length-take}
use Rattle.bl_format.specs.declared.catalogue.StructEntry.{StructEntry}
use Rattle.bl_layout.specs.BasicTypes.{IsStructTable, struct_among}
use Rattle.bl_layout.proofs.OffsetLemmas.{or_none}

-- the place of the first element that passes, with one element more at the end
pub position_from-push : {X : Type 0} (p : X → Bool) (i : ℕ) (xs : List X) (x : X)
    → position_from p i (xs ++ x ∷ []) ≡ option_or (position_from p i xs) (if p x then Some (i + length xs) else None)
position_from-push p i [] x = let e : i + 0 ≡ i = omega arith in rw e refl
position_from-push p i (y ∷ ys) x = go (p y) (position_from-push p (i + 1) ys x)
  where
    Rest : Option ℕ
    Rest = option_or (position_from p (i + 1) ys) (if p x then Some (i + 1 + length ys) else None)

    go : (b : Bool) → position_from p (i + 1) (ys ++ x ∷ []) ≡ Rest
        → cond b (Some i) (position_from p (i + 1) (ys ++ x ∷ [])) ≡ option_or (cond b (Some i) (position_from p (i + 1) ys)) (if p x then Some (i + suc (length ys)) else None)
    go true e = refl
    go false e = let n : i + suc (length ys) ≡ i + 1 + length ys = omega arith in rw n e

-- the table with one struct more
pub struct_push : (types i : ℕ) (structs : List StructEntry) (table : List (Option ℕ)) (s : StructEntry)
    → IsStructTable types (take i structs) table → i < length structs → s ≡ get_or structs i s → s.type_number < types
    → IsStructTable types (take (i + 1) structs) (set table s.type_number (option_or (get_or table s.type_number None) (Some i)))
struct_push types i structs table s is lt at inside = record {
  len = omega (arith, length-set table s.type_number (option_or (get_or table s.type_number None) (Some i)), is.len);
  numbers = λ u small. go u small (eqb s.type_number u) refl;
}
  where
    t : ℕ
    t = s.type_number

    entry : Option ℕ
    entry = option_or (get_or table t None) (Some i)

    more : (u : ℕ) → struct_among (take (i + 1) structs) u ≡ option_or (struct_among (take i structs) u) (if s.type_number == u then Some i else None)
    more u =
        let n : 0 + length (take i structs) ≡ i = omega (arith, length-take i structs) in
        ap (λ xs. struct_among xs u) (take_more structs i s lt)
        ∙ ap (λ (x : StructEntry). struct_among (take i structs ++ x ∷ []) u) (sym at)
        ∙ position_from-push (λ x. x.type_number == u) 0 (take i structs) s
        ∙ ap (λ (m : ℕ). option_or (struct_among (take i structs) u) (if s.type_number == u then Some m else None)) n

    go : (u : ℕ) → u < types → (b : Bool) → eqb s.type_number u ≡ b → get_or (set table t entry) u None ≡ struct_among (take (i + 1) structs) u
    go u small true e =
        let same : t ≡ u = eqb-true t u e in
        let fits : t < length table = omega (arith, is.len) in
        rw (more u, e) (rw (← same) (get_or-set_same table t entry None fits ∙ ap (λ (o : Option ℕ). option_or o (Some i)) (is.numbers t inside)))
    go u small false e =
        let apart : u ≢ t = λ same. (let f : eqb t u ≡ true = eq-eqb t u (sym same) in let g : true ≡ false = sym f ∙ e in cc) in
        rw (more u, e) (get_or-set_other table t u entry None apart ∙ is.numbers u small ∙ sym (or_none (struct_among (take i structs) u)))
