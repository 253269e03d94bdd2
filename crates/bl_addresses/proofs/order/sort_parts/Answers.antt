use Rattle.std.proofs.Common.{sym, subst, ◌∙◌, ap, ◌++◌, List}
use Rattle.std.specs.Prelude.{IsPermutation}
use Rattle.std.proofs.lemmas.List.Sorted.{IsPermutation-refl, IsPermutation-trans, IsPermutation-append, IsPermutation-append_right}
use Rattle.bl_addresses.specs.declared.marks.Row.{Row}
use Rattle.bl_addresses.proofs.order.sort_parts.Goals as goal

pub loop-from-init : goal.loop-from-init
loop-from-init c = IsPermutation-refl c.args.rows.now

pub loop-from-preserved : goal.loop-from-preserved
loop-from-preserved c =
    let front = c.split_at_mut-rest.result.0.now in
    let own = c.split_at_mut-own.result.0.now in
    let back = c.split_at_mut-own.result.1.now in
    let sorted = c.sort_unstable_by_key.new.self in
    let rest = c.split_at_mut-rest.ensures.value ∙ ap (λ (xs : List Row). front ++ xs) c.split_at_mut-own.ensures.value in
    let moved = IsPermutation-append_right front (own ++ back) (sorted ++ back)
    (IsPermutation-append own sorted back back c.sort_unstable_by_key.ensures.permutation (IsPermutation-refl back)) in
    IsPermutation-trans c.args.rows.now c.loop-from.rows _ c.loop-from.invariant
    (subst (λ (xs : List Row). IsPermutation xs (front ++ (sorted ++ back))) (sym rest) moved)

pub returns-clause-moved : goal.returns-clause-moved
returns-clause-moved c = c.loop-from.invariant
