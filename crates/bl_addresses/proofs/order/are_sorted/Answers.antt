use Rattle.std.proofs.Common.{rules}
use Rattle.std.specs.Prelude.{not}
use Rattle.std.specs.Ordering.{is_lt}
use Rattle.std.proofs.lemmas.Fn.{always_returns_same}
use Rattle.bl_addresses.specs.Order.{key, key_cmp}
use Rattle.bl_addresses.proofs.OrderLemmas.{sorted_by_answers}
use Rattle.bl_addresses.proofs.order.are_sorted.Goals as goal

pub returns : goal.returns
returns c is =
    sorted_by_answers c.args.rows.now c.is_sorted_by.result is
    (c.is_sorted_by.ensures.cases (λ x y. not (is_lt (key_cmp (key y) (key x)))) (always_returns_same _ _ _ (λ a r f h. search rules)))
