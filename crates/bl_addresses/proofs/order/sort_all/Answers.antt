use Rattle.std.proofs.Common.{rules}
use Rattle.std.proofs.lemmas.Fn.{always_returns_same}
use Rattle.bl_addresses.specs.Order.{key}
use Rattle.bl_addresses.proofs.order.sort_all.Goals as goal

pub returns-clause-sorted : goal.returns-clause-sorted
returns-clause-sorted c = c.sort_unstable_by_key.ensures.sorted key (always_returns_same _ _ _ (λ a r f h. search rules))
