use Rattle.bl_addresses.proofs.OrderLemmas.{order_splits}
use Rattle.bl_addresses.proofs.SpanLemmas.{piece_splits, piece_ends}
use Rattle.bl_addresses.proofs.search.end_of.Goals as goal

pub end_in-requires : goal.end_in-requires
end_in-requires c =
    piece_splits c.args.rows.now c.args.place c.args.span.from c.args.span.to
    c.requires (c.ends_within.ensures c.if-ends_within.true)

pub end_in-requires-else-ends_within : goal.end_in-requires-else-ends_within
end_in-requires-else-ends_within c = order_splits c.args.rows.now c.args.place c.requires

pub returns-then-ends_within-clause-split : goal.returns-then-ends_within-clause-split
returns-then-ends_within-clause-split c =
    piece_ends c.args.rows.now c.args.place c.args.span.from c.args.span.to
    c.end_in.result (c.ends_within.ensures c.if-ends_within.true) c.end_in.ensures.bound c.end_in.ensures.split
