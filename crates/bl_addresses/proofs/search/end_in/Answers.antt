use Rattle.std.proofs.Common.{rules}
use Rattle.std.proofs.lemmas.List.Sorted.{IsPartitionPoint-from_clause}
use Rattle.bl_addresses.specs.Marks.{is_up_to, place_of}
use Rattle.bl_addresses.proofs.search.end_in.Goals as goal

pub returns-clause-split : goal.returns-clause-split
returns-clause-split c =
    IsPartitionPoint-from_clause (λ r. is_up_to c.args.place (place_of r)) _ _
    c.partition_point.ensures.partitioned c.requires
    (λ a r q k. search rules)
