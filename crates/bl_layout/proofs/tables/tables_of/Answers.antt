use Rattle.bl_layout.proofs.NumberedLemmas.{struct_types_inside}
use Rattle.bl_layout.proofs.tables.tables_of.Goals as goal

pub contents-requires-clause-inside : goal.contents-requires-clause-inside
contents-requires-clause-inside c =
    rw (c.numbered-types.ensures, c.as_slice.ensures, c.as_slice-structs.ensures) (struct_types_inside c.args.catalogue.now c.requires)
