use Rattle.std.proofs.Common.{sym, ap, ◌∙◌}
use Rattle.bl_format.specs.declared.catalogue.Catalogue.{Catalogue}
use Rattle.bl_format.specs.Layout.{struct_name}
use Rattle.bl_plan.proofs.Found.{struct_found, struct_so_named}
use Rattle.bl_run.proofs.commands.fates.add_struct.Goals as goal

pub add_common_struct-requires-clause-s : goal.add_common_struct-requires-clause-s
add_common_struct-requires-clause-s g c =
    let name = c.struct_name-name.result.now in
    struct_found c.args.from.now.catalogue name c.in-Some.s (sym (c.requires.known name) ∙ sym (c.copied.ensures ∙ c.get.ensures.value) ∙ c.in-Some.is)

pub add_common_struct-requires-clause-name : goal.add_common_struct-requires-clause-name
add_common_struct-requires-clause-name g c =
    let name = c.struct_name-name.result.now in
    struct_so_named c.args.from.now.catalogue name c.in-Some.s (sym (c.requires.known name) ∙ sym (c.copied.ensures ∙ c.get.ensures.value) ∙ c.in-Some.is)
    ∙ c.struct_name-name.ensures ∙ ap (λ (x : Catalogue). struct_name x c.args.t) c.catalogue.ensures.is
