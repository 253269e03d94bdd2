use Rattle.std.proofs.Common.{List, refl, sym, ap, ◌∙◌}
use Rattle.bl_format.specs.declared.file.Head.{Head}
use Rattle.bl_format.specs.declared.catalogue.Catalogue.{Catalogue}
use Rattle.std.specs.Prelude.{map}
use Rattle.bl_cli.proofs.SecondGroup.{second_group, IsSourceDraft-second_group}
use Rattle.bl_cli.proofs.tests.outputs.second_group.Goals as goal

pub returns : goal.returns
returns c =
    let o = c.args.outline.now in
    IsSourceDraft-second_group o c.in_ok-draft.draft c.requires
    (c.in_ok-draft.ensures ∙ ap (λ (x : Catalogue). second_group o.header x) (c.in_ok-catalogue.ensures ∙ c.catalogue.ensures.is))
    (ap (λ (xs : List Head). map (λ (x : Head). x.code) xs) (sym c.as_slice.ensures) ∙ c.if-not-are_two_groups.ensures refl)
