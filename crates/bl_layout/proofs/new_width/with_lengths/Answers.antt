use Rattle.std.proofs.Common.{sym, ◌∙◌}
use Rattle.bl_format.specs.Rewidth.{rewidth}
use Rattle.bl_format.proofs.RewidthBack.{same_catalogue}
use Rattle.bl_format.proofs.RewidthKeeps.{rewidth-names, rewidth-structs}
use Rattle.bl_layout.proofs.new_width.with_lengths.Goals as goal

pub returns : goal.returns
returns c = λ from to is.
    let cat = c.args.catalogue.now in
    same_catalogue (record { names = c.in_ok-copy_of_names.field-0; types = c.in_ok-types_with.field-0; structs = c.in_ok-copy_of_structs.field-0 }) (rewidth cat from to)
    (c.in_ok-copy_of_names.ensures ∙ c.as_slice.ensures ∙ sym (rewidth-names cat from to))
    (c.in_ok-types_with.ensures from to is)
    (c.in_ok-copy_of_structs.ensures ∙ c.as_slice-2.ensures ∙ sym (rewidth-structs cat from to))
