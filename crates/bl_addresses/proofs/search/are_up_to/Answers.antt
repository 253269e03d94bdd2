use Rattle.std.proofs.Common.{sym, ◌∙◌, ap}
use Rattle.bl_addresses.specs.Marks.{is_up_to}
use Rattle.bl_addresses.proofs.SpanLemmas.{up_to_before}
use Rattle.bl_addresses.proofs.search.are_up_to.Goals as goal

pub returns-else-from-eq0 : goal.returns-else-from-eq0
returns-else-from-eq0 c up =
    let here = sym (ap (is_up_to c.args.place) c.place_of.ensures) ∙ sym c.is_up_to.ensures ∙ up in
    up_to_before c.args.rows.now c.args.from c.args.place _ c.requires.rows c.requires.inside here
