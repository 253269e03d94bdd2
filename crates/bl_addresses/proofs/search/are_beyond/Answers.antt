use Rattle.std.proofs.Common.{sym, ◌∙◌, ap}
use Rattle.std.proofs.lemmas.Bool.{not-true}
use Rattle.bl_addresses.specs.Marks.{is_up_to}
use Rattle.bl_addresses.proofs.SpanLemmas.{beyond_behind}
use Rattle.bl_addresses.proofs.search.are_beyond.Goals as goal

pub returns-else-to-rows : goal.returns-else-to-rows
returns-else-to-rows c beyond =
    let far = not-true c.is_up_to.result beyond in
    let here = sym (ap (is_up_to c.args.place) c.place_of.ensures) ∙ sym c.is_up_to.ensures ∙ far in
    beyond_behind c.args.rows.now c.args.to c.args.place _ c.requires.rows here
