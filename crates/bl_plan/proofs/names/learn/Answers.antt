use Rattle.std.proofs.Common.{sym, ◌∙◌}
use Rattle.std.proofs.lemmas.Map.Text.{btree_map_updates_str}
use Rattle.bl_plan.proofs.NameLemmas.{learns_new}
use Rattle.bl_plan.proofs.names.learn.Goals as goal

pub returns : goal.returns
returns c =
    learns_new c.args.known.now c.insert.new.self c.args.name.now c.args.number (sym c.contains_key.ensures ∙ c.if-contains_key.false)
    (btree_map_updates_str c.args.name.now c.args.known.now c.insert.new.self _ c.in_ok-insert.ensures.updates)
