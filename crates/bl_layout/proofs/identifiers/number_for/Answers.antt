use Rattle.std.proofs.lemmas.Map.Text.{btree_map_updates_str}
use Rattle.bl_layout.proofs.identifiers.number_for.Goals as goal

pub returns-clause-learns : goal.returns-clause-learns
returns-clause-learns c = btree_map_updates_str c.args.identifier.now c.args.known.now c.insert.new.self _ c.in_ok-insert.ensures.updates
