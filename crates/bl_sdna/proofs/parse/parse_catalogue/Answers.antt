use Rattle.bl_sdna.proofs.Spelled.{spelled, below_256}
use Rattle.bl_sdna.proofs.parse.parse_catalogue.Goals as goal

pub returns-clause-spelled : goal.returns-clause-spelled
returns-clause-spelled c = spelled c.args.order c.args.bytes.now c.read_catalogue.result (below_256 c.args.bytes.now c.type_inv.bytes) c.read_catalogue.ensures
