use Rattle.bl_format.specs.Blocks.{header_written}
use Rattle.bl_format.proofs.HeaderBack.{header_of-header_written}
use Rattle.bl_header.proofs.header.write_header.Goals as goal

pub returns-clause-reads_back : goal.returns-clause-reads_back
unfolding header_written
returns-clause-reads_back c rest =
    rw (c.width_mark.ensures, c.order_mark.ensures) (header_of-header_written c.args.header.now rest c.requires.first c.requires.last)
