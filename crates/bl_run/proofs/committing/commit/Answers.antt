use Rattle.std.proofs.Common.{arith}
use Rattle.bl_run.proofs.Obeying.{device_left, device_rose}
use Rattle.bl_run.proofs.Written.{whole_put}
use Rattle.bl_run.proofs.committing.commit.Goals as goal

pub returns-in-Err-commit : goal.returns-in-Err-commit
returns-in-Err-commit g c =
    let cause = c.in-Err-commit.ensures.cause in
    record {
      commits = record {
        room = c.commit.ensures.room;
        left = device_left _ _ _ _ c.in-Err-commit.ensures.left;
        part = whole_put _ _ _ c.in-Ok.ensures.puts.0;
        blamed = record {
          misses = cause.1;
          faults = cause.0;
          puts = omega (arith, c.in-Ok.ensures.puts.1);
          blamed = device_rose _ _ _ _ _ (c.in-Err-commit.ensures.fault) cause.2;
        };
        outside = tt;
      };
    }
