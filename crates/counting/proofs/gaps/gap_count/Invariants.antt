use Rattle.std.proofs.Common.{◌≡◌, ◌+◌, ◌-◌, ◌*◌, ◌≤◌, length}
use Rattle.locality.specs.Numbers.{sum_over}
use Rattle.locality.specs.ByPosition.{positions}
use Rattle.counting.specs.Shares.{share_of}
use Rattle.counting.proofs.gaps.gap_count.Given as goal

abbrev pub invariant-loop-at : goal.invariant-loop-at
invariant-loop-at g l =
    record {
      near : l.at ≤ length l.keys + 1;
      bound : l.count ≤ (l.at - 1) * 255;
      counted : l.count ≡ sum_over (share_of g.K.Key.same l.keys l.size) (positions (l.at - 1));
    }
