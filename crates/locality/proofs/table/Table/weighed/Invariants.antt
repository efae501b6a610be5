use Rattle.std.proofs.Common.{◌≡◌, ◌-◌, ◌*◌, ◌≤◌, get_or}
use Rattle.locality.specs.Numbers.{sum_above}
use Rattle.locality.proofs.table.Table.weighed.Given as goal

abbrev pub invariant-loop-i : goal.invariant-loop-i
invariant-loop-i l =
    record {
      bound : l.sum ≤ l.i * (4096 * 4294967295);
      part : l.sum ≡ sum_above 0 (l.i - 1) (λ i. (i - 0) * get_or l.self.entries.now i 0);
    }
