use Rattle.std.proofs.Common.{◌≡◌, ◌+◌, ◌*◌, ◌≤◌, reverse, length}
use Rattle.locality.specs.Log.{total}
use Rattle.counting.proofs.windows.footprint_total.Given as goal

abbrev pub invariant-loop-keys : goal.invariant-loop-keys
invariant-loop-keys g l =
    record {
      sized : l.keys-iterator.size ≡ l.initial.keys-iterator.size;
      bound : l.sum + length l.keys-iterator.rest.now * 18446744073709551615 ≤ length l.initial.keys-iterator.rest.now * 18446744073709551615;
      left : l.sum + total g.K.Key.same l.window (reverse l.keys-iterator.rest.now) ≡ total g.K.Key.same l.window (reverse l.initial.keys-iterator.rest.now);
    }
