use Rattle.std.proofs.Common.{◌≡◌, ◌≤◌, take}
use Rattle.locality.specs.Log.{distinct}
use Rattle.counting.proofs.windows.distinct_keys.Given as goal

abbrev pub invariant-loop-i : goal.invariant-loop-i
invariant-loop-i g l = (l.count ≤ l.i) × (l.count ≡ distinct g.K.Key.same (take l.i l.keys))
