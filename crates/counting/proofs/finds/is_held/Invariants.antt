use Rattle.std.proofs.Common.{◌≡◌, drop}
use Rattle.locality.specs.Log.{held}
use Rattle.counting.proofs.finds.is_held.Given as goal

abbrev pub invariant-loop-other : goal.invariant-loop-other
invariant-loop-other g l = held g.K.Key.same l.key (drop l.other-index l.keys) ≡ held g.K.Key.same l.key l.keys
