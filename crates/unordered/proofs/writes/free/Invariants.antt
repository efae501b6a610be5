use Rattle.std.proofs.Common.{◌≡◌, ◌++◌, map, take, drop}
use Rattle.locality.specs.Recency.{at_time}
use Rattle.unordered.proofs.writes.free.Given as goal

abbrev pub invariant-loop-slot : goal.invariant-loop-slot
invariant-loop-slot g l = l.slots ≡ map (λ e. at_time e.key 0) (take l.slot-index l.initial.slots) ++ drop l.slot-index l.initial.slots
