use Rattle.std.proofs.Common.{arith}
use Rattle.locality.proofs.Slices.{front_cut}
use Rattle.unordered.proofs.scans.in_places.Goals as goal

pub returns-clause-slots : goal.returns-clause-slots
returns-clause-slots g c = front_cut 4096 c.args.slots.now _ (omega arith)
