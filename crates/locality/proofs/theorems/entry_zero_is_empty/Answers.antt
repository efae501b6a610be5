use Rattle.locality.proofs.Curves.{zero_empty}
use Rattle.locality.proofs.theorems.entry_zero_is_empty.Goals as goal

pub returns : goal.returns
returns g c = zero_empty g.met.K.Key.lawful
