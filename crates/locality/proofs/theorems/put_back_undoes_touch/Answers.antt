use Rattle.locality.proofs.Recency.{undone}
use Rattle.locality.proofs.theorems.put_back_undoes_touch.Goals as goal

pub returns : goal.returns
returns g c = undone g.met.K.Key.lawful
