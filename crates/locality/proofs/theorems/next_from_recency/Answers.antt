use Rattle.locality.proofs.Cache.{next}
use Rattle.locality.proofs.theorems.next_from_recency.Goals as goal

pub returns : goal.returns
returns g c = next g.met.K.Key.lawful
