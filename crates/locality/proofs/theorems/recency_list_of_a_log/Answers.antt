use Rattle.locality.proofs.Recency.{recency-list}
use Rattle.locality.proofs.theorems.recency_list_of_a_log.Goals as goal

pub returns : goal.returns
returns g c = recency-list g.met.K.Key.lawful
