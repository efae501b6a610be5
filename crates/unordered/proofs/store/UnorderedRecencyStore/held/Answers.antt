use Rattle.recency.proofs.ByTime.{sorted_by_time}
use Rattle.unordered.proofs.store.UnorderedRecencyStore.held.Goals as goal

pub returns-clause-sorted : goal.returns-clause-sorted
returns-clause-sorted g c = sorted_by_time _
