-- The LRU cache.
use Rattle.std.specs.Prelude.{ℕ, ◌+◌, Bool, if◌then◌else◌, List, [], ◌∷◌, take}
use Rattle.locality.specs.Log.{held}
use Rattle.locality.specs.Recency.{stored, without}

module _ {K : Type 0} (same : K → K → Bool) where
  -- an access of k by a cache of c places that holds ks: on a hit the held key goes to the front;
  -- on a miss k goes to the front, and the list is cut to its first c keys
  abbrev pub accessed : ℕ → K → List K → List K
  accessed c k ks = if held same k ks then stored same k ks ∷ without (same k) ks else take c (k ∷ ks)

  -- what a cache of c places, empty at the start, holds after a log
  abbrev pub cache : ℕ → List K → List K
  cache c [] = []
  cache c (k ∷ past) = accessed c k (cache c past)

  -- its misses on the log
  abbrev pub misses : ℕ → List K → ℕ
  misses c [] = 0
  misses c (k ∷ past) = (if held same k (cache c past) then 0 else 1) + misses c past
