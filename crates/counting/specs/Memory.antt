-- A slice that is lent to a cache.
use Rattle.std.specs.Prelude.{Bool, List, reverse, length}
use Rattle.locality.specs.Cache.{cache}
use Rattle.locality.specs.Slices.{in_front}

-- what the slice holds after a cache with as many places has had the accesses, given oldest first: the keys of the cache,
-- and behind them what it held before
abbrev pub memory_after : {K : Type 0} → (K → K → Bool) → List K → List K → List K
memory_after same keys places = in_front (cache same (length places) (reverse keys)) places
