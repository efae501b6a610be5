-- What a simulated cache holds.
use Rattle.std.specs.Prelude.{List, take}
use Rattle.counting.specs.declared.simulation.Cache.{Cache}

-- its keys, the newest first: those in the first `count` places
abbrev pub in_cache : {K : Type 0} → Cache K → List K
in_cache c = take c.count c.places.now
