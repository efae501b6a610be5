use Rattle.std.proofs.Common.{◌≡◌, ◌≤◌, [], length, take}
use Rattle.locality.specs.Slices.{in_front}
use Rattle.locality.specs.ByPosition.{cache_from, misses_from}
use Rattle.counting.proofs.simulation.lru_misses.Given as goal

abbrev pub invariant-loop-key : goal.invariant-loop-key
invariant-loop-key g l =
    record {
      few : l.missed ≤ l.key-index;
      missed : l.missed ≡ misses_from g.K.Key.same (length l.fn.places) [] (take l.key-index l.keys);
      keys : take l.cache.count l.cache.places.now ≡ cache_from g.K.Key.same (length l.fn.places) [] (take l.key-index l.keys);
      memory : l.cache.places.now ≡ in_front (take l.cache.count l.cache.places.now) l.fn.places;
      room : length l.cache.places.now ≡ length l.fn.places;
      lent : l.cache.places.ghost_name ≡ l.initial.cache.places.ghost_name;
    }
