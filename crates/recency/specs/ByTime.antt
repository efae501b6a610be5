-- Entries by falling time, for stores that keep them in another order.
use Rattle.std.specs.Prelude.{◌≤◌, List, [], ◌∷◌}
use Rattle.std.specs.List.{AllByRecursion}
use Rattle.std.specs.List.Sorted.{IsPermutation}
use Rattle.locality.specs.declared.entry.Entry.{Entry}
use Rattle.locality.specs.Recency.{placed}

-- the entries by falling time: each is put behind those with later times
abbrev pub by_time : {K : Type 0} → List (Entry K) → List (Entry K)
by_time [] = []
by_time (e ∷ es) = placed e (by_time es)

-- no entry is later than one before it
abbrev pub NotRising : {K : Type 0} → List (Entry K) → Type 0
NotRising [] = Unit {0}
NotRising (e ∷ es) = AllByRecursion (λ f. f.time ≤ e.time) es × NotRising es

-- a list has the given entries, each as often as they have it, newest first
pub record SortedByTime {K : Type 0} (es list : List (Entry K)) : Type 0 where
  pub permuted : IsPermutation es list
  pub newest_first : NotRising list
