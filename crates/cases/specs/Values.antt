-- The values that are printed, by the definitions on the log.
use Rattle.std.specs.Prelude.{ℕ, ◌+◌, Bool, List, length, Some, None, Ok, Err, Option, Result}
use Rattle.refusals.specs.declared.Refusal.{Refusal}
use Rattle.locality.specs.Log.{total, windows, gap_count}
use Rattle.locality.specs.Calls.{interval_answer, distance_answer}
use Rattle.locality.specs.Cache.{misses}
use Rattle.cases.specs.declared.curve.Curve.{Curve}
use Rattle.cases.specs.declared.curve.Curve.TheVariants.{Totals, Windows, Gaps, Misses, Intervals, Distances}

-- what a position answers; nothing where there is no such position
abbrev pub found_in : Result (Option ℕ) Refusal → Option ℕ
found_in (Ok o) = o
found_in (Err e) = None

-- the value of a curve at i: a length, an entry, a size or a position
abbrev pub value_of : {K : Type 0} → (K → K → Bool) → Curve → ℕ → List K → Option ℕ
value_of same Totals w log = Some (total same w log)
value_of same Windows w log = Some (length (windows w log))
value_of same Gaps i log = Some (gap_count same i log)
value_of same Misses c log = Some (misses same c log)
value_of same Intervals t log = found_in (interval_answer same t log)
value_of same Distances t log = found_in (distance_answer same t log)

-- lengths, entries and sizes begin at 0, positions at 1
abbrev pub first_index : Curve → ℕ
first_index Totals = 0
first_index Windows = 0
first_index Gaps = 0
first_index Misses = 0
first_index Intervals = 1
first_index Distances = 1

-- sizes end at the number of keys, the others at the number of accesses: one past the last index
abbrev pub end_index : Curve → ℕ → ℕ → ℕ
end_index Totals n m = n + 1
end_index Windows n m = n + 1
end_index Gaps n m = n + 1
end_index Misses n m = m + 1
end_index Intervals n m = n + 1
end_index Distances n m = n + 1
