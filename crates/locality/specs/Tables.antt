-- Tables of counts, as a program holds them: entries 0 to n for a burst of n accesses, at most 4,096.
use Rattle.std.specs.Prelude.{◌≡◌, ℕ, suc, ◌+◌, ◌-◌, ◌*◌, ◌≤◌, Bool, if◌then◌else◌, ◌&&◌, List, length, Some, None, Option, nat_le, slice_index}
use Rattle.locality.specs.Numbers.{sum_above}
use Rattle.locality.specs.Log.{distinct}
use Rattle.locality.specs.Calls.{most_accesses}

-- a table of some burst has 1 to 4,097 entries
abbrev pub is_table : List ℕ → Bool
is_table table = nat_le 1 (length table) && nat_le (length table) (suc most_accesses)

-- its last entry, n
abbrev pub last_entry : List ℕ → ℕ
last_entry table = length table - 1

-- a difference that does not truncate
abbrev pub difference : ℕ → ℕ → Option ℕ
difference a b = if nat_le b a then Some (a - b) else None

-- the sum over the entries i above w of (i − w) × entry i
abbrev pub beyond : ℕ → List ℕ → ℕ
beyond w table = sum_above w (last_entry table) (λ i. (i - w) * slice_index table i)

-- the footprint formula on a gap table and m keys; none for what is no table, for a length past n, and where the sum is
-- too large
abbrev pub total_of_table : ℕ → ℕ → List ℕ → Option ℕ
total_of_table w m table =
    if is_table table && nat_le w (last_entry table) then difference (m * (last_entry table - w + 1)) (beyond w table) else None

-- the misses of size c on a table of depth counts and m keys; none for what is no table
abbrev pub misses_of_table : ℕ → ℕ → List ℕ → Option ℕ
misses_of_table c m table = if is_table table then Some (m + sum_above c (last_entry table) (λ d. slice_index table d)) else None

-- a table has the counts of a log at its entries 0 to n
pub record TableOf {K : Type 0} (count : ℕ → List K → ℕ) (log : List K) (table : List ℕ) : Type 0 where
  pub long : length table ≡ suc (length log)
  pub counts : (i : ℕ) → i ≤ length log → slice_index table i ≡ count i log

-- a table and a number of keys are those of a log that a burst can hold
pub record Tallies {K : Type 0} (same : K → K → Bool) (count : ℕ → List K → ℕ) (log : List K) (table : List ℕ) (m : ℕ) : Type 0 where
  pub counted : TableOf count log table
  pub keyed : m ≡ distinct same log
  pub fits : length log ≤ most_accesses
