-- The theorems, each a statement about every log of a key kind, told by its sameness.
use Rattle.std.specs.Prelude.{◌≡◌, ℕ, suc, ◌+◌, ◌-◌, ◌*◌, ◌≤◌, Bool, true, ◌↔◌, List, [], ◌∷◌, reverse, length, Some, Ok, Option}
use Rattle.std.specs.Option.{option_map}
use Rattle.std.specs.List.{AllByRecursion}
use Rattle.locality.specs.declared.call.Call.{Call}
use Rattle.locality.specs.declared.entry.Entry.{Entry}
use Rattle.locality.specs.Numbers.{count_above, sum_above}
use Rattle.locality.specs.Log.{held, distinct, windows, total, former, interval, distance, reuse_count, depth_count, lasts, gap_count}
use Rattle.locality.specs.Recency.{keys, times_of, stored, found, touched, recent, put_back, former_time, Orderly}
use Rattle.locality.specs.Cache.{misses}
use Rattle.locality.specs.Tables.{total_of_table, misses_of_table, TableOf, Tallies}
use Rattle.locality.specs.Calls.{access_log, FillAnswer}
use Rattle.locality.specs.ByPosition.{standing_after, Textbook}

-- what the gaps above w take from m × (n − w + 1): the sum of (i − w) × gap count i over the entries i above w
unfoldable pub gap_sum : {K : Type 0} → (K → K → Bool) → ℕ → List K → ℕ
gap_sum same w log = sum_above w (length log) (λ i. (i - w) * gap_count same i log)

-- the footprint total from the gap table; n − w + 1 windows; the subtraction never truncates
abbrev pub TotalsFromGaps : {K : Type 0} → (K → K → Bool) → Type 0
TotalsFromGaps {K} same =
    (log : List K) (w : ℕ) → w ≤ length log →
    (total same w log ≡ distinct same log * (length log - w + 1) - gap_sum same w log)
    × (length (windows w log) ≡ length log - w + 1)
    × (gap_sum same w log ≤ distinct same log * (length log - w + 1))

-- an LRU cache of c places misses once for each different key, and at each distance above c
abbrev pub MissesFromDepths : {K : Type 0} → (K → K → Bool) → Type 0
MissesFromDepths {K} same =
    (log : List K) (c : ℕ) → misses same c log ≡ distinct same log + sum_above c (length log) (λ d. depth_count same d log)

-- equal footprint totals at every window length
abbrev pub SameTotals : {K L : Type 0} → (K → K → Bool) → List K → (L → L → Bool) → List L → Type 0
SameTotals same p like q = (w : ℕ) → w ≤ length p → total same w p ≡ total like w q

-- equal gap counts at every entry
abbrev pub SameGaps : {K L : Type 0} → (K → K → Bool) → List K → (L → L → Bool) → List L → Type 0
SameGaps same p like q = (i : ℕ) → i ≤ length p → gap_count same i p ≡ gap_count like i q

-- two logs of one length, of whatever kinds, have equal totals exactly when they have equal gap tables
abbrev pub TotalsTellGaps : {K L : Type 0} → (K → K → Bool) → (L → L → Bool) → Type 0
TotalsTellGaps {K} {L} same like =
    (p : List K) (q : List L) → length p ≡ length q → SameTotals same p like q ↔ SameGaps same p like q

-- interval and distance of the next access, read off the recency list: its time less the former time, and the depth
abbrev pub NextFromRecency : {K : Type 0} → (K → K → Bool) → Type 0
NextFromRecency {K} same =
    (k : K) (past : List K) →
    (interval same k past ≡ option_map (λ f. suc (length past) - f.1) (found same k (recent same past)))
    × (distance same k past ≡ option_map (λ f. f.0) (found same k (recent same past)))

-- the recency list of a log has the log's keys, each different one once, newest first; its times are the last positions,
-- each entry's the newest position with a same key; and the key of an entry is the first of its same keys, the accesses
-- taken oldest first
pub record RecencyList {K : Type 0} (same : K → K → Bool) (log : List K) : Type 0 where
  pub orderly : Orderly same (recent same log)
  pub holds : (k : K) → held same k (keys (recent same log)) ≡ held same k log
  pub once : length (recent same log) ≡ distinct same log
  pub last : times_of (recent same log) ≡ lasts same log
  pub under_last : AllByRecursion (λ e. e.time ≡ former same e.key log) (recent same log)
  pub first_stored : AllByRecursion (λ e. e.key ≡ stored same e.key (reverse log)) (recent same log)

-- a put back of the former time after a touch gives the list before it, on every orderly list and so on every log's
abbrev pub PutBackUndoes : {K : Type 0} → (K → K → Bool) → Type 0
PutBackUndoes {K} same =
    ((k : K) (t : ℕ) (es : List (Entry K)) → Orderly same es → put_back (former_time (found same k es)) (touched same k t es) ≡ es)
    × ((k : K) (past : List K) → put_back (former same k past) (recent same (k ∷ past)) ≡ recent same past)

-- the depth of a key is one more than the number of later times
abbrev pub DepthFromTimes : {K : Type 0} → (K → K → Bool) → Type 0
DepthFromTimes {K} same =
    (k : K) (es : List (Entry K)) (d t : ℕ) → Orderly same es → found same k es ≡ Some (d, t) → d ≡ count_above t (times_of es) + 1

-- every definition in use is the textbook's, and so is the access log of any calls
abbrev pub TextbookAgrees : {K : Type 0} → (K → K → Bool) → Type 0
TextbookAgrees {K} same =
    ((log : List K) → Textbook same log)
    × ((places : ℕ) (calls : List (Call K)) → reverse (access_log same places calls) ≡ standing_after same places calls [])

-- every size up to the number of keys is filled: by the whole burst, if by no shorter length
abbrev pub WholeBurstFills : {K : Type 0} → (K → K → Bool) → Type 0
WholeBurstFills {K} same = (log : List K) (c : ℕ) → c ≤ distinct same log → FillAnswer same c log (Ok (length log))

-- no gap, interval or distance is 0
abbrev pub EntryZeroIsEmpty : {K : Type 0} → (K → K → Bool) → Type 0
EntryZeroIsEmpty {K} same =
    (log : List K) → (gap_count same 0 log ≡ 0) × (reuse_count same 0 log ≡ 0) × (depth_count same 0 log ≡ 0)

-- what the total worked out of a gap table is: the formula of every log; on this table its answer; and for every log
-- that the table and the number of keys are those of, the total counted afresh
pub record TotalFromTable {K : Type 0} (same : K → K → Bool) (table : List ℕ) (m w : ℕ) (answer : Option ℕ) : Type 0 where
  pub formula : TotalsFromGaps same
  pub answers : answer ≡ total_of_table w m table
  pub counted : (log : List K) → Tallies same (gap_count same) log table m → w ≤ length log → answer ≡ Some (total same w log)

-- what the misses worked out of a table of depth counts are: the formula of every log; on this table its answer; and
-- for every log that the table and the number of keys are those of, the misses of the LRU cache
pub record MissesFromTable {K : Type 0} (same : K → K → Bool) (table : List ℕ) (m c : ℕ) (answer : Option ℕ) : Type 0 where
  pub formula : MissesFromDepths same
  pub answers : answer ≡ misses_of_table c m table
  pub simulated : (log : List K) → Tallies same (depth_count same) log table m → answer ≡ Some (misses same c log)

-- what the comparison of two gap tables tells: totals and gaps of every two logs; whether the tables are equal; and for
-- every two logs that they are those of, whether the logs have one length and equal totals
pub record TablesTellTotals {K L : Type 0} (same : K → K → Bool) (like : L → L → Bool) (one other : List ℕ) (answer : Bool) : Type 0 where
  pub theorem : TotalsTellGaps same like
  pub answers : (answer ≡ true) ↔ (one ≡ other)
  pub told : (p : List K) (q : List L) → TableOf (gap_count same) p one → TableOf (gap_count like) q other → (answer ≡ true) ↔ ((length p ≡ length q) × SameTotals same p like q)
