-- The same definitions as a textbook gives them: the accesses oldest first, each thing told by its position.
use Rattle.std.specs.Prelude.{◌≡◌, ℕ, zero, suc, ◌+◌, ◌-◌, ◌≤◌, Bool, false, if◌then◌else◌, ◌&&◌, ◌||◌, List, [], ◌∷◌, ◌++◌, map, reverse, length, take, drop, Some, None, filter, Option, ◌==◌, nat_eq, nat_lt}
use Rattle.std.specs.List.{range_with_len, slice_get}
use Rattle.locality.specs.declared.call.Call.{Call}
use Rattle.locality.specs.declared.call.Call.TheVariants.{Record, Retract, Clear}
use Rattle.locality.specs.declared.entry.Entry.{Entry}
use Rattle.locality.specs.Numbers.{sum_over, times}
use Rattle.locality.specs.Log.{listed, held, distinct, windows, total, former, interval_at, distance_at, reuse_count, depth_count, firsts, lasts, gap_count, up_to}
use Rattle.locality.specs.Recency.{touched, recent}
use Rattle.locality.specs.Cache.{accessed, cache, misses}
use Rattle.locality.specs.Calls.{most_accesses}

-- position t, counted from 1: the t-th key
abbrev pub key_at : {K : Type 0} → List K → ℕ → Option K
key_at xs zero = None
key_at xs (suc t) = slice_get xs t

-- the newest key of a log, which stands at its head
abbrev pub newest_key : {K : Type 0} → List K → Option K
newest_key [] = None
newest_key (k ∷ past) = Some k

-- the positions 1 to n
abbrev pub positions : ℕ → List ℕ
positions n = range_with_len 1 n

-- the greatest of the positions 1 to n that passes a test, 0 if none does
abbrev pub greatest : (ℕ → Bool) → ℕ → ℕ
greatest passes zero = 0
greatest passes (suc n) = if passes (suc n) then suc n else greatest passes n

-- the window of length w that starts at position s
abbrev pub window : {K : Type 0} → ℕ → ℕ → List K → List K
window w s xs = take w (drop (s - 1) xs)

-- the windows of length w, by their start
abbrev pub windows_by_start : {K : Type 0} → ℕ → List K → List (List K)
windows_by_start w xs = map (λ s. window w s xs) (positions (suc (length xs) - w))

-- the number of positions at which an answer is i
abbrev pub positions_with : {K : Type 0} → (ℕ → Option ℕ) → ℕ → List K → ℕ
positions_with answer i xs = sum_over (λ t. times i (listed (answer t))) (positions (length xs))

-- the accesses without the newest, which stands last
abbrev pub without_newest : {K : Type 0} → List K → List K
without_newest xs = take (length xs - 1) xs

module _ {K : Type 0} (same : K → K → Bool) where
  -- two keys that are there are the same
  abbrev pub alike : Option K → Option K → Bool
  alike None y = false
  alike (Some a) None = false
  alike (Some a) (Some b) = same a b

  -- the key at position t is the same as the one at position p
  abbrev pub same_at : List K → ℕ → ℕ → Bool
  same_at xs t p = alike (key_at xs t) (key_at xs p)

  -- the former position of t: the greatest earlier one with the same key
  abbrev pub former_of : List K → ℕ → ℕ
  former_of xs t = greatest (same_at xs t) (t - 1)

  -- x for a position that has a former one, nothing for a first position
  abbrev pub unless_first : List K → ℕ → ℕ → Option ℕ
  unless_first xs t x = if former_of xs t == 0 then None else Some x

  -- the interval of t: t less its former position
  abbrev pub interval_of : List K → ℕ → Option ℕ
  interval_of xs t = unless_first xs t (t - former_of xs t)

  -- the distance of t: the different keys at the positions from the former one up to t − 1
  abbrev pub distance_of : List K → ℕ → Option ℕ
  distance_of xs t = unless_first xs t (distinct same (window (t - former_of xs t) (former_of xs t) xs))

  -- the first positions: those without a former one
  abbrev pub first_positions : List K → List ℕ
  first_positions xs = filter (λ t. nat_eq (former_of xs t) 0) (positions (length xs))

  -- the last positions: those that are the greatest with their key
  abbrev pub last_positions : List K → List ℕ
  last_positions xs = filter (λ t. nat_eq (greatest (same_at xs t) (length xs)) t) (positions (length xs))

  -- a cache of c places that holds ks, stepped from the oldest access on: what it then holds
  abbrev pub cache_from : ℕ → List K → List K → List K
  cache_from c ks [] = ks
  cache_from c ks (k ∷ later) = cache_from c (accessed same c k ks) later

  -- and its misses on the way
  abbrev pub misses_from : ℕ → List K → List K → ℕ
  misses_from c ks [] = 0
  misses_from c ks (k ∷ later) = (if held same k ks then 0 else 1) + misses_from c (accessed same c k ks) later

  -- a recency list touched from the oldest access on, the first at time t
  abbrev pub recent_from : ℕ → List (Entry K) → List K → List (Entry K)
  recent_from t es [] = es
  recent_from t es (k ∷ later) = recent_from (suc t) (touched same k t es) later

  -- an access appended, where fewer than 4,096 stand and its key is held or a place is free
  abbrev pub appended : ℕ → K → List K → List K
  appended places k xs =
      if nat_lt (length xs) most_accesses && (held same k xs || nat_lt (distinct same xs) places) then xs ++ (k ∷ []) else xs

  -- the standing accesses after calls that began on some, oldest first: a record appends, a retract takes the last one
  -- off, a clear empties
  abbrev pub standing_after : ℕ → List (Call K) → List K → List K
  standing_after places [] xs = xs
  standing_after places (Record k ∷ calls) xs = standing_after places calls (appended places k xs)
  standing_after places (Retract ∷ calls) xs = standing_after places calls (without_newest xs)
  standing_after places (Clear ∷ calls) xs = standing_after places calls []

-- each definition in use, on a log, is the textbook's on the same accesses oldest first
pub record Textbook {K : Type 0} (same : K → K → Bool) (log : List K) : Type 0 where
  -- recording appends
  pub appends : (k : K) → reverse (k ∷ log) ≡ reverse log ++ (k ∷ [])
  -- position t is the t-th key
  pub position : (t : ℕ) → t ≤ length log → newest_key (up_to t log) ≡ key_at (reverse log) t
  -- the former position of the next access
  pub formerly : (k : K) → former same k log ≡ former_of same (reverse (k ∷ log)) (suc (length log))
  pub interval : (t : ℕ) → t ≤ length log → interval_at same t log ≡ interval_of same (reverse log) t
  pub distance : (t : ℕ) → t ≤ length log → distance_at same t log ≡ distance_of same (reverse log) t
  -- the windows, each read oldest first, the earliest first
  pub starts : (w : ℕ) → reverse (map reverse (windows w log)) ≡ windows_by_start w (reverse log)
  pub totals : (w : ℕ) → total same w log ≡ sum_over (distinct same) (windows_by_start w (reverse log))
  pub reuses : (i : ℕ) → reuse_count same i log ≡ positions_with (interval_of same (reverse log)) i (reverse log)
  pub depths : (d : ℕ) → depth_count same d log ≡ positions_with (distance_of same (reverse log)) d (reverse log)
  pub first : reverse (firsts same log) ≡ first_positions same (reverse log)
  pub last : reverse (lasts same log) ≡ last_positions same (reverse log)
  pub gaps : (i : ℕ) → gap_count same i log ≡ positions_with (interval_of same (reverse log)) i (reverse log) + times i (first_positions same (reverse log)) + times i (map (λ l. suc (length log) - l) (last_positions same (reverse log)))
  pub caches : (c : ℕ) → cache same c log ≡ cache_from same c [] (reverse log)
  pub misses : (c : ℕ) → misses same c log ≡ misses_from same c [] (reverse log)
  pub recency : recent same log ≡ recent_from same 1 [] (reverse log)
