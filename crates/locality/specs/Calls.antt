-- What the calls on a burst answer, said on its log, and the log that a list of calls gives.
use Rattle.std.specs.Prelude.{◌≡◌, ℕ, ◌+◌, ◌-◌, ◌*◌, ◌<◌, ◌≤◌, Bool, if◌then◌else◌, ◌&&◌, ◌||◌, List, [], ◌∷◌, length, Some, None, Ok, Err, Option, Result, nat_le, nat_lt}
use Rattle.refusals.specs.declared.Refusal.{Refusal}
use Rattle.refusals.specs.declared.Refusal.TheVariants.{BurstFull, NoPlace, NothingToRetract, WindowTooLong, NoSuchPosition, NoSuchEntry, SizeAboveKeys}
use Rattle.locality.specs.declared.call.Call.{Call}
use Rattle.locality.specs.declared.call.Call.TheVariants.{Record, Retract, Clear}
use Rattle.locality.specs.Log.{held, distinct, interval, distance, interval_at, distance_at, windows, total, gap_count}

-- the most accesses that stand at one time
abbrev pub most_accesses : ℕ
most_accesses = 4096

-- two answers as a pair, if both are there
abbrev pub paired : Option ℕ → Option ℕ → Option (ℕ × ℕ)
paired None d = None
paired (Some i) None = None
paired (Some i) (Some d) = Some (i, d)

-- t is a position of the log
abbrev pub is_position : {K : Type 0} → ℕ → List K → Bool
is_position t log = nat_le 1 t && nat_le t (length log)

-- a key in front of the log, unless the call was refused
abbrev pub unless_refused : {X K : Type 0} → Result X Refusal → K → List K → List K
unless_refused (Ok x) k log = k ∷ log
unless_refused (Err e) k log = log

-- retract: an access stands, else nothing is there to take back
abbrev pub retract_answer : {K : Type 0} → List K → Result (Unit {0}) Refusal
retract_answer [] = Err NothingToRetract
retract_answer (k ∷ past) = Ok tt

-- the log after a retract: without its newest access
abbrev pub retract_log : {K : Type 0} → List K → List K
retract_log [] = []
retract_log (k ∷ past) = past

module _ {K : Type 0} (same : K → K → Bool) where
  -- the key is held, or a place is free: fewer different keys than places
  abbrev pub admits : ℕ → K → List K → Bool
  admits places k log = held same k log || nat_lt (distinct same log) places

  -- record: fewer than 4,096 accesses stand, and the key is admitted; then "first" (none), or interval and distance
  abbrev pub record_answer : ℕ → K → List K → Result (Option (ℕ × ℕ)) Refusal
  record_answer places k log =
      if nat_lt (length log) most_accesses then if admits places k log then Ok (paired (interval same k log) (distance same k log)) else Err NoPlace else Err BurstFull

  -- the log after a record: one access more, unless it was refused
  abbrev pub record_log : ℕ → K → List K → List K
  record_log places k log = unless_refused (record_answer places k log) k log

  -- the log after a call
  abbrev pub call_log : ℕ → Call K → List K → List K
  call_log places (Record k) log = record_log places k log
  call_log places Retract log = retract_log log
  call_log places Clear log = []

  -- the log after calls that began on a log, the first call first
  abbrev pub log_after : ℕ → List (Call K) → List K → List K
  log_after places [] log = log
  log_after places (c ∷ cs) log = log_after places cs (call_log places c log)

  -- the access log of calls on a new burst with a number of places
  abbrev pub access_log : ℕ → List (Call K) → List K
  access_log places calls = log_after places calls []

  -- footprint: a window no longer than the burst; then the total and the number of windows
  abbrev pub footprint_answer : ℕ → List K → Result (ℕ × ℕ) Refusal
  footprint_answer w log = if nat_le w (length log) then Ok (total same w log, length (windows w log)) else Err WindowTooLong

  -- interval: a position from 1 to n; then its interval, none at a first access
  abbrev pub interval_answer : ℕ → List K → Result (Option ℕ) Refusal
  interval_answer t log = if is_position t log then Ok (interval_at same t log) else Err NoSuchPosition

  -- distance: a position from 1 to n; then its distance, none at a first access
  abbrev pub distance_answer : ℕ → List K → Result (Option ℕ) Refusal
  distance_answer t log = if is_position t log then Ok (distance_at same t log) else Err NoSuchPosition

  -- gap: an entry from 0 to n; then its gap count
  abbrev pub gap_answer : ℕ → List K → Result ℕ Refusal
  gap_answer i log = if nat_le i (length log) then Ok (gap_count same i log) else Err NoSuchEntry

  -- a window length w from 0 to n fills a cache of c places: its total is at least c × (n − w + 1)
  abbrev pub Fills : ℕ → ℕ → List K → Type 0
  Fills c w log = (w ≤ length log) × (c * (length log - w + 1) ≤ total same w log)

  -- fill: a size of at most m; then a length that fills it, which one is free
  abbrev pub FillAnswer : ℕ → List K → Result ℕ Refusal → Type 0
  FillAnswer c log (Ok w) = (c ≤ distinct same log) × Fills c w log
  FillAnswer c log (Err e) = (distinct same log < c) × (e ≡ SizeAboveKeys)
