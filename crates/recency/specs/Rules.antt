-- The rules of a recency store: what it answers, what becomes of its list, and the premises of its calls.
-- A list has the entries newest first. What a touch and a put back make of a list is said in locality, specs/Recency.antt.
use Rattle.std.specs.Prelude.{◌≡◌, ℕ, ◌<◌, ◌≤◌, min, Bool, if◌then◌else◌, ◌||◌, List, [], ◌∷◌, length, Some, None, Ok, Err, Option, Result, ◌≢◌, nat_lt}
use Rattle.std.specs.List.{AllByRecursion}
use Rattle.refusals.specs.declared.Refusal.{Refusal}
use Rattle.refusals.specs.declared.Refusal.TheVariants.{NoPlace}
use Rattle.locality.specs.declared.entry.Entry.{Entry}
use Rattle.locality.specs.Log.{held}
use Rattle.locality.specs.Recency.{keys, found, touched, put_back, former_time, Orderly}
use Rattle.locality.specs.Calls.{most_accesses}

-- the most places of a store
abbrev pub most_places : ℕ
most_places = 4096

-- the number of places in a slice: its length, at most 4,096
abbrev pub places_in : {X : Type 0} → List X → ℕ
places_in slots = min (length slots) most_places

-- the key that a touch leaves in front: as it is stored, or the one asked for where none is
abbrev pub stored_or : {K : Type 0} → Option (Entry K) → K → K
stored_or None k = k
stored_or (Some e) k = e.key

-- the premise of a touch: a time from 1 to 4,096, later than every entry's; a time is the position of an access
pub record Later {K : Type 0} (t : ℕ) (es : List (Entry K)) : Type 0 where
  pub some : 1 ≤ t
  pub most : t ≤ most_accesses
  pub newest : AllByRecursion (λ e. e.time < t) es

-- the premise of a put back of the time t: the list is not empty, and a time other than 0 is earlier than the front's and
-- no entry has it (0 asks nothing more)
abbrev pub Returns : {K : Type 0} → ℕ → List (Entry K) → Type 0
Returns t [] = ⊥
Returns t (e ∷ es) = 1 ≤ t → (t < e.time) × AllByRecursion (λ f. f.time ≢ t) (e ∷ es)

-- a list as the rules keep it under the premises: newest first, each key once, times from 1 to 4,096, no more entries
-- than places
pub record Kept {K : Type 0} (same : K → K → Bool) (places : ℕ) (es : List (Entry K)) : Type 0 where
  pub orderly : Orderly same es
  pub early : AllByRecursion (λ e. e.time ≤ most_accesses) es
  pub within : length es ≤ places

module _ {K : Type 0} (same : K → K → Bool) where
  -- an entry has the key, or a place is free
  abbrev pub has_room : ℕ → K → List (Entry K) → Bool
  has_room places k es = held same k (keys es) || nat_lt (length es) places

  -- touch: of a held key its depth and former time; "first" (none) where a place is free; else it refuses
  abbrev pub touch_answer : ℕ → K → List (Entry K) → Result (Option (ℕ × ℕ)) Refusal
  touch_answer places k es = if has_room places k es then Ok (found same k es) else Err NoPlace

  -- the list after a touch at time t: as it was where the touch is refused
  abbrev pub touch_list : ℕ → K → ℕ → List (Entry K) → List (Entry K)
  touch_list places k t es = if has_room places k es then touched same k t es else es

-- what every touch of k at time t owes, of a store's number of places, list and soundness before and after it: the places
-- stay, always; of a sound store the list is as the rules keep it; under the premise, too, its answer and its list are
-- by the rules, and it stays sound. All else is free.
pub record Touching {K : Type 0} (same : K → K → Bool) (k : K) (t room room' : ℕ) (es es' : List (Entry K)) (sound sound' : Type 0) (r : Result (Option (ℕ × ℕ)) Refusal) : Type 0 where
  pub places : room' ≡ room
  pub kept : sound → Kept same room es
  pub answers : sound → Later t es → r ≡ touch_answer same room k es
  pub list : sound → Later t es → es' ≡ touch_list same room k t es
  pub stays : sound → Later t es → sound'

-- what every put back of the time t owes, likewise
pub record PuttingBack {K : Type 0} (same : K → K → Bool) (t room room' : ℕ) (es es' : List (Entry K)) (sound sound' : Type 0) : Type 0 where
  pub places : room' ≡ room
  pub kept : sound → Kept same room es
  pub list : sound → Returns t es → es' ≡ put_back t es
  pub stays : sound → Returns t es → sound'

-- a touch that was not refused is undone by a put back of the former time that it answered: the premise of that holds,
-- and the list is then as before the touch
abbrev pub TouchUndone : {K : Type 0} → (K → K → Bool) → Type 0
TouchUndone {K} same =
    (places : ℕ) (k : K) (t : ℕ) (es : List (Entry K)) (answer : Option (ℕ × ℕ)) → Kept same places es → Later t es → Ok answer ≡ touch_answer same places k es →
    Returns (former_time answer) (touch_list same places k t es) × (put_back (former_time answer) (touch_list same places k t es) ≡ es)

-- the rules keep every list as `Kept` says, and thus does every store that follows them
pub record RulesKeepLists {K : Type 0} (same : K → K → Bool) : Type 0 where
  pub empty : (places : ℕ) → Kept same places []
  pub touch : (places : ℕ) (k : K) (t : ℕ) (es : List (Entry K)) → Kept same places es → Later t es → Kept same places (touch_list same places k t es)
  pub back : (places t : ℕ) (es : List (Entry K)) → Kept same places es → Returns t es → Kept same places (put_back t es)
