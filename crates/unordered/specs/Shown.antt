-- What an unordered store holds, and what its calls make of its slots. A time of 0 marks a free slot.
use Rattle.std.specs.Prelude.{◌≡◌, ℕ, ◌+◌, ◌≤◌, Bool, true, false, List, [], ◌∷◌, ◌++◌, map, take, drop, position, ◌&&◌, nat_eq, Some, None, Ok, Err, filter, Option, Result, ◌≢◌, nat_lt, slice_set}
use Rattle.std.specs.Option.{option_or}
use Rattle.std.specs.List.{AllByRecursion, slice_get}
use Rattle.refusals.specs.declared.Refusal.{Refusal}
use Rattle.refusals.specs.declared.Refusal.TheVariants.{NoPlace}
use Rattle.locality.specs.declared.entry.Entry.{Entry}
use Rattle.locality.specs.Numbers.{count_above}
use Rattle.locality.specs.Recency.{at_time, times_of}
use Rattle.recency.specs.Rules.{most_places, places_in, Kept, Touching, PuttingBack}
use Rattle.recency.specs.ByTime.{by_time}
use Rattle.unordered.specs.declared.store.Unordered.{Unordered}

-- the slots that are places: the first 4,096
abbrev pub in_places : {K : Type 0} → List (Entry K) → List (Entry K)
in_places slots = take most_places slots

-- the entries held in slots: those with a time other than 0
abbrev pub held_in : {K : Type 0} → List (Entry K) → List (Entry K)
held_in slots = filter (λ e. nat_lt 0 e.time) slots

-- a slot holds an entry with the key
abbrev pub holds : {K : Type 0} → (K → K → Bool) → K → Entry K → Bool
holds same k e = nat_lt 0 e.time && same k e.key

-- a slot is free
abbrev pub is_free : {K : Type 0} → Entry K → Bool
is_free e = nat_eq e.time 0

-- the place that a touch of k takes here: the first that holds the key, else the first free one
abbrev pub place_for : {K : Type 0} → (K → K → Bool) → K → List (Entry K) → Option ℕ
place_for same k slots = option_or (position (holds same k) (in_places slots)) (position is_free (in_places slots))

-- the list in slots: the entries held in the places, by falling time
abbrev pub list_in : {K : Type 0} → List (Entry K) → List (Entry K)
list_in slots = by_time (held_in (in_places slots))

-- the list in slots is as the rules keep it
abbrev pub KeptIn : {K : Type 0} → (K → K → Bool) → List (Entry K) → Type 0
KeptIn same slots = Kept same (places_in slots) (list_in slots)

-- the number of places: the slice's length, at most 4,096
abbrev pub unordered_places : {K : Type 0} → Unordered K → ℕ
unordered_places s = places_in s.slots.now

-- the list: the entries held in the places, by falling time
abbrev pub unordered_list : {K : Type 0} → Unordered K → List (Entry K)
unordered_list s = list_in s.slots.now

-- an unordered store is sound: its list is as the rules keep it
abbrev pub unordered_sound : {K : Type 0} → (K → K → Bool) → Unordered K → Type 0
unordered_sound same s = KeptIn same s.slots.now

-- what every store's touch of k at time t owes, of slots before and after it (each store has this and the next:
-- what they share is `Touching` and `PuttingBack`, and these name its own places, list and soundness)
abbrev pub SlotsRule : {K : Type 0} → (K → K → Bool) → K → ℕ → List (Entry K) → List (Entry K) → Result (Option (ℕ × ℕ)) Refusal → Type 0
SlotsRule same k t slots slots' r =
    Touching same k t (places_in slots) (places_in slots') (list_in slots) (list_in slots') (KeptIn same slots) (KeptIn same slots') r

-- and what every store's put back of the time t owes
abbrev pub SlotsBackRule : {K : Type 0} → (K → K → Bool) → ℕ → List (Entry K) → List (Entry K) → Type 0
SlotsBackRule same t slots slots' =
    PuttingBack same t (places_in slots) (places_in slots') (list_in slots) (list_in slots') (KeptIn same slots) (KeptIn same slots')

-- what every store's touch of k at time t owes, of an unordered store before and after it
abbrev pub UnorderedRule : {K : Type 0} → (K → K → Bool) → K → ℕ → Unordered K → Unordered K → Result (Option (ℕ × ℕ)) Refusal → Type 0
UnorderedRule same k t s s' r = SlotsRule same k t s.slots.now s'.slots.now r

-- what every store's put back of the time t owes
abbrev pub UnorderedBackRule : {K : Type 0} → (K → K → Bool) → ℕ → Unordered K → Unordered K → Type 0
UnorderedBackRule same t s s' = SlotsBackRule same t s.slots.now s'.slots.now

-- a slice with every place freed: its key stays, its time is 0; the slots past the places as they were
abbrev pub freed : {K : Type 0} → List (Entry K) → List (Entry K)
freed slots = map (λ e. at_time e.key 0) (in_places slots) ++ drop most_places slots

-- one place, whose entry is such, is rewritten whole; every other slot stays equal
pub record Rewritten {K : Type 0} (Such : Entry K → Type 0) (rewrite : Entry K → Entry K) (slots slots' : List (Entry K)) : Type 0 where
  pub index : ℕ
  pub old : Entry K
  pub place : slice_get (in_places slots) index ≡ Some old
  pub such : Such old
  pub after : slots' ≡ slice_set slots index (rewrite old)

-- no held slot has the key
abbrev pub Lacks : {K : Type 0} → (K → K → Bool) → K → List (Entry K) → Type 0
Lacks same k slots = AllByRecursion (λ e. 1 ≤ e.time → same k e.key ≡ false) slots

-- what a touch of k at time t makes of the slots, whatever calls came before: a slot that holds the key keeps it and takes
-- the time, and the depth is one more than the number of later times; where none holds it, a free slot, which one is open,
-- takes the key and the time; where none is free either, it is refused and nothing is written
abbrev pub TouchedSlots : {K : Type 0} → (K → K → Bool) → K → ℕ → List (Entry K) → List (Entry K) → Result (Option (ℕ × ℕ)) Refusal → Type 0
TouchedSlots same k t slots slots' (Ok (Some f)) =
    Rewritten (λ e. (1 ≤ e.time) × (same k e.key ≡ true) × (f ≡ (count_above e.time (times_of (in_places slots)) + 1, e.time)))
    (λ e. at_time e.key t) slots slots'
TouchedSlots same k t slots slots' (Ok None) =
    Lacks same k (in_places slots) × Rewritten (λ e. e.time ≡ 0) (λ e. at_time k t) slots slots'
TouchedSlots same k t slots slots' (Err e) =
    Lacks same k (in_places slots) × AllByRecursion (λ x. 1 ≤ x.time) (in_places slots) × (slots' ≡ slots) × (e ≡ NoPlace)

-- a held entry of some slots that has j − 1 later times in them
pub record Ranked {K : Type 0} (j : ℕ) (slots : List (Entry K)) (e : Entry K) : Type 0 where
  pub index : ℕ
  pub slot : slice_get slots index ≡ Some e
  pub taken : 1 ≤ e.time
  pub rank : count_above e.time (times_of slots) + 1 ≡ j

-- what entry j answers, by the slots alone, whatever calls came before: such an entry, or none where there is none
abbrev pub RankedIn : {K : Type 0} → ℕ → List (Entry K) → Option (Entry K) → Type 0
RankedIn j slots (Some e) = Ranked j slots e
RankedIn j slots None = AllByRecursion (λ e. 1 ≤ e.time → count_above e.time (times_of slots) + 1 ≢ j) slots

-- a put back of the time t, by the entries held before it: with none nothing is written; else a slot with the latest
-- time keeps its key and takes the time t, by which 0 frees it
abbrev pub PutBackIn : {K : Type 0} → List (Entry K) → ℕ → List (Entry K) → List (Entry K) → Type 0
PutBackIn [] t slots slots' = slots' ≡ slots
PutBackIn (e ∷ es) t slots slots' =
    Rewritten (λ x. (1 ≤ x.time) × AllByRecursion (λ f. f.time ≤ x.time) (in_places slots)) (λ x. at_time x.key t) slots slots'

-- what a put back of the time t makes of the slots, whatever calls came before
abbrev pub PutBackSlots : {K : Type 0} → ℕ → List (Entry K) → List (Entry K) → Type 0
PutBackSlots t slots slots' = PutBackIn (held_in (in_places slots)) t slots slots'
