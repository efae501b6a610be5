-- What an ordered store holds, and what its calls make of it.
use Rattle.std.specs.Prelude.{◌≡◌, ℕ, Bool, List, take, Option, Result}
use Rattle.refusals.specs.declared.Refusal.{Refusal}
use Rattle.locality.specs.declared.entry.Entry.{Entry}
use Rattle.locality.specs.Recency.{put_back}
use Rattle.locality.specs.Slices.{in_front}
use Rattle.recency.specs.Rules.{places_in, touch_answer, touch_list, Kept, Touching, PuttingBack}
use Rattle.ordered.specs.declared.store.Ordered.{Ordered}

-- the number of places: the slice's length, at most 4,096
abbrev pub ordered_places : {K : Type 0} → Ordered K → ℕ
ordered_places s = places_in s.slots.now

-- the list: the first `count` slots
abbrev pub ordered_list : {K : Type 0} → Ordered K → List (Entry K)
ordered_list s = take s.count s.slots.now

-- an ordered store is sound: its list is as the rules keep it
abbrev pub ordered_sound : {K : Type 0} → (K → K → Bool) → Ordered K → Type 0
ordered_sound same s = Kept same (ordered_places s) (ordered_list s)

-- what every store's touch of k at time t owes, of an ordered store before and after it (each store has this and the next:
-- what they share is `Touching` and `PuttingBack`, and these name its own places, list and soundness)
abbrev pub OrderedRule : {K : Type 0} → (K → K → Bool) → K → ℕ → Ordered K → Ordered K → Result (Option (ℕ × ℕ)) Refusal → Type 0
OrderedRule same k t s s' r =
    Touching same k t (ordered_places s) (ordered_places s') (ordered_list s) (ordered_list s') (ordered_sound same s) (ordered_sound same s') r

-- what every store's put back of the time t owes
abbrev pub OrderedBackRule : {K : Type 0} → (K → K → Bool) → ℕ → Ordered K → Ordered K → Type 0
OrderedBackRule same t s s' =
    PuttingBack same t (ordered_places s) (ordered_places s') (ordered_list s) (ordered_list s') (ordered_sound same s) (ordered_sound same s')

-- a call leaves the new list in front of the caller's slice, and behind it what the slice held before
pub record InCallersSlice {K : Type 0} (s s' : Ordered K) : Type 0 where
  pub slots : s'.slots.now ≡ in_front (ordered_list s') s.slots.now
  pub callers : s'.slots.ghost_name ≡ s.slots.ghost_name

-- what a touch of k at time t makes of an ordered store, whatever calls came before
pub record OrderedTouch {K : Type 0} (same : K → K → Bool) (k : K) (t : ℕ) (s s' : Ordered K) (r : Result (Option (ℕ × ℕ)) Refusal) : Type 0 where
  pub answers : r ≡ touch_answer same (ordered_places s) k (ordered_list s)
  pub list : ordered_list s' ≡ touch_list same (ordered_places s) k t (ordered_list s)
  pub slice : InCallersSlice s s'

-- what a put back of the time t makes of it
pub record OrderedBack {K : Type 0} (t : ℕ) (s s' : Ordered K) : Type 0 where
  pub list : ordered_list s' ≡ put_back t (ordered_list s)
  pub slice : InCallersSlice s s'
