-- What the calls owe, from what they make of the slice. Assumes nothing.
use Rattle.std.proofs.Common.{◌≡◌, ℕ, ◌+◌, ◌-◌, ◌<◌, ◌≤◌, Bool, true, false, not, eqb, leb, List, ◌∷◌, ◌++◌, get_or, take, drop, length, None, Some, Ok, Option, Result, sym, ap, ◌∙◌, arith}
use Rattle.std.specs.List.{position, position_or_len}
use Rattle.std.proofs.lemmas.List.{length-take, length-drop, take_rest}
use Rattle.std.proofs.lemmas.List.Sums.{prefix_len-le-length}
use Rattle.std.proofs.lemmas.Bool.Decides.{nat_tests}
use Rattle.std.proofs.lemmas.Grind.{common_steps, elements}
use Rattle.keys.specs.Sameness.{Lawful}
use Rattle.locality.specs.declared.entry.Entry.{Entry}
use Rattle.locality.specs.Log.{held}
use Rattle.locality.specs.Recency.{keys, at_time, found, touched, put_back}
use Rattle.locality.specs.Slices.{in_front}
use Rattle.recency.specs.Rules.{has_room}
use Rattle.refusals.specs.declared.Refusal.{Refusal}
use Rattle.recency.proofs.Indices.{held-index, found_at, touched_at, found_absent, touched_absent, back_zero, back_some}
use Rattle.recency.proofs.Keeps.{owed_touch, owed_back}
use Rattle.ordered.specs.Shown.{ordered_places, ordered_list, OrderedRule, OrderedBackRule, InCallersSlice, OrderedTouch, OrderedBack}
use Rattle.ordered.specs.declared.store.Ordered.{Ordered}
use Rattle.ordered.proofs.Fronts.{brought, sunk}

-- a touch is refused where no entry has the key and every place is taken
pub no_room : {K : Type 0} (same : K → K → Bool) (k : K) (s : Ordered K) →
    None ≡ position (λ e. same k e.key) (ordered_list s) → true ≡ eqb (length (ordered_list s)) (ordered_places s) →
    has_room same (ordered_places s) k (ordered_list s) ≡ false
no_room same k s absent full = let h = held-index same k (ordered_list s) in grind (arith, nat_tests)

module _ {K : Type 0} {same : K → K → Bool} (laws : Lawful same) {s s' : Ordered K} (places : ordered_places s' ≡ ordered_places s) where
  -- what a touch owes, from what it leaves
  pub touch_owes : {k : K} {t : ℕ} {r : Result (Option (ℕ × ℕ)) Refusal} → OrderedTouch same k t s s' r → OrderedRule same k t s s' r
  touch_owes {k = k} {t = t} {r = r} told =
      owed_touch laws k t (ordered_places s) (ordered_places s') (ordered_list s) (ordered_list s') r places (λ o l. (told.answers, told.list))

  -- and a put back
  pub back_owes : {t : ℕ} → OrderedBack t s s' → OrderedBackRule same t s s'
  back_owes {t = t} told = owed_back laws t (ordered_places s) (ordered_places s') (ordered_list s) (ordered_list s') places (λ o l. told.list)

module _ {K : Type 0} (s s' : Ordered K) (callers : s'.slots.ghost_name ≡ s.slots.ghost_name) where
  -- a store whose slice has the new list in front
  module _ (E : List (Entry K)) (slots : s'.slots.now ≡ in_front E s.slots.now) (size : s'.count ≡ length E) where
    list_is : ordered_list s' ≡ E
    list_is = grind (arith, common_steps)

    slice_is : InCallersSlice s s'
    slice_is = record { slots = slots ∙ ap (λ es. in_front es s.slots.now) (sym list_is); callers = callers }

    touch_leaves : {same : K → K → Bool} (k : K) (t : ℕ) (r : Option (ℕ × ℕ)) → has_room same (ordered_places s) k (ordered_list s) ≡ true →
        r ≡ found same k (ordered_list s) → E ≡ touched same k t (ordered_list s) → OrderedTouch same k t s s' (Ok r)
    touch_leaves k t r room answer new = let l = list_is in record { answers = grind arith; list = grind arith; slice = slice_is }

    back_leaves : (t : ℕ) → E ≡ put_back t (ordered_list s) → OrderedBack t s s'
    back_leaves t new = record { list = list_is ∙ new; slice = slice_is }

  -- a touch of the key of the entry at index i
  pub renewed : {same : K → K → Bool} (k : K) (t i : ℕ) (d : Entry K) (r : ℕ × ℕ) → position (λ e. same k e.key) (ordered_list s) ≡ Some i →
      r ≡ (i + 1, (get_or s.slots.now i d).time) → s'.slots.now ≡ at_time (get_or s.slots.now i d).key t ∷ (take i s.slots.now ++ drop (i + 1) s.slots.now) →
      s'.count ≡ s.count → OrderedTouch same k t s s' (Ok (Some r))
  renewed {same = same} k t i d r at told slots count =
      let es = ordered_list s in
      let x = get_or s.slots.now i d in
      let h = held-index same k es in
      let e : (position_or_len (λ e. same k e.key) es ≡ i) × (i < length es) = grind (arith, nat_tests) in
      let read : x ≡ get_or es i x = grind (arith, common_steps) in
      let n = length-take s.count s.slots.now in
      touch_leaves
      (at_time x.key t ∷ (take i es ++ drop (i + 1) es))
      (slots ∙ brought (at_time x.key t) s.count s.slots.now i (omega (arith, length-take s.count s.slots.now)))
      (grind (arith, common_steps)) k t (Some r)
      (grind (arith, nat_tests))
      (ap Some told ∙ sym (found_at same k es i x e.0 e.1 read))
      (sym (touched_at same k t es i x e.0 e.1 read))

  -- a touch of a key that no entry has
  pub admitted : {same : K → K → Bool} → Lawful same → (k : K) (t : ℕ) → position (λ e. same k e.key) (ordered_list s) ≡ None →
      length (ordered_list s) < ordered_places s → s'.slots.now ≡ at_time k t ∷ (take s.count s.slots.now ++ drop (s.count + 1) s.slots.now) →
      s'.count ≡ s.count + 1 → OrderedTouch same k t s s' (Ok None)
  admitted {same = same} laws k t at free slots count =
      let es = ordered_list s in
      let h = held-index same k es in
      let e : held same k (keys es) ≡ false = grind (arith, nat_tests) in
      touch_leaves (at_time k t ∷ es) (grind (arith, common_steps)) (grind (arith, common_steps)) k t None
      (grind (arith, nat_tests))
      (sym (found_absent same k es e))
      (sym (touched_absent same k laws t es e))

  -- put backs, where the list has an entry
  module _ (es : List (Entry K)) (list : es ≡ ordered_list s) (some : 1 ≤ length es) (t : ℕ) where
    held_all : length es ≡ s.count
    held_all = grind (arith, common_steps)

    -- at time 0
    pub removed : t ≡ 0 → s'.slots.now ≡ take (s.count - 1) (drop 1 s.slots.now) ++ drop (s.count - 1) s.slots.now → s'.count ≡ s.count - 1 → OrderedBack t s s'
    removed zero slots count =
        back_leaves (drop 1 (ordered_list s)) (grind (arith, elements)) (grind (arith, common_steps)) t (sym (back_zero t (ordered_list s) zero))

    -- at another time: the front entry, x, goes behind q others
    pub lowered : (q : ℕ) (x : Entry K) → x ≡ get_or es 0 x → (t ≡ 0 → ⊥) → q ≡ position_or_len (λ e. leb e.time t) (take (length es - 1) (drop 1 es)) →
        s'.slots.now ≡ take q (drop 1 s.slots.now) ++ at_time x.key t ∷ drop (q + 1) s.slots.now → s'.count ≡ s.count → OrderedBack t s s'
    lowered q x front other at slots count =
        let n = held_all in
        let r = drop 1 (ordered_list s) in
        let read : x ≡ get_or (ordered_list s) 0 x = front ∙ ap (λ l. get_or l 0 x) list in
        let at' : q ≡ position_or_len (λ e. leb e.time t) r = rw (take_rest es 1, list) at at in
        let low : q ≤ length r = omega (arith, at', prefix_len-le-length (λ (e : Entry K). not (leb e.time t)) r) in
        let m = length-take s.count s.slots.now in
        let y = at_time x.key t in
        back_leaves (take q r ++ y ∷ drop q r) (slots ∙ sunk y s.count s.slots.now q (omega (arith, length-drop 1 (ordered_list s), length-take s.count s.slots.now))) (grind (arith, common_steps)) t
        (ap (λ z. take q r ++ at_time z.key t ∷ drop q r) read ∙ sym (back_some t (ordered_list s) x q other (omega arith) at'))
