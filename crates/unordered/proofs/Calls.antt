-- What the calls owe, from what they find in the slots and write there. Assumes nothing.
use Rattle.std.proofs.Common.{◌≡◌, ℕ, suc, ◌+◌, ◌<◌, ◌≤◌, min, Bool, true, false, ◌&&◌, eqb, ltb, leb, List, [], ◌∷◌, ◌++◌, length, get_or, set, Some, None, Ok, Err, Option, Result, ◌⊎◌, sym, refl, ap, ◌∙◌, subst, ⊎_elim, inl, inr, arith}
use Rattle.std.specs.List.{All, AllByRecursion, position, position_or_len, slice_get}
use Rattle.std.specs.Option.{option_or}
use Rattle.std.proofs.ByRecursion.{All-weaker, all_kept_by}
use Rattle.std.proofs.lemmas.List.{length-append, length-set}
use Rattle.std.proofs.lemmas.Option.{slice_get-get_or}
use Rattle.std.proofs.lemmas.Bool.{cases_eq, and_parts, ltb-true, eqb-true, lt-ltb, le-ltb, eq-eqb, ne_eqb, eqb-false, or_left, or_right, or_from, cond-true, cond-false}
use Rattle.keys.specs.Sameness.{Lawful}
use Rattle.refusals.specs.declared.Refusal.{Refusal}
use Rattle.refusals.specs.declared.Refusal.TheVariants.{NoPlace}
use Rattle.locality.specs.declared.entry.Entry.{Entry}
use Rattle.locality.specs.Log.{held}
use Rattle.locality.specs.Numbers.{count_above}
use Rattle.locality.specs.Recency.{at_time, keys, times_of, placed, put_back, Falling, Apart, found, touched}
use Rattle.locality.proofs.Sameness.{all_both}
use Rattle.recency.specs.ByTime.{by_time}
use Rattle.recency.specs.Rules.{places_in, has_room, touch_answer, touch_list, Later, Returns, Kept}
use Rattle.recency.proofs.ByTime.{all_by_time, all_middle, all_unordered, alone, by_time_new, by_time_newest, found-placed, held_none, held-placed, length_by_time, own_time, touched-placed}
use Rattle.recency.proofs.Indices.{found_absent, touched_absent}
use Rattle.recency.proofs.Keeps.{owed_touch, owed_back, keep_lists}
use Rattle.unordered.specs.Shown.{held_in, in_places, holds, is_free, place_for, list_in, Lacks, Rewritten, PutBackIn, PutBackSlots, TouchedSlots, SlotsRule, SlotsBackRule}
use Rattle.unordered.proofs.Slots.{all_free, none_free, all_held, before, behind, held_set, free_set, fewer_elsewhere, within, held_at, free_at, list_at, depth_at}
use Rattle.unordered.proofs.Places.{each, length_places, read_place, set_place, place_is, place_none, place_read}

-- which of two searches answered
which : (o p : Option ℕ) (i : ℕ) → option_or o p ≡ Some i → (o ≡ Some i) ⊎ ((o ≡ None) × (p ≡ Some i))
which None p i e = inr (refl, e)
which (Some j) p i e = inl e

-- neither did
neither : (o p : Option ℕ) → option_or o p ≡ None → (o ≡ None) × (p ≡ None)
neither None p e = (refl, e)
neither (Some j) p e = absurd (cc)

module _ {K : Type 0} where
  -- after a write
  list_set : (S : List (Entry K)) (p : ℕ) (x y : Entry K) → slice_get (in_places S) p ≡ Some x → list_in (set S p y) ≡ by_time (held_in (set (in_places S) p y))
  list_set S p x y at = ap (λ L. by_time (held_in L)) (set_place S p y (within (in_places S) p x at))

  -- where a search for the key found nothing, no held slot has it
  lacking : (same : K → K → Bool) (k : K) (L : List (Entry K)) → AllByRecursion (λ e. holds same k e ≡ false) L → Lacks same k L
  lacking same k L h =
      All-weaker (λ e. holds same k e ≡ false) (λ e. 1 ≤ e.time → same k e.key ≡ false) (λ e q n. sym (ap (λ b. b && same k e.key) (lt-ltb 0 e.time n)) ∙ q) L h

  -- where a search for a free slot found nothing, every slot is taken
  all_taken : (L : List (Entry K)) → AllByRecursion (λ e. is_free e ≡ false) L → AllByRecursion (λ e. 1 ≤ e.time) L
  all_taken L h = All-weaker (λ e. is_free e ≡ false) (λ e. 1 ≤ e.time) (λ e q. let n : e.time ≡ 0 → ⊥ = eqb-false e.time 0 q in omega arith) L h

  module _ (same : K → K → Bool) (k : K) (S : List (Entry K)) where
    -- the place that a touch takes holds the key, or no place does, and it is free
    pub taken_place : (i : ℕ) → Some i ≡ place_for same k S → (d : Entry K) → (i < length (in_places S)) × (i < length S)
        × (((1 ≤ (get_or S i d).time) × (same k (get_or S i d).key ≡ true)) ⊎ (Lacks same k (in_places S) × ((get_or S i d).time ≡ 0)))
    taken_place i e d =
        ⊎_elim
        (λ (f : position (holds same k) (in_places S) ≡ Some i).
        let h = place_is (holds same k) S i f d in
        let b = and_parts (ltb 0 (get_or S i d).time) (same k (get_or S i d).key) h.2 in
        (h.0, h.1, inl (ltb-true 0 (get_or S i d).time b.0, b.1)))
        (λ (f : (position (holds same k) (in_places S) ≡ None) × (position is_free (in_places S) ≡ Some i)).
        let h = place_is is_free S i f.1 d in
        (h.0, h.1, inr (lacking same k (in_places S) (place_none (holds same k) S f.0), eqb-true (get_or S i d).time 0 h.2)))
        (which (position (holds same k) (in_places S)) (position is_free (in_places S)) i (sym e))

    -- what a touch of it makes of the slots
    pub touch_made : (t : ℕ) (S' : List (Entry K)) (i : ℕ) (r : Option (ℕ × ℕ)) → Some i ≡ place_for same k S →
        ((x : Entry K) → slice_get S i ≡ Some x → x.time ≡ 0 → (r ≡ None) × (S' ≡ set S i (at_time k t))) →
        ((x : Entry K) → slice_get S i ≡ Some x → 1 ≤ x.time → (r ≡ Some (count_above x.time (times_of (in_places S)) + 1, x.time)) × (S' ≡ set S i (at_time x.key t))) →
        TouchedSlots same k t S S' (Ok r)
    touch_made t S' i r e first again =
        let d = at_time k t in
        let x = get_or S i d in
        let p = taken_place i e d in
        let here = slice_get-get_or S i d p.1 in
        let Made : Option (ℕ × ℕ) → Type 0 = λ o. TouchedSlots same k t S S' (Ok o) in
        ⊎_elim
        (λ (h : (1 ≤ x.time) × (same k x.key ≡ true)).
        let m = again x here h.0 in
        subst Made (sym m.0) (record { index = i; old = x; place = place_read S i d p.0; such = (h.0, h.1, refl); after = m.1 }))
        (λ (h : Lacks same k (in_places S) × (x.time ≡ 0)).
        let m = first x here h.1 in
        subst Made (sym m.0) (h.0, record { index = i; old = x; place = place_read S i d p.0; such = h.1; after = m.1 }))
        p.2

    -- where there is none, it is refused
    pub no_place : (t : ℕ) → None ≡ place_for same k S → TouchedSlots same k t S S (Err NoPlace)
    no_place t e =
        let f = neither (position (holds same k) (in_places S)) (position is_free (in_places S)) (sym e) in
        (lacking same k (in_places S) (place_none (holds same k) S f.0), all_taken (in_places S) (place_none is_free S f.1), refl, refl)

module _ {K : Type 0} {same : K → K → Bool} (laws : Lawful same) where
  -- an empty list is as the rules keep it
  pub empty-kept : (places : ℕ) (es : List (Entry K)) → es ≡ [] → Kept same places es
  empty-kept places es e = subst (Kept same places) (sym e) ((keep_lists laws).empty places)

  module _ (k : K) (t : ℕ) where
    -- the slot that holds the key takes the new time
    touch-found : (room : ℕ) (L : List (Entry K)) (p : ℕ) (x : Entry K) → slice_get L p ≡ Some x → 1 ≤ x.time → same k x.key ≡ true →
        Kept same room (by_time (held_in L)) → Later t (by_time (held_in L)) →
        (Ok (Some (count_above x.time (times_of L) + 1, x.time)) ≡ touch_answer same room k (by_time (held_in L)))
        × (by_time (held_in (set L p (at_time x.key t))) ≡ touch_list same room k t (by_time (held_in L)))
    touch-found room L p x at n s o l =
        let es = by_time (held_in L) in
        let xs = before L p in
        let ys = behind L p in
        let M = by_time (xs ++ ys) in
        let x' = at_time x.key t in
        let split : es ≡ placed x M = list_at L p x at n o.orderly.falling in
        let solo : AllByRecursion (λ y. same k y.key ≡ false) M = alone laws k x M s (subst (Apart same) split o.orderly.apart) in
        let has : held same k (keys es) ≡ true = ap (λ fs. held same k (keys fs)) split ∙ held-placed same k x s M in
        let goes : has_room same room k es ≡ true = or_left (held same k (keys es)) (ltb (length es) room) has in
        let depth : suc (position_or_len (λ y. leb y.time x.time) M) ≡ count_above x.time (times_of L) + 1 = omega (arith, depth_at L p x at n o.orderly.falling) in
        let look : found same k es ≡ Some (count_above x.time (times_of L) + 1, x.time)
        = ap (found same k) split ∙ found-placed same k x s M solo ∙ ap (λ i. Some (i, x.time)) depth in
        let low : AllByRecursion (λ y. y.time < t) (xs ++ ys)
        = (all_middle (λ y. y.time < t) xs x ys (subst (AllByRecursion (λ y. y.time < t)) (held_at L p x at n) (all_unordered (λ y. y.time < t) (held_in L) l.newest))).1 in
        let list : by_time (held_in (set L p x')) ≡ x' ∷ M = ap by_time (held_set L p x' (within L p x at) l.some) ∙ by_time_newest xs x' ys low in (
          sym (cond-true (has_room same room k es) (Ok (found same k es)) (Err NoPlace) goes ∙ ap (λ f. Ok f) look),
          list ∙ sym (cond-true (has_room same room k es) (touched same k t es) es goes ∙ ap (touched same k t) split ∙ touched-placed same k x s t M solo),
        )

    -- no slot holds the key
    key_absent : (L : List (Entry K)) → Lacks same k L → held same k (keys (by_time (held_in L))) ≡ false
    key_absent L h =
        let P : Entry K → Type 0 = λ e. same k e.key ≡ false in
        held_none same k (by_time (held_in L)) (all_by_time P (held_in L) (all_held P L h))

    -- then a free slot takes the key and the time
    touch-first : (room : ℕ) (L : List (Entry K)) (p : ℕ) (x : Entry K) → slice_get L p ≡ Some x → x.time ≡ 0 → length L ≡ room →
        Lacks same k L → Later t (by_time (held_in L)) →
        (Ok None ≡ touch_answer same room k (by_time (held_in L))) × (by_time (held_in (set L p (at_time k t))) ≡ touch_list same room k t (by_time (held_in L)))
    touch-first room L p x at z r lack l =
        let es = by_time (held_in L) in
        let xs = before L p in
        let ys = behind L p in
        let new = at_time k t in
        let rest : held_in L ≡ xs ++ ys = free_at L p x at z in
        let none : held same k (keys es) ≡ false = key_absent L lack in
        let free : length es < room = omega (arith, length_by_time (held_in L), ap length rest, fewer_elsewhere L p (within L p x at)) in
        let goes : has_room same room k es ≡ true = or_right (held same k (keys es)) (ltb (length es) room) (lt-ltb (length es) room free) in
        let low : AllByRecursion (λ y. y.time < t) (xs ++ ys) = subst (AllByRecursion (λ y. y.time < t)) rest (all_unordered (λ y. y.time < t) (held_in L) l.newest) in
        let list : by_time (held_in (set L p new)) ≡ new ∷ es
        = ap by_time (held_set L p new (within L p x at) l.some) ∙ by_time_newest xs new ys low ∙ ap (λ fs. new ∷ by_time fs) (sym rest) in (
          sym (cond-true (has_room same room k es) (Ok (found same k es)) (Err NoPlace) goes ∙ ap (λ f. Ok f) (found_absent same k es none)),
          list ∙ sym (cond-true (has_room same room k es) (touched same k t es) es goes ∙ touched_absent same k laws t es none),
        )

    -- or no slot is free
    touch_refused : (room : ℕ) (L : List (Entry K)) → AllByRecursion (λ e. 1 ≤ e.time) L → length L ≡ room →
        Lacks same k L →
        (Err NoPlace ≡ touch_answer same room k (by_time (held_in L))) × (by_time (held_in L) ≡ touch_list same room k t (by_time (held_in L)))
    touch_refused room L full r lack =
        let es = by_time (held_in L) in
        let many : room ≤ length es = omega (arith, length_by_time (held_in L), ap length (none_free L full)) in
        let stays : has_room same room k es ≡ false = or_from (held same k (keys es)) (ltb (length es) room) (key_absent L lack) (le-ltb (length es) room many) in (
          sym (cond-false (has_room same room k es) (Ok (found same k es)) (Err NoPlace) stays),
          sym (cond-false (has_room same room k es) (touched same k t es) es stays),
        )

    -- what a touch owes, by what it made of the slots
    pub touch_owes : (S S' : List (Entry K)) (r : Result (Option (ℕ × ℕ)) Refusal) → TouchedSlots same k t S S' r → SlotsRule same k t S S' r
    touch_owes S S' (Ok (Some f)) h =
        owed_touch laws k t _ _ _ _ (Ok (Some f)) (ap (λ m. min m 4096) (ap length h.after ∙ length-set S h.index (at_time h.old.key t)))
        (λ o l.
        let g = touch-found (places_in S) (in_places S) h.index h.old h.place h.such.0 h.such.1 o l in
        (ap (λ a. Ok (Some a)) h.such.2 ∙ g.0, ap list_in h.after ∙ list_set S h.index h.old (at_time h.old.key t) h.place ∙ g.1))
    touch_owes S S' (Ok None) h =
        owed_touch laws k t _ _ _ _ (Ok None) (ap (λ m. min m 4096) (ap length h.1.after ∙ length-set S h.1.index (at_time k t)))
        (λ o l.
        let g = touch-first (places_in S) (in_places S) h.1.index h.1.old h.1.place h.1.such (length_places S) h.0 l in
        (g.0, ap list_in h.1.after ∙ list_set S h.1.index h.1.old (at_time k t) h.1.place ∙ g.1))
    touch_owes S S' (Err e) h =
        owed_touch laws k t _ _ _ _ (Err e) (ap (λ L. min (length L) 4096) h.2)
        (λ o l.
        let g = touch_refused (places_in S) (in_places S) h.1 (length_places S) h.0 in
        (ap Err h.3 ∙ g.0, ap list_in h.2 ∙ g.1))

  -- a slot with the latest time takes an earlier one, or is freed
  back-slot : (L : List (Entry K)) (p : ℕ) (x : Entry K) (t : ℕ) → slice_get L p ≡ Some x → 1 ≤ x.time → AllByRecursion (λ e. e.time ≤ x.time) L →
      Falling (by_time (held_in L)) → Returns t (by_time (held_in L)) → by_time (held_in (set L p (at_time x.key t))) ≡ put_back t (by_time (held_in L))
  back-slot L p x t at n top f r =
      let xs = before L p in
      let ys = behind L p in
      let M = by_time (xs ++ ys) in
      let x' = at_time x.key t in
      let split : held_in L ≡ xs ++ x ∷ ys = held_at L p x at n in
      let most = (all_middle (λ y. y.time ≤ x.time) xs x ys (subst (AllByRecursion (λ y. y.time ≤ x.time)) split (all_kept_by (λ e. ltb 0 e.time) (λ y. y.time ≤ x.time) L top))).1 in
      let own = own_time xs x ys (subst (λ es. Falling (by_time es)) split f) in
      let low : AllByRecursion (λ y. y.time < x.time) (xs ++ ys)
      = All-weaker (λ y. (y.time ≤ x.time) × (y.time ≡ x.time → ⊥)) (λ y. y.time < x.time) (λ y q. let ne : y.time ≡ x.time → ⊥ = q.1 in omega (arith, q.0)) (xs ++ ys)
      (all_both (λ y. y.time ≤ x.time) (λ y. y.time ≡ x.time → ⊥) (xs ++ ys) most own) in
      let front : by_time (held_in L) ≡ x ∷ M = ap by_time split ∙ by_time_newest xs x ys low in
      let r' : Returns t (x ∷ M) = subst (Returns t) front r in
      ⊎_elim
      (λ (z : t ≡ 0).
      ap by_time (free_set L p x' (within L p x at) z) ∙ sym (ap (put_back t) front ∙ cond-true (eqb t 0) M (placed x' M) (eq-eqb t 0 z)))
      (λ (z : t ≡ 0 → ⊥).
      let some : 1 ≤ t = omega arith in
      let new : AllByRecursion (λ y. y.time ≡ t → ⊥) (xs ++ ys) = all_unordered (λ y. y.time ≡ t → ⊥) (xs ++ ys) (r' some).1.1 in
      ap by_time (held_set L p x' (within L p x at) some) ∙ by_time_new xs x' ys new ∙ sym (ap (put_back t) front ∙ cond-false (eqb t 0) M (placed x' M) (ne_eqb t 0 z)))
      (cases_eq t 0)

  -- what a put back owes, by the entries held before it
  back_in : (t : ℕ) (S S' : List (Entry K)) (es : List (Entry K)) → held_in (in_places S) ≡ es → PutBackIn es t S S' → SlotsBackRule same t S S'
  back_in t S S' [] none h =
      owed_back laws t _ _ _ _ (ap (λ L. min (length L) 4096) h) (λ o r. absurd (subst (λ xs. Returns t (by_time xs)) none r))
  back_in t S S' (e ∷ es) some h =
      let x' = at_time h.old.key t in
      owed_back laws t _ _ _ _ (ap (λ m. min m 4096) (ap length h.after ∙ length-set S h.index x'))
      (λ o r. ap list_in h.after ∙ list_set S h.index h.old x' h.place ∙ back-slot (in_places S) h.index h.old t h.place h.such.0 h.such.1 o.orderly.falling r)

  -- what a put back owes, by what it made of the slots
  pub back_owes : (t : ℕ) (S S' : List (Entry K)) → PutBackSlots t S S' → SlotsBackRule same t S S'
  back_owes t S S' h = back_in t S S' (held_in (in_places S)) refl h

-- a slot that is put back, where an entry is held
back_writes : {K : Type 0} (es : List (Entry K)) (t : ℕ) (S S' : List (Entry K)) → 0 < length es →
    Rewritten (λ x. (1 ≤ x.time) × AllByRecursion (λ f. f.time ≤ x.time) (in_places S)) (λ x. at_time x.key t) S S' → PutBackIn es t S S'
back_writes [] t S S' h r = absurd (omega arith)
back_writes (e ∷ es) t S S' h r = r

-- what a put back makes of the slots, by what is found in the places: where an entry is held
pub back_made : {K : Type 0} (t : ℕ) (S S' L : List (Entry K)) (i : ℕ) → L ≡ in_places S → i < length L → ((d : Entry K) → 1 ≤ (get_or L i d).time) →
    ((d : Entry K) → All (λ f. f.time ≤ (get_or L i d).time) L) → ((x : Entry K) → slice_get S i ≡ Some x → S' ≡ set S i (at_time x.key t)) → PutBackSlots t S S'
back_made t S S' [] i e h n top w = absurd (omega arith)
back_made t S S' (d ∷ ds) i e h n top w =
    let L = d ∷ ds in
    let M = in_places S in
    let x = get_or L i d in
    let inside : i < length M = omega (arith, ap length e) in
    let at : slice_get M i ≡ Some x = ap (λ N. slice_get N i) (sym e) ∙ slice_get-get_or L i d h in
    let read : slice_get S i ≡ Some x
    = slice_get-get_or S i d (omega (arith, inside, length_places S)) ∙ ap Some (sym (read_place S i d inside) ∙ ap (λ N. get_or N i d) (sym e)) in
    let some : 0 < length (held_in M) = omega (arith, ap length (held_at M i x at (n d)), length-append (before M i) (x ∷ behind M i)) in
    let most = subst (AllByRecursion (λ f. f.time ≤ x.time)) e (each (λ f. f.time ≤ x.time) L (top d)) in
    back_writes (held_in M) t S S' some (record { index = i; old = x; place = at; such = (n d, most); after = w x read })

-- and where none is
pub none_made : {K : Type 0} (t : ℕ) (S L : List (Entry K)) → L ≡ in_places S → All (λ e. e.time ≡ 0) L → PutBackSlots t S S
none_made t S L e none = subst (λ es. PutBackIn es t S S) (sym (ap held_in (sym e) ∙ all_free L (each (λ e. e.time ≡ 0) L none))) refl
