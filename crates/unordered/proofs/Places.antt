-- The places of slots: what is read there, what a search of them finds, and what becomes of them. Assumes nothing.
use Rattle.std.proofs.Common.{◌≡◌, ℕ, zero, suc, ◌<◌, ◌≤◌, min, max, Bool, true, false, cond, ltb, List, [], ◌∷◌, ◌++◌, map, length, get_or, take, drop, set, Some, None, sym, refl, ap, ◌∙◌, ap₂, subst, arith}
use Rattle.std.specs.List.{All, AllByRecursion, position, slice_get, fold}
use Rattle.std.proofs.ByRecursion.{All-from_get_or}
use Rattle.std.proofs.lemmas.List.{length-take, get_or-take}
use Rattle.std.proofs.lemmas.List.Elements.{All-from_recursion}
use Rattle.std.proofs.Math.Seq.{take-set-lt}
use Rattle.std.proofs.lemmas.Option.{slice_get-get_or}
use Rattle.std.proofs.lemmas.List.Quantifiers.{position-Some}
use Rattle.locality.proofs.Slices.{front_cut, rest_cut}
use Rattle.locality.proofs.Finds.{none_passes, index_none}
use Rattle.locality.specs.declared.entry.Entry.{Entry}
use Rattle.std.specs.List.{count_by}
use Rattle.std.proofs.lemmas.List.Recursion.{is_sum_by}
use Rattle.locality.specs.Numbers.{count_above}
use Rattle.locality.specs.Recency.{at_time, times_of}
use Rattle.unordered.specs.Shown.{in_places, held_in, freed}

-- what holds at each index holds of each element
pub each : {X : Type 0} (P : X → Type 0) (xs : List X) → All P xs → AllByRecursion P xs
each P [] h = tt
each P (x ∷ xs) h = All-from_get_or P (x ∷ xs) x (λ i l. h i x l)

module _ {K : Type 0} where
  -- there are at most 4,096 places
  pub length_places : (S : List (Entry K)) → length (in_places S) ≡ min (length S) 4096
  length_places S = omega (arith, length-take 4096 S)

  -- a place is read as the slot that it is
  pub read_place : (S : List (Entry K)) (p : ℕ) (d : Entry K) → p < length (in_places S) → get_or (in_places S) p d ≡ get_or S p d
  read_place S p d h = get_or-take 4096 S p d (omega (arith, length-take 4096 S))

  -- a write in the places
  pub set_place : (S : List (Entry K)) (p : ℕ) (y : Entry K) → p < length (in_places S) → in_places (set S p y) ≡ set (in_places S) p y
  set_place S p y h = take-set-lt 4096 S p y (omega (arith, length-take 4096 S))

  -- the front of a slice, freed
  freed_front : (n : ℕ) (S : List (Entry K)) → held_in (take n (map (λ e. at_time e.key 0) (take n S) ++ drop n S)) ≡ []
  freed_front zero S = refl
  freed_front (suc n) [] = refl
  freed_front (suc n) (e ∷ es) = freed_front n es

  -- the places, freed
  pub freed_places : (S : List (Entry K)) → held_in (in_places (freed S)) ≡ []
  freed_places S = freed_front 4096 S

  -- the slots, once the first n have been freed, and there are n places
  pub all_freed : (S S' : List (Entry K)) (n : ℕ) → n ≡ min (length S) 4096 → S' ≡ map (λ e. at_time e.key 0) (take n S) ++ drop n S → S' ≡ freed S
  all_freed S S' n e s = s ∙ ap₂ (λ L R. map (λ e. at_time e.key 0) L ++ R) (front_cut 4096 S n e) (rest_cut 4096 S n e)

  -- a place that a search answers: its entry passes
  pub place_is : (passes : Entry K → Bool) (S : List (Entry K)) (i : ℕ) → position passes (in_places S) ≡ Some i → (d : Entry K) → (i < length (in_places S)) × (i < length S) × (passes (get_or S i d) ≡ true)
  place_is passes S i e d =
      let h = position-Some passes (in_places S) i d e in
      (h.0, omega (arith, h.0, length_places S), ap passes (sym (read_place S i d h.0)) ∙ h.1)

  -- where it answers none, none passes
  pub place_none : (passes : Entry K → Bool) (S : List (Entry K)) → position passes (in_places S) ≡ None → AllByRecursion (λ e. passes e ≡ false) (in_places S)
  place_none passes S e = none_passes passes (in_places S) (index_none passes (in_places S) (sym e)).0

  -- the entry that stands in a place
  pub place_read : (S : List (Entry K)) (i : ℕ) (d : Entry K) → i < length (in_places S) → slice_get (in_places S) i ≡ Some (get_or S i d)
  place_read S i d h = slice_get-get_or (in_places S) i d h ∙ ap Some (read_place S i d h)

-- how many times are later, counted in entries
pub later_counted : {K : Type 0} (t : ℕ) (es : List (Entry K)) → count_above t (times_of es) ≡ count_by (λ e. ltb t e.time) es
later_counted t es = is_sum_by (λ L. count_above t (times_of L)) (λ e. cond (ltb t e.time) 1 0) refl (λ e L. refl) es

-- the latest time of some entries and b: none is later, and it is b where none has it
record IsLatest {K : Type 0} (es : List (Entry K)) (b t : ℕ) : Type 0 where
  rises : b ≤ t
  most : AllByRecursion (λ e. e.time ≤ t) es
  reached : AllByRecursion (λ e. e.time ≡ t → ⊥) es → t ≡ b

-- a fold finds it
latest_of : {K : Type 0} (es : List (Entry K)) (b : ℕ) → IsLatest es b (fold (λ t e. max e.time t) b es)
latest_of [] b = record { rises = omega arith; most = tt; reached = λ q. refl }
latest_of (e ∷ es) b =
    let t = fold (λ t e. max e.time t) (max e.time b) es in
    let h = latest_of es (max e.time b) in
    record {
      rises = omega (arith, h.rises);
      most = (omega (arith, h.rises), h.most);
      reached = λ q. let other : e.time ≡ t → ⊥ = q.0 in omega (arith, h.reached q.1);
    }

-- so from 0 on no entry is later
pub latest_most : {K : Type 0} (es : List (Entry K)) (t : ℕ) → t ≡ fold (λ t e. max e.time t) 0 es → All (λ e. e.time ≤ t) es
latest_most es t e = subst (λ (n : ℕ). All (λ e. e.time ≤ n) es) (sym e) (All-from_recursion (λ e. e.time ≤ fold (λ t e. max e.time t) 0 es) es (latest_of es 0).most)

-- and it is 0 where no entry has it
pub latest_reached : {K : Type 0} (es : List (Entry K)) (t : ℕ) → t ≡ fold (λ t e. max e.time t) 0 es → All (λ e. e.time ≡ t → ⊥) es → t ≡ 0
latest_reached es t e h = e ∙ (latest_of es 0).reached (subst (λ (n : ℕ). AllByRecursion (λ e. e.time ≡ n → ⊥) es) e (each (λ e. e.time ≡ t → ⊥) es h))
