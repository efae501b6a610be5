-- Entries in slots, where a time of 0 marks a free one. Assumes nothing.
use Rattle.std.proofs.Common.{◌≡◌, ℕ, suc, ◌+◌, ◌<◌, ◌≤◌, true, cond, ltb, leb, List, [], ◌∷◌, ◌++◌, length, take, drop, set, Some, None, Option, sym, refl, ap, ◌∙◌, subst, arith}
use Rattle.std.specs.List.{AllByRecursion, position_or_len}
use Rattle.std.proofs.lemmas.Bool.{lt-ltb, le-ltb, ltb-true}
use Rattle.std.proofs.lemmas.List.Elements.{filter-append}
use Rattle.std.proofs.ByRecursion.{All-weaker, all_kept_by, kept_by_passes}
use Rattle.std.proofs.lemmas.List.Sums.{length-filter, count_by-le-length}
use Rattle.std.proofs.lemmas.List.{length-append, length-take, length-drop, set-get_or, set_split}
use Rattle.std.specs.List.{slice_get}
use Rattle.std.proofs.lemmas.Option.{slice_get_within, get_or_from_slice_get}
use Rattle.locality.specs.declared.entry.Entry.{Entry}
use Rattle.locality.specs.ByPosition.{key_at}
use Rattle.locality.specs.Numbers.{count_above}
use Rattle.locality.specs.Recency.{times_of, placed, Falling}
use Rattle.locality.proofs.Sameness.{all_both}
use Rattle.recency.specs.ByTime.{by_time}
use Rattle.recency.proofs.ByTime.{all_by_time, by_time_out, count_by_time, count_own, entry_placed, entry_none, falling_out}
use Rattle.unordered.specs.Shown.{held_in, RankedIn}

module _ {K : Type 0} where
  -- no slot has a time
  pub all_free : (L : List (Entry K)) → AllByRecursion (λ e. e.time ≡ 0) L → held_in L ≡ []
  all_free [] h = refl
  all_free (e ∷ es) h = rw (le-ltb 0 e.time (omega (arith, h.0))) (all_free es h.1)

  -- every slot has one
  pub none_free : (L : List (Entry K)) → AllByRecursion (λ e. 1 ≤ e.time) L → held_in L ≡ L
  none_free [] h = refl
  none_free (e ∷ es) h = let r = none_free es h.1 in let l = h.0 in grind arith

  -- a free slot counts for no later time
  pub count_held_in : (t : ℕ) (L : List (Entry K)) → count_above t (times_of (held_in L)) ≡ count_above t (times_of L)
  count_held_in t [] = refl
  count_held_in t (e ∷ es) = let r = count_held_in t es in grind arith

  -- the times above 0 are those of the held entries
  pub count_held : (L : List (Entry K)) → count_above 0 (times_of L) ≡ length (held_in L)
  count_held [] = refl
  count_held (e ∷ es) = let r = count_held es in grind arith

  -- what holds of every held slot holds of the held entries
  pub all_held : (P : Entry K → Type 0) (L : List (Entry K)) → AllByRecursion (λ e. 1 ≤ e.time → P e) L → AllByRecursion P (held_in L)
  all_held P L h =
      All-weaker (λ e. (1 ≤ e.time → P e) × (ltb 0 e.time ≡ true)) P (λ e q. q.0 (ltb-true 0 e.time q.1)) (held_in L)
      (all_both (λ e. 1 ≤ e.time → P e) (λ e. ltb 0 e.time ≡ true) (held_in L) (all_kept_by (λ e. ltb 0 e.time) (λ e. 1 ≤ e.time → P e) L h) (kept_by_passes (λ e. ltb 0 e.time) L))

  -- the entries held before a slot, and behind it
  abbrev pub before : List (Entry K) → ℕ → List (Entry K)
  before L p = held_in (take p L)

  abbrev pub behind : List (Entry K) → ℕ → List (Entry K)
  behind L p = held_in (drop (suc p) L)

  -- a held entry written into a slot
  pub held_set : (L : List (Entry K)) (p : ℕ) (x : Entry K) → p < length L → 1 ≤ x.time → held_in (set L p x) ≡ before L p ++ x ∷ behind L p
  held_set L p x h n =
      ap held_in (set_split L p x h) ∙ filter-append (λ e. ltb 0 e.time) (take p L) (x ∷ drop (suc p) L)
      ∙ ap (λ b. before L p ++ cond b (x ∷ behind L p) (behind L p)) (lt-ltb 0 x.time n)

  -- a slot freed
  pub free_set : (L : List (Entry K)) (p : ℕ) (x : Entry K) → p < length L → x.time ≡ 0 → held_in (set L p x) ≡ before L p ++ behind L p
  free_set L p x h n =
      let low : x.time ≤ 0 = omega arith in
      ap held_in (set_split L p x h) ∙ filter-append (λ e. ltb 0 e.time) (take p L) (x ∷ drop (suc p) L)
      ∙ ap (λ b. before L p ++ cond b (x ∷ behind L p) (behind L p)) (le-ltb 0 x.time low)

  -- no more entries are held than there are slots
  held-most : (L : List (Entry K)) → length (held_in L) ≤ length L
  held-most L = omega (arith, length-filter (λ e. ltb 0 e.time) L, count_by-le-length (λ e. ltb 0 e.time) L)

  -- fewer entries are held elsewhere than there are slots
  pub fewer_elsewhere : (L : List (Entry K)) (p : ℕ) → p < length L → length (before L p ++ behind L p) < length L
  fewer_elsewhere L p h =
      omega (arith, length-append (before L p) (behind L p), held-most (take p L), held-most (drop (suc p) L), length-take p L, length-drop (suc p) L)

  -- a slot as it stands
  module _ (L : List (Entry K)) (p : ℕ) (x : Entry K) (at : slice_get L p ≡ Some x) where
    -- it is one of them
    pub within : p < length L
    within = slice_get_within L p x at

    -- writing its entry again changes nothing
    unchanged : L ≡ set L p x
    unchanged = sym (ap (set L p) (sym (get_or_from_slice_get L p x x at)) ∙ set-get_or L p x)

    -- the held entries, where its entry is one
    pub held_at : 1 ≤ x.time → held_in L ≡ before L p ++ x ∷ behind L p
    held_at n = ap held_in unchanged ∙ held_set L p x within n

    -- and where it is free
    pub free_at : x.time ≡ 0 → held_in L ≡ before L p ++ behind L p
    free_at n = ap held_in unchanged ∙ free_set L p x within n

    -- its entry among the others by time
    pub list_at : 1 ≤ x.time → Falling (by_time (held_in L)) → by_time (held_in L) ≡ placed x (by_time (before L p ++ behind L p))
    list_at n f =
        let s : by_time (held_in L) ≡ by_time (before L p ++ x ∷ behind L p) = ap by_time (held_at n) in
        s ∙ by_time_out (before L p) x (behind L p) (subst Falling s f)

    -- the later times, counted in the slots or in the list
    count_slot : 1 ≤ x.time → Falling (by_time (held_in L)) → count_above x.time (times_of L) ≡ count_above x.time (times_of (placed x (by_time (before L p ++ behind L p))))
    count_slot n f = sym (count_held_in x.time L) ∙ sym (count_by_time x.time (held_in L)) ∙ ap (λ es. count_above x.time (times_of es)) (list_at n f)

    -- how many entries are later than its
    pub depth_at : 1 ≤ x.time → Falling (by_time (held_in L)) → count_above x.time (times_of L) ≡ position_or_len (λ y. leb y.time x.time) (by_time (before L p ++ behind L p))
    depth_at n f =
        let M = by_time (before L p ++ behind L p) in
        count_slot n f ∙ count_own x M (falling_out x M (subst Falling (list_at n f) f)).1

    -- the entry in the slot is the j-th of the list
    pub entry_at_slot : (j : ℕ) → 1 ≤ x.time → Falling (by_time (held_in L)) → count_above x.time (times_of L) + 1 ≡ j → Some x ≡ key_at (by_time (held_in L)) j
    entry_at_slot j n f q =
        let M = by_time (before L p ++ behind L p) in
        let s = list_at n f in
        sym (ap (λ es. key_at es j) s ∙ entry_placed x M j (subst Falling s f) (ap (λ m. m + 1) (sym (count_slot n f)) ∙ q))

  -- where no slot has the depth j, the list has no j-th entry
  pub entry_nowhere : (L : List (Entry K)) (j : ℕ) → Falling (by_time (held_in L)) → AllByRecursion (λ e. 1 ≤ e.time → count_above e.time (times_of L) + 1 ≡ j → ⊥) L → key_at (by_time (held_in L)) j ≡ None
  entry_nowhere L j f h =
      let es = by_time (held_in L) in
      let P : Entry K → Type 0 = λ e. count_above e.time (times_of es) + 1 ≡ j → ⊥ in
      entry_none es j f (all_by_time P (held_in L) (all_held P L
      (All-weaker (λ e. 1 ≤ e.time → count_above e.time (times_of L) + 1 ≡ j → ⊥) (λ e. 1 ≤ e.time → P e)
      (λ e q n m. q n (omega (arith, count_by_time e.time (held_in L), count_held_in e.time L))) L h)))

  -- what an entry by rank answers is what the list has there
  pub ranked_is : (L : List (Entry K)) (j : ℕ) (r : Option (Entry K)) → RankedIn j L r → Falling (by_time (held_in L)) → r ≡ key_at (by_time (held_in L)) j
  ranked_is L j (Some e) h f = entry_at_slot L h.index e h.slot j h.taken f h.rank
  ranked_is L j None h f = sym (entry_nowhere L j f h)
