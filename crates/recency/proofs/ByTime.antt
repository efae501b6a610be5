-- Entries by falling time: one entry put in or taken out, where it stands, and what the rules make of it. Assumes nothing.
use Rattle.std.proofs.Common.{◌≡◌, ℕ, zero, suc, ◌+◌, ◌<◌, ◌≤◌, Bool, true, false, ltb, leb, List, [], ◌∷◌, ◌++◌, length, get_or, Some, None, sym, refl, ap, ◌∙◌, subst, ap₂, ⊎_elim, arith}
use Rattle.std.specs.List.{AllByRecursion, slice_get, position_or_len}
use Rattle.std.specs.List.Sorted.{IsPermutation}
use Rattle.std.proofs.ByRecursion.{All-weaker, All-get_or, All-take, all_shuffled}
use Rattle.std.proofs.lemmas.List.{take_at}
use Rattle.std.proofs.lemmas.Option.{slice_get_past}
use Rattle.std.proofs.lemmas.List.Sorted.{IsPermutation-refl, IsPermutation-cons, IsPermutation-swap, IsPermutation-trans, IsPermutation-sym, length_permutation}
use Rattle.std.proofs.lemmas.Bool.{cases_Bool, cases_lt, cases_order, lt-ltb, le-ltb, lt-leb, le-leb}
use Rattle.keys.specs.Sameness.{Lawful}
use Rattle.locality.specs.declared.entry.Entry.{Entry}
use Rattle.locality.specs.ByPosition.{key_at}
use Rattle.locality.specs.Log.{held}
use Rattle.locality.specs.Numbers.{count_above}
use Rattle.locality.specs.Recency.{at_time, keys, times_of, placed, Falling, Apart, stored, found, others, touched}
use Rattle.locality.proofs.Recency.{placed_front}
use Rattle.locality.proofs.Sameness.{flip, left}
use Rattle.recency.specs.ByTime.{by_time, NotRising, SortedByTime}
use Rattle.recency.proofs.Keeps.{all_placed}

-- what holds of a list holds of one of its elements and of the others
pub all_middle : {X : Type 0} (P : X → Type 0) (xs : List X) (x : X) (ys : List X) → AllByRecursion P (xs ++ x ∷ ys) → P x × AllByRecursion P (xs ++ ys)
all_middle P [] x ys h = h
all_middle P (y ∷ xs) x ys h = let r = all_middle P xs x ys h.1 in (r.0, (h.0, r.1))

module _ {K : Type 0} where
  shuffled_placed : (e : Entry K) (es : List (Entry K)) → IsPermutation (e ∷ es) (placed e es)
  shuffled_placed e [] = IsPermutation-refl (e ∷ [])
  shuffled_placed e (x ∷ xs) =
      ⊎_elim
      (λ (t : ltb e.time x.time ≡ true).
      let ahead : IsPermutation (e ∷ x ∷ xs) (x ∷ e ∷ xs) = IsPermutation-swap (e ∷ x ∷ xs) (x ∷ e ∷ xs) 0 1 (omega arith) (omega arith) refl in
      rw t (IsPermutation-trans (e ∷ x ∷ xs) (x ∷ e ∷ xs) (x ∷ placed e xs) ahead (IsPermutation-cons x (e ∷ xs) (placed e xs) (shuffled_placed e xs))))
      (λ (t : ltb e.time x.time ≡ false). rw t (IsPermutation-refl (e ∷ x ∷ xs)))
      (cases_Bool (ltb e.time x.time))

  not_rising_placed : (e : Entry K) (es : List (Entry K)) → NotRising es → NotRising (placed e es)
  not_rising_placed e [] h = (tt, tt)
  not_rising_placed e (x ∷ xs) h =
      ⊎_elim
      (λ (l : e.time < x.time). rw (lt-ltb e.time x.time l) (all_placed (λ f. f.time ≤ x.time) e xs (omega arith) h.0, not_rising_placed e xs h.1))
      (λ (l : x.time ≤ e.time).
      rw (le-ltb e.time x.time l) ((l, All-weaker (λ f. f.time ≤ x.time) (λ f. f.time ≤ e.time) (λ f q. omega arith) xs h.0), h))
      (cases_lt e.time x.time)

  -- entries by time are those entries, newest first
  pub sorted_by_time : (es : List (Entry K)) → SortedByTime es (by_time es)
  sorted_by_time [] = record { permuted = IsPermutation-refl []; newest_first = tt }
  sorted_by_time (e ∷ es) =
      let r = sorted_by_time es in
      record {
        permuted = IsPermutation-trans (e ∷ es) (e ∷ by_time es) (placed e (by_time es)) (IsPermutation-cons e es (by_time es) r.permuted) (shuffled_placed e (by_time es));
        newest_first = not_rising_placed e (by_time es) r.newest_first;
      }

  pub length_by_time : (es : List (Entry K)) → length (by_time es) ≡ length es
  length_by_time es = length_permutation es (by_time es) (sorted_by_time es).permuted

  -- what holds of the entries by time holds of the entries
  pub all_unordered : (P : Entry K → Type 0) (es : List (Entry K)) → AllByRecursion P (by_time es) → AllByRecursion P es
  all_unordered P es h = all_shuffled P (by_time es) es (IsPermutation-sym es (by_time es) (sorted_by_time es).permuted) h

  -- and the other way round
  pub all_by_time : (P : Entry K → Type 0) (es : List (Entry K)) → AllByRecursion P es → AllByRecursion P (by_time es)
  all_by_time P es h = all_shuffled P es (by_time es) (sorted_by_time es).permuted h

  -- what holds of a list with an entry put in holds of the entry and of the list
  pub placed_all : (P : Entry K → Type 0) (e : Entry K) (es : List (Entry K)) → AllByRecursion P (placed e es) → P e × AllByRecursion P es
  placed_all P e es h = all_shuffled P (placed e es) (e ∷ es) (IsPermutation-sym (e ∷ es) (placed e es) (shuffled_placed e es)) h

  earlier_first : (a b : Entry K) (es : List (Entry K)) → a.time < b.time → placed a (placed b es) ≡ placed b (placed a es)
  earlier_first a b [] h = rw (lt-ltb a.time b.time h, le-ltb b.time a.time (omega arith))
  earlier_first a b (x ∷ xs) h =
      ⊎_elim
      (λ (bx : b.time < x.time).
      let ax : a.time < x.time = omega arith in
      simp (lt-ltb b.time x.time bx, lt-ltb a.time x.time ax) (ap {B = List (Entry K)} (λ ys. x ∷ ys) (earlier_first a b xs h)))
      (λ (xb : x.time ≤ b.time).
      ⊎_elim
      (λ (ax : a.time < x.time). simp (le-ltb b.time x.time xb, lt-ltb a.time b.time h, lt-ltb a.time x.time ax))
      (λ (xa : x.time ≤ a.time).
      let ab : a.time ≤ b.time = omega arith in
      simp (le-ltb b.time x.time xb, lt-ltb a.time b.time h, le-ltb a.time x.time xa, le-ltb b.time a.time ab))
      (cases_lt a.time x.time))
      (cases_lt b.time x.time)

  -- two entries with different times can be put in either order
  pub placed_either : (a b : Entry K) (es : List (Entry K)) → (a.time ≡ b.time → ⊥) → placed a (placed b es) ≡ placed b (placed a es)
  placed_either a b es n =
      ⊎_elim
      (λ e. absurd (n e))
      (λ q. ⊎_elim (λ l. earlier_first a b es l) (λ l. sym (earlier_first b a es l)) q)
      (cases_order a.time b.time)

  -- in a list that falls, an entry that was put in has a time of its own
  pub falling_out : (e : Entry K) (es : List (Entry K)) → Falling (placed e es) → AllByRecursion (λ x. x.time ≡ e.time → ⊥) es × Falling es
  falling_out e [] h = (tt, tt)
  falling_out e (x ∷ xs) h =
      ⊎_elim
      (λ (l : e.time < x.time).
      let h' : AllByRecursion (λ y. y.time < x.time) (placed e xs) × Falling (placed e xs) = rw (lt-ltb e.time x.time l) at h in
      let r = falling_out e xs h'.1 in
      (((λ (q : x.time ≡ e.time). omega arith), r.0), ((placed_all (λ y. y.time < x.time) e xs h'.0).1, r.1)))
      (λ (l : x.time ≤ e.time).
      let h' : AllByRecursion (λ y. y.time < e.time) (x ∷ xs) × Falling (x ∷ xs) = rw (le-ltb e.time x.time l) at h in
      (All-weaker (λ y. y.time < e.time) (λ y. y.time ≡ e.time → ⊥) (λ y m q. omega arith) (x ∷ xs) h'.0, h'.1))
      (cases_lt e.time x.time)

  -- an entry among others, at a time that those before it do not have
  by_time_in : (xs : List (Entry K)) (x : Entry K) (ys : List (Entry K)) → AllByRecursion (λ y. y.time ≡ x.time → ⊥) xs → by_time (xs ++ x ∷ ys) ≡ placed x (by_time (xs ++ ys))
  by_time_in [] x ys h = refl
  by_time_in (e ∷ xs) x ys h = ap (placed e) (by_time_in xs x ys h.1) ∙ placed_either e x (by_time (xs ++ ys)) h.0

  -- where the times fall, no other entry has its time
  pub own_time : (xs : List (Entry K)) (x : Entry K) (ys : List (Entry K)) → Falling (by_time (xs ++ x ∷ ys)) → AllByRecursion (λ y. y.time ≡ x.time → ⊥) (xs ++ ys)
  own_time [] x ys f = all_unordered (λ y. y.time ≡ x.time → ⊥) ys (falling_out x (by_time ys) f).0
  own_time (e ∷ xs) x ys f =
      let r = falling_out e (by_time (xs ++ x ∷ ys)) f in
      let n = all_middle (λ y. y.time ≡ e.time → ⊥) xs x ys (all_unordered (λ y. y.time ≡ e.time → ⊥) (xs ++ x ∷ ys) r.0) in
      ((λ (q : e.time ≡ x.time). n.0 (sym q)), own_time xs x ys r.1)

  -- an entry among others, at a time that none of them has
  pub by_time_new : (xs : List (Entry K)) (x : Entry K) (ys : List (Entry K)) → AllByRecursion (λ y. y.time ≡ x.time → ⊥) (xs ++ ys) → by_time (xs ++ x ∷ ys) ≡ placed x (by_time (xs ++ ys))
  by_time_new xs x ys h =
      let P : Entry K → Type 0 = λ y. y.time ≡ x.time → ⊥ in
      by_time_in xs x ys (subst (AllByRecursion P) (take_at xs ys (length xs) refl) (All-take P (length xs) (xs ++ ys) h))

  -- and later than all of them
  pub by_time_newest : (xs : List (Entry K)) (x : Entry K) (ys : List (Entry K)) → AllByRecursion (λ y. y.time < x.time) (xs ++ ys) → by_time (xs ++ x ∷ ys) ≡ x ∷ by_time (xs ++ ys)
  by_time_newest xs x ys h =
      by_time_new xs x ys (All-weaker (λ y. y.time < x.time) (λ y. y.time ≡ x.time → ⊥) (λ y l q. omega arith) (xs ++ ys) h)
      ∙ placed_front x (by_time (xs ++ ys)) (all_by_time (λ y. y.time < x.time) (xs ++ ys) h)

  -- where the times fall, an entry can be taken out
  pub by_time_out : (xs : List (Entry K)) (x : Entry K) (ys : List (Entry K)) → Falling (by_time (xs ++ x ∷ ys)) → by_time (xs ++ x ∷ ys) ≡ placed x (by_time (xs ++ ys))
  by_time_out xs x ys f = by_time_new xs x ys (own_time xs x ys f)

  -- later times are counted in any order
  count_placed : (t : ℕ) (e : Entry K) (es : List (Entry K)) → count_above t (times_of (placed e es)) ≡ count_above t (times_of (e ∷ es))
  count_placed t e [] = refl
  count_placed t e (x ∷ xs) =
      ⊎_elim
      (λ (y : ltb e.time x.time ≡ true). rw y (omega (arith, count_placed t e xs)))
      (λ (y : ltb e.time x.time ≡ false). rw y)
      (cases_Bool (ltb e.time x.time))

  pub count_by_time : (t : ℕ) (es : List (Entry K)) → count_above t (times_of (by_time es)) ≡ count_above t (times_of es)
  count_by_time t [] = refl
  count_by_time t (e ∷ es) = omega (arith, count_placed t e (by_time es), count_by_time t es)

  count_none : (t : ℕ) (es : List (Entry K)) → AllByRecursion (λ x. x.time ≤ t) es → count_above t (times_of es) ≡ 0
  count_none t [] h = refl
  count_none t (e ∷ es) h = rw (le-ltb t e.time h.0) (omega (arith, count_none t es h.1))

  -- in a list that falls, those with later times are the first
  count_first : (t : ℕ) (es : List (Entry K)) → Falling es → count_above t (times_of es) ≡ position_or_len (λ x. leb x.time t) es
  count_first t [] f = refl
  count_first t (e ∷ es) f =
      ⊎_elim
      (λ (l : t < e.time). rw (lt-ltb t e.time l, lt-leb e.time t l) (omega (arith, count_first t es f.1)))
      (λ (l : e.time ≤ t).
      let none = count_none t es (All-weaker (λ x. x.time < e.time) (λ x. x.time ≤ t) (λ x m. omega arith) es f.0) in
      rw (le-ltb t e.time l, le-leb e.time t l) (omega (arith, none)))
      (cases_lt t e.time)

  count_at : (es : List (Entry K)) (i : ℕ) (d : Entry K) → Falling es → i < length es → count_above (get_or es i d).time (times_of es) ≡ i
  count_at [] i d f h = absurd (omega arith)
  count_at (e ∷ es) zero d f h =
      let none = count_none e.time es (All-weaker (λ x. x.time < e.time) (λ x. x.time ≤ e.time) (λ x l. omega arith) es f.0) in
      rw (le-ltb e.time e.time (omega arith)) (omega (arith, none))
  count_at (e ∷ es) (suc i) d f h =
      let l : (get_or es i d).time < e.time = All-get_or (λ x. x.time < e.time) es i d (omega arith) f.0 in
      rw (lt-ltb (get_or es i d).time e.time l) (omega (arith, count_at es i d f.1 (omega arith)))

  -- an entry put into a list that falls stands behind those with later times
  pub count_own : (x : Entry K) (es : List (Entry K)) → Falling es → count_above x.time (times_of (placed x es)) ≡ position_or_len (λ y. leb y.time x.time) es
  count_own x es f =
      let own : count_above x.time (times_of (x ∷ es)) ≡ count_above x.time (times_of es) = rw (le-ltb x.time x.time (omega arith)) (omega arith) in
      count_placed x.time x es ∙ own ∙ count_first x.time es f

  -- the entry that was put in, by its index
  nth_placed : (x : Entry K) (es : List (Entry K)) → slice_get (placed x es) (position_or_len (λ y. leb y.time x.time) es) ≡ Some x
  nth_placed x [] = refl
  nth_placed x (y ∷ ys) =
      ⊎_elim
      (λ (l : x.time < y.time).
      let n : 1 + position_or_len (λ z. leb z.time x.time) ys ≡ suc (position_or_len (λ z. leb z.time x.time) ys) = omega arith in
      rw (lt-ltb x.time y.time l, lt-leb y.time x.time l, n) (nth_placed x ys))
      (λ (l : y.time ≤ x.time). rw (le-ltb x.time y.time l, le-leb y.time x.time l))
      (cases_lt x.time y.time)

  -- the entry with j − 1 later ones is the j-th
  pub entry_placed : (x : Entry K) (es : List (Entry K)) (j : ℕ) → Falling (placed x es) → count_above x.time (times_of (placed x es)) + 1 ≡ j → key_at (placed x es) j ≡ Some x
  entry_placed x es zero f e = absurd (omega arith)
  entry_placed x es (suc i) f e =
      let at : i ≡ position_or_len (λ y. leb y.time x.time) es = omega (arith, count_own x es (falling_out x es f).1) in
      ap (slice_get (placed x es)) at ∙ nth_placed x es

  -- where no entry has j − 1 later ones, there is no j-th
  pub entry_none : (es : List (Entry K)) (j : ℕ) → Falling es → AllByRecursion (λ e. count_above e.time (times_of es) + 1 ≡ j → ⊥) es → key_at es j ≡ None
  entry_none es zero f h = refl
  entry_none [] (suc i) f h = refl
  entry_none (e ∷ es) (suc i) f h =
      ⊎_elim
      (λ (l : i < length (e ∷ es)).
      absurd (All-get_or (λ x. count_above x.time (times_of (e ∷ es)) + 1 ≡ suc i → ⊥) (e ∷ es) i e l h (omega (arith, count_at (e ∷ es) i e f l))))
      (λ (l : length (e ∷ es) ≤ i). slice_get_past (e ∷ es) i l)
      (cases_lt i (length (e ∷ es)))

  module _ (same : K → K → Bool) (k : K) where
    -- a key that no entry has
    pub held_none : (es : List (Entry K)) → AllByRecursion (λ e. same k e.key ≡ false) es → held same k (keys es) ≡ false
    held_none [] h = refl
    held_none (e ∷ es) h = rw h.0 (held_none es h.1)

    -- an entry that alone has the key, put in
    module _ (x : Entry K) (has : same k x.key ≡ true) where
      pub held-placed : (es : List (Entry K)) → held same k (keys (placed x es)) ≡ true
      held-placed [] = rw has
      held-placed (y ∷ ys) =
          ⊎_elim
          (λ (l : x.time < y.time). let r = held-placed ys in rw (lt-ltb x.time y.time l, r) (grind arith))
          (λ (l : y.time ≤ x.time). rw (le-ltb x.time y.time l, has))
          (cases_lt x.time y.time)

      pub found-placed : (es : List (Entry K)) → AllByRecursion (λ y. same k y.key ≡ false) es → found same k (placed x es) ≡ Some (suc (position_or_len (λ y. leb y.time x.time) es), x.time)
      found-placed [] h = rw has
      found-placed (y ∷ ys) h =
          ⊎_elim
          (λ (l : x.time < y.time).
          let n : 1 + position_or_len (λ z. leb z.time x.time) ys ≡ suc (position_or_len (λ z. leb z.time x.time) ys) = omega arith in
          rw (lt-ltb x.time y.time l, lt-leb y.time x.time l, h.0, found-placed ys h.1, n))
          (λ (l : y.time ≤ x.time). rw (le-ltb x.time y.time l, le-leb y.time x.time l, has))
          (cases_lt x.time y.time)

      stored-placed : (es : List (Entry K)) → AllByRecursion (λ y. same k y.key ≡ false) es → stored same k (keys (placed x es)) ≡ x.key
      stored-placed [] h = rw has
      stored-placed (y ∷ ys) h =
          ⊎_elim
          (λ (l : x.time < y.time). rw (lt-ltb x.time y.time l, h.0) (stored-placed ys h.1))
          (λ (l : y.time ≤ x.time). rw (le-ltb x.time y.time l, has))
          (cases_lt x.time y.time)

      others-placed : (es : List (Entry K)) → AllByRecursion (λ y. same k y.key ≡ false) es → others same k (placed x es) ≡ es
      others-placed [] h = rw has
      others-placed (y ∷ ys) h =
          ⊎_elim
          (λ (l : x.time < y.time). rw (lt-ltb x.time y.time l, h.0) (ap {B = List (Entry K)} (λ zs. y ∷ zs) (others-placed ys h.1)))
          (λ (l : y.time ≤ x.time). rw (le-ltb x.time y.time l, has))
          (cases_lt x.time y.time)

      pub touched-placed : (t : ℕ) (es : List (Entry K)) → AllByRecursion (λ y. same k y.key ≡ false) es → touched same k t (placed x es) ≡ at_time x.key t ∷ es
      touched-placed t es h = ap₂ (λ z zs. at_time z t ∷ zs) (stored-placed es h) (others-placed es h)

module _ {K : Type 0} {same : K → K → Bool} (laws : Lawful same) where
  apart_out : (e : Entry K) (es : List (Entry K)) → Apart same (placed e es) → AllByRecursion (λ y. same e.key y.key ≡ false) es
  apart_out e [] h = tt
  apart_out e (x ∷ xs) h =
      ⊎_elim
      (λ (l : e.time < x.time).
      let h' : AllByRecursion (λ y. same x.key y.key ≡ false) (placed e xs) × Apart same (placed e xs) = rw (lt-ltb e.time x.time l) at h in
      (flip laws e.key x.key ∙ (placed_all (λ y. same x.key y.key ≡ false) e xs h'.0).0, apart_out e xs h'.1))
      (λ (l : x.time ≤ e.time).
      let h' : AllByRecursion (λ y. same e.key y.key ≡ false) (x ∷ xs) × Apart same (x ∷ xs) = rw (le-ltb e.time x.time l) at h in
      h'.0)
      (cases_lt e.time x.time)

  -- where each key stands once, no other entry has the key of the one put in
  pub alone : (k : K) (x : Entry K) (es : List (Entry K)) → same k x.key ≡ true → Apart same (placed x es) → AllByRecursion (λ y. same k y.key ≡ false) es
  alone k x es has a =
      All-weaker (λ y. same x.key y.key ≡ false) (λ y. same k y.key ≡ false) (λ y n. left laws k x.key y.key has ∙ n) es (apart_out x es a)
