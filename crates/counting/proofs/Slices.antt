-- The definitions on a slice of keys, the oldest access first. Assumes nothing.
use Rattle.std.proofs.Common.{◌≡◌, ℕ, zero, suc, ◌+◌, ◌-◌, ◌<◌, ◌≤◌, Bool, true, false, cond, eqb, ltb, List, [], ◌∷◌, ◌++◌, map, reverse, length, get_or, take, drop, Some, None, Option, filter, sym, refl, ap, ◌∙◌, ap₂, ⊎_elim, add-one, arith}
use mathlib.Core.Bool.{false≢true}
use Rattle.std.proofs.lemmas.List.{reverse-reverse, length-reverse, length-take, length-take-le, map-id, take_more, get_or-take, get_or_default}
use Rattle.std.proofs.lemmas.Bool.{cases_Bool, cases_lt, ltb-true}
use Rattle.std.specs.List.{position_or_len, range_with_len}
use Rattle.keys.specs.Sameness.{Lawful}
use Rattle.locality.proofs.Sums.{sum_over-append, sum_over-map, sum_over_each, sum_over-add}
use Rattle.locality.proofs.Finds.{first_at, without_at, any_first}
use Rattle.locality.proofs.Slices.{element_read}
use Rattle.locality.proofs.Sameness.{distinct_push}
use Rattle.locality.proofs.Positions.{positions_more, textbook, cache_more, misses_more}
use Rattle.locality.specs.Numbers.{sum_over, is_number, times}
use Rattle.locality.specs.Log.{listed, held, distinct, total, interval_at, distance_at, gap_count}
use Rattle.locality.specs.Recency.{without}
use Rattle.locality.specs.Cache.{accessed, cache, misses}
use Rattle.locality.specs.ByPosition.{positions, greatest, window, windows_by_start, alike, same_at, former_of, interval_of, distance_of, first_positions, last_positions, positions_with, cache_from, misses_from}
use Rattle.std.specs.Option.{option_map}
use Rattle.std.specs.Prelude.{MatchOption}
use Rattle.counting.specs.Finds.{IsLast}
use Rattle.counting.specs.Shares.{share_of}

-- one element more of a slice, as it is read
take_read : {X : Type 0} (xs : List X) (i : ℕ) (x : X) → i < length xs → x ≡ get_or xs i x → take (i + 1) xs ≡ take i xs ++ (x ∷ [])
take_read xs i x h e = take_more xs i x h ∙ ap (λ y. take i xs ++ (y ∷ [])) (sym e)

-- one position more
pub sum_more : (f : ℕ → ℕ) (n : ℕ) → sum_over f (positions (n + 1)) ≡ sum_over f (positions n) + f (n + 1)
sum_more f n =
    let e : n + 1 ≡ suc n = add-one n in
    ap (λ m. sum_over f (positions m)) e ∙ ap (sum_over f) (positions_more n) ∙ sum_over-append f (positions n) (suc n ∷ [])
    ∙ ap (λ m. sum_over f (positions n) + (f m + 0)) (sym e) ∙ omega arith

-- a sum over positions, each one further on
shifted : (f g : ℕ → ℕ) → ((s : ℕ) → 1 ≤ s → f (s + 1) ≡ g s) → (a n : ℕ) → 1 ≤ a → sum_over f (range_with_len (a + 1) n) ≡ sum_over g (range_with_len a n)
shifted f g h a zero l = refl
shifted f g h a (suc n) l = ap₂ ◌+◌ (h a l) (shifted f g h (a + 1) n (omega arith))

-- the greatest position that passes, by what is known of each
pub greatest_none : (f : ℕ → Bool) (n : ℕ) → ((j : ℕ) → 1 ≤ j → j ≤ n → f j ≡ false) → greatest f n ≡ 0
greatest_none f zero h = refl
greatest_none f (suc n) h = rw (h (suc n) (omega arith) (omega arith)) (greatest_none f n (λ j l m. h j l (omega arith)))

pub greatest_at : (f : ℕ → Bool) (n g : ℕ) → 1 ≤ g → g ≤ n → f g ≡ true → ((j : ℕ) → g < j → j ≤ n → f j ≡ false) → greatest f n ≡ g
greatest_at f zero g l m y h = absurd (omega arith)
greatest_at f (suc n) g l m y h =
    ⊎_elim
    (λ (b : g < suc n). rw (h (suc n) b (omega arith)) (greatest_at f n g l (omega arith) y (λ j p q. h j p (omega arith))))
    (λ (b : suc n ≤ g). let e : suc n ≡ g = omega arith in let here : f (suc n) ≡ true = ap f e ∙ y in rw here e)
    (cases_lt g (suc n))

-- the positions that a filter keeps, counted one by one
map-kept : (f : ℕ → ℕ) (p : ℕ → Bool) (i : ℕ) (ts : List ℕ) → times i (map f (filter p ts)) ≡ sum_over (λ t. cond (p t) (is_number i (f t)) 0) ts
map-kept f p i [] = refl
map-kept f p i (t ∷ ts) = let r = map-kept f p i ts in grind arith

times-kept : (p : ℕ → Bool) (i : ℕ) (ts : List ℕ) → times i (filter p ts) ≡ sum_over (λ t. cond (p t) (is_number i t) 0) ts
times-kept p i ts = ap (times i) (sym (map-id (filter p ts))) ∙ map-kept (λ t. t) p i ts

module _ {K : Type 0} (same : K → K → Bool) where
  pub same_read : (xs : List K) (t p : ℕ) (x y : K) → 1 ≤ t → t ≤ length xs → x ≡ get_or xs (t - 1) x → 1 ≤ p → p ≤ length xs → y ≡ get_or xs (p - 1) y → same_at same xs t p ≡ same x y
  same_read xs t p x y l h e m k d = ap₂ (alike same) (element_read xs t x l h e) (element_read xs p y m k d)

  at_index : (xs : List K) (t most j : ℕ) (x : K) → 1 ≤ t → t ≤ length xs → x ≡ get_or xs (t - 1) x → most ≤ length xs → 1 ≤ j → j ≤ most → same_at same xs t j ≡ same x (get_or (take most xs) (j - 1) x)
  at_index xs t most j x l h e m p q =
      let y = get_or xs (j - 1) x in
      same_read xs t j x y l h e p (omega arith) (get_or_default xs (j - 1) x y (omega arith)) ∙ ap (same x) (sym (get_or-take most xs (j - 1) x (omega arith)))

  -- a search from the end of the first `most` keys finds the greatest position with the key of position t
  pub latest : (xs : List K) (t most : ℕ) (x : K) (found : Option ℕ) → 1 ≤ t → t ≤ length xs → x ≡ get_or xs (t - 1) x → most ≤ length xs → IsLast (same x) (take most xs) found →
      MatchOption (option_map (λ i. i + 1) found) (greatest (same_at same xs t) most ≡ 0) (λ p. (greatest (same_at same xs t) most ≡ p) × (1 ≤ p) × (p ≤ most))
  latest xs t most x None l h e m none =
      greatest_none (same_at same xs t) most (λ j p q. at_index xs t most j x l h e m p q ∙ none (j - 1) x (omega (arith, length-take-le most xs m)))
  latest xs t most x (Some i) l h e m found =
      let fails : (j : ℕ) → i + 1 < j → j ≤ most → same_at same xs t j ≡ false
      = λ j p q. at_index xs t most j x l h e m (omega arith) q ∙ found.2 (j - 1) x (omega arith) (omega (arith, length-take-le most xs m)) in
      let low : i + 1 ≤ most = omega (arith, found.0, length-take-le most xs m) in
      let at : i + 1 - 1 ≡ i = omega arith in
      let passes : same_at same xs t (i + 1) ≡ true = at_index xs t most (i + 1) x l h e m (omega arith) low ∙ ap (λ n. same x (get_or (take most xs) n x)) at ∙ found.1 x in
      (greatest_at (same_at same xs t) most (i + 1) (omega arith) low passes fails, omega arith, low)

  -- what a cache holds after a hit on the key x at index i, and after a miss
  pub after_hit : (c : ℕ) (k x : K) (ks : List K) (i : ℕ) → position_or_len (same k) ks ≡ i → held same k ks ≡ true → x ≡ get_or ks i x →
      x ∷ (take i ks ++ drop (i + 1) ks) ≡ accessed same c k ks
  after_hit c k x ks i e y d =
      let h : i < length ks = ltb-true i (length ks) (ap (λ j. ltb j (length ks)) (sym e) ∙ any_first (same k) ks ∙ y) in
      ap₂ ◌∷◌ (first_at (same k) k x ks i e h d) (ap (λ j. take i ks ++ drop j ks) (add-one i) ∙ without_at (same k) ks i e h) ∙ rw y

  pub after_miss : (c : ℕ) (k : K) (ks : List K) → held same k ks ≡ false → take c (k ∷ ks) ≡ accessed same c k ks
  after_miss c k ks y = rw y

  -- a cache never shrinks, and never passes its places
  without-length : (k : K) (ks : List K) → held same k ks ≡ true → suc (length (without (same k) ks)) ≡ length ks
  without-length k [] y = absurd (false≢true y)
  without-length k (x ∷ ks) y =
      let r : held same k ks ≡ true → suc (length (without (same k) ks)) ≡ length ks = without-length k ks in
      grind arith

  pub accessed-length : (c : ℕ) (k : K) (ks : List K) → length ks ≤ c → (length ks ≤ length (accessed same c k ks)) × (length (accessed same c k ks) ≤ c)
  accessed-length c k ks h =
      ⊎_elim
      (λ (y : held same k ks ≡ true). let w = without-length k ks y in rw y (omega arith, omega arith))
      (λ (y : held same k ks ≡ false). let t = length-take c (k ∷ ks) in rw y (omega arith, omega arith))
      (cases_Bool (held same k ks))

  -- one access more
  pub cache_step : (c : ℕ) (xs : List K) (i : ℕ) (x : K) → i < length xs → x ≡ get_or xs i x → cache_from same c [] (take (i + 1) xs) ≡ accessed same c x (cache_from same c [] (take i xs))
  cache_step c xs i x h e = ap (cache_from same c []) (take_read xs i x h e) ∙ cache_more same c [] (take i xs) x

  pub misses_step : (c : ℕ) (xs : List K) (i : ℕ) (x : K) → i < length xs → x ≡ get_or xs i x → misses_from same c [] (take (i + 1) xs) ≡ cond (held same x (cache_from same c [] (take i xs))) 0 1 + misses_from same c [] (take i xs)
  misses_step c xs i x h e = ap (misses_from same c []) (take_read xs i x h e) ∙ misses_more same c [] (take i xs) x

module _ {K : Type 0} {same : K → K → Bool} (laws : Lawful same) where
  -- one key more
  pub distinct_more : (xs : List K) (i : ℕ) (x : K) → i < length xs → x ≡ get_or xs i x → distinct same (take (i + 1) xs) ≡ cond (held same x (take i xs)) 0 1 + distinct same (take i xs)
  distinct_more xs i x h e = ap (distinct same) (take_read xs i x h e) ∙ distinct_push laws x (take i xs)

  -- interval and distance of position t, with its former position f at hand
  pub interval_from : (xs : List K) (t f : ℕ) → t ≤ length xs → f ≡ former_of same xs t →
      interval_at same t (reverse xs) ≡ cond (eqb f 0) None (Some (t - f))
  interval_from xs t f h e =
      (textbook laws (reverse xs)).interval t (omega (arith, length-reverse xs)) ∙ ap (λ ys. interval_of same ys t) (reverse-reverse xs)
      ∙ ap (λ p. cond (eqb p 0) None (Some (t - p))) (sym e)

  pub distance_from : (xs : List K) (t f : ℕ) → t ≤ length xs → f ≡ former_of same xs t →
      distance_at same t (reverse xs) ≡ cond (eqb f 0) None (Some (distinct same (window (t - f) f xs)))
  distance_from xs t f h e =
      (textbook laws (reverse xs)).distance t (omega (arith, length-reverse xs)) ∙ ap (λ ys. distance_of same ys t) (reverse-reverse xs)
      ∙ ap (λ p. cond (eqb p 0) None (Some (distinct same (window (t - p) p xs)))) (sym e)

  pub total-slice : (w : ℕ) (xs : List K) → total same w (reverse xs) ≡ sum_over (λ s. distinct same (window w s xs)) (positions (suc (length xs) - w))
  total-slice w xs =
      (textbook laws (reverse xs)).totals w ∙ ap (λ ys. sum_over (distinct same) (windows_by_start w ys)) (reverse-reverse xs)
      ∙ sum_over-map (distinct same) (λ s. window w s xs) (positions (suc (length xs) - w))

  window_shift : (w s : ℕ) (x : K) (xs : List K) → 1 ≤ s → distinct same (window w (s + 1) (x ∷ xs)) ≡ distinct same (window w s xs)
  window_shift w zero x xs p = absurd (omega arith)
  window_shift w (suc s) x xs p = let a : suc s + 1 - 1 ≡ suc s = omega arith in let b : suc s - 1 ≡ s = omega arith in rw (a, b)

  -- the windows of a slice, from its front: none is left, or the one at the front and those without the oldest access
  pub total_short : (w : ℕ) (xs : List K) → length xs < w → total same w (reverse xs) ≡ 0
  total_short w xs h = let z : suc (length xs) - w ≡ 0 = omega arith in total-slice w xs ∙ ap (λ n. sum_over (λ s. distinct same (window w s xs)) (positions n)) z

  pub total_next : (w : ℕ) (xs : List K) → 1 ≤ w → w ≤ length xs → distinct same (take w xs) + total same w (reverse (drop 1 xs)) ≡ total same w (reverse xs)
  total_next w [] l h = absurd (omega arith)
  total_next w (x ∷ xs) l h =
      let f : ℕ → ℕ = λ s. distinct same (window w s (x ∷ xs)) in
      let g : ℕ → ℕ = λ s. distinct same (window w s xs) in
      let n : suc (suc (length xs)) - w ≡ suc (suc (length xs) - w) = omega arith in
      ap (λ t. distinct same (take w (x ∷ xs)) + t) (total-slice w xs ∙ sym (shifted f g (λ s p. window_shift w s x xs p) 1 (suc (length xs) - w) (omega arith)))
      ∙ sym (total-slice w (x ∷ xs) ∙ ap (λ m. sum_over f (positions m)) n)

  pub misses-slice : (c : ℕ) (xs : List K) → misses same c (reverse xs) ≡ misses_from same c [] xs
  misses-slice c xs = (textbook laws (reverse xs)).misses c ∙ ap (misses_from same c []) (reverse-reverse xs)

  pub cache-slice : (c : ℕ) (xs : List K) → cache same c (reverse xs) ≡ cache_from same c [] xs
  cache-slice c xs = (textbook laws (reverse xs)).caches c ∙ ap (cache_from same c []) (reverse-reverse xs)

  -- the gap count, position by position
  abbrev ends : List K → ℕ → ℕ → ℕ
  ends xs i t = cond (eqb (greatest (same_at same xs t) (length xs)) t) (is_number i (suc (length xs) - t)) 0

  abbrev starts : List K → ℕ → ℕ → ℕ
  starts xs i t = cond (eqb (former_of same xs t) 0) (is_number i t) 0

  abbrev middles : List K → ℕ → ℕ → ℕ
  middles xs i t = times i (listed (interval_of same xs t))

  share_parts : (xs : List K) (i t : ℕ) → share_of same xs i t ≡ middles xs i t + starts xs i t + ends xs i t
  share_parts xs i t =
      ⊎_elim
      (λ (y : eqb (former_of same xs t) 0 ≡ true). let z : former_of same xs t ≡ 0 = grind arith in let m : t - 0 ≡ t = omega arith in rw (z, m) (omega arith))
      (λ (y : eqb (former_of same xs t) 0 ≡ false). rw y (omega arith))
      (cases_Bool (eqb (former_of same xs t) 0))

  pub gap_slice : (xs : List K) (i : ℕ) → sum_over (share_of same xs i) (positions (length xs)) ≡ gap_count same i (reverse xs)
  gap_slice xs i =
      let ps = positions (length xs) in
      let t = (textbook laws (reverse xs)).gaps i in
      let g : gap_count same i (reverse xs) ≡ positions_with (interval_of same xs) i xs + times i (first_positions same xs) + times i (map (λ l. suc (length xs) - l) (last_positions same xs))
      = t ∙ ap₂ (λ ys n. positions_with (interval_of same ys) i ys + times i (first_positions same ys) + times i (map (λ l. suc n - l) (last_positions same ys))) (reverse-reverse xs) (length-reverse xs) in
      let f = times-kept (λ t. eqb (former_of same xs t) 0) i ps in
      let l = map-kept (λ l. suc (length xs) - l) (λ t. eqb (greatest (same_at same xs t) (length xs)) t) i ps in
      let s = sum_over_each (share_of same xs i) (λ t. middles xs i t + starts xs i t + ends xs i t) (share_parts xs i) ps in
      let a = sum_over-add (λ t. middles xs i t + starts xs i t) (ends xs i) ps in
      let b = sum_over-add (middles xs i) (starts xs i) ps in
      omega (arith, g, f, l, s, a, b)
