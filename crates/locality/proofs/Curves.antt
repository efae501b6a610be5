-- What totals and gaps say of one another. Assumes nothing.
use Rattle.std.proofs.Common.{◌≡◌, ℕ, zero, suc, ◌+◌, ◌-◌, ◌*◌, ◌<◌, ◌≤◌, Bool, true, false, cond, List, [], ◌∷◌, length, sym, ap, ◌∙◌, ap₂, ⊎_elim, arith}
use mathlib.Core.Bool.{false≢true}
use native.Mathlib.Nat.{eq_of_mul-eq-mul_right}
use Rattle.std.proofs.lemmas.Bool.{cases_lt, cases_Bool}
use Rattle.std.proofs.ByRecursion.{All-weaker}
use Rattle.std.specs.List.{AllByRecursion}
use Rattle.keys.specs.Sameness.{Lawful}
use Rattle.locality.proofs.Sums.{no_zero, sum_over_none, sum_above_same, second}
use Rattle.locality.proofs.Reuse.{since, distance-since}
use Rattle.locality.proofs.Totals.{interval_bounds, gaps, gap_bounds, gap_times, gap_balance, fit, beyond_table}
use Rattle.locality.specs.Numbers.{sum_over, sum_above}
use Rattle.locality.specs.Log.{held, distinct, total, intervals, distances, gap_count}
use Rattle.locality.specs.Statements.{gap_sum, SameGaps, TotalsTellGaps, WholeBurstFills, EntryZeroIsEmpty}

-- equal gap tables have equal sums
same_sums : {K L : Type 0} (same : K → K → Bool) (like : L → L → Bool) (xs : List K) (ys : List L) → length xs ≡ length ys → SameGaps same xs like ys → (w : ℕ) → gap_sum same w xs ≡ gap_sum like w ys
unfolding gap_sum
same_sums same like xs ys e c w =
    sum_above_same w (length xs) (λ i. (i - w) * gap_count same i xs) (λ i. (i - w) * gap_count like i ys) (λ i l. ap (λ x. (i - w) * x) (c i l))
    ∙ ap (λ l. sum_above w l (λ i. (i - w) * gap_count like i ys)) e

module _ {K : Type 0} {same : K → K → Bool} (laws : Lawful same) where
  pub total_zero : (log : List K) → total same 0 log ≡ 0
  total_zero [] = grind arith
  total_zero (k ∷ past) = let r = total_zero past in grind arith

  -- no gap is 0
  pub no_gap_zero : (log : List K) → gap_count same 0 log ≡ 0
  no_gap_zero log = gap_times laws 0 log ∙ no_zero (gaps laws log) (All-weaker (λ g. (1 ≤ g) × (g ≤ length log)) (λ g. 1 ≤ g) (λ g h. h.0) (gaps laws log) (gap_bounds laws log))

  pub total_whole : (log : List K) → total same (length log) log ≡ distinct same log
  total_whole log =
      let n = length log in
      let z = sum_over_none (λ g. g - n) (gaps laws log) (All-weaker (λ g. g ≤ n) (λ g. g - n ≡ 0) (λ g h. omega arith) (gaps laws log) (fit laws log)) in
      let e : suc n - n ≡ 1 = omega arith in
      let b : total same n log + sum_over (λ g. g - n) (gaps laws log) ≡ distinct same log * 1 = rw e at (gap_balance laws n log) in
      omega arith

  -- a list with an element has a key
  some_key : (x : K) (xs : List K) → 1 ≤ distinct same (x ∷ xs)
  some_key x [] = omega arith
  some_key x (y ∷ ys) = let r = some_key y ys in omega arith

  some_since : (k : K) (past : List K) → held same k past ≡ true → 1 ≤ distinct same (since same k past)
  some_since k [] y = absurd (false≢true y)
  some_since k (x ∷ past) y = some_key x (cond (same k x) [] (since same k past))

  -- a distance counts the own key
  distance_positive : (log : List K) → AllByRecursion (λ d. 1 ≤ d) (distances same log)
  distance_positive [] = tt
  distance_positive (k ∷ past) =
      let r = distance_positive past in
      let ds = distance-since same k past in
      ⊎_elim
      (λ (y : held same k past ≡ true). rw (ds, y) (some_since k past y, r))
      (λ (y : held same k past ≡ false). rw (ds, y) r)
      (cases_Bool (held same k past))

  pub whole_fills : WholeBurstFills same
  whole_fills log c h =
      let n = length log in
      let e : n - n + 1 ≡ 1 = omega arith in
      let t = total_whole log in
      (h, (omega arith, rw e (omega arith)))

  pub zero_empty : EntryZeroIsEmpty same
  zero_empty log = (
    no_gap_zero log,
    no_zero (intervals same log) (All-weaker (λ g. (1 ≤ g) × (g ≤ length log)) (λ g. 1 ≤ g) (λ g h. h.0) (intervals same log) (interval_bounds laws log)),
    no_zero (distances same log) (distance_positive log),
  )

module _ {K L : Type 0} {same : K → K → Bool} {like : L → L → Bool} (laws : Lawful same) (laws' : Lawful like) where
  -- equal totals: equal sums beyond each length
  pub sums : (xs : List K) (ys : List L) → length xs ≡ length ys → ((w : ℕ) → w ≤ length xs → total same w xs ≡ total like w ys) →
      (w : ℕ) → sum_over (λ g. g - w) (gaps laws xs) ≡ sum_over (λ g. g - w) (gaps laws' ys)
  sums xs ys e t w =
      let n = length xs in
      let m : distinct same xs ≡ distinct like ys = sym (total_whole laws xs) ∙ t n (omega arith) ∙ ap (λ l. total like l ys) e ∙ total_whole laws' ys in
      let b = gap_balance laws w xs in
      let b' : total like w ys + sum_over (λ g. g - w) (gaps laws' ys) ≡ distinct same xs * (suc n - w) = gap_balance laws' w ys ∙ ap₂ (λ x l. x * (suc l - w)) (sym m) (sym e) in
      ⊎_elim
      (λ (l : w < suc n). let q = t w (omega arith) in omega arith)
      (λ (l : suc n ≤ w). let z : suc n - w ≡ 0 = omega arith in let c = rw z at b in let c' = rw z at b' in omega arith)
      (cases_lt w (suc n))

  pub gaps_from_sums : (xs : List K) (ys : List L) → ((w : ℕ) → sum_over (λ g. g - w) (gaps laws xs) ≡ sum_over (λ g. g - w) (gaps laws' ys)) →
      (i : ℕ) → gap_count same i xs ≡ gap_count like i ys
  gaps_from_sums xs ys s zero = no_gap_zero laws xs ∙ sym (no_gap_zero laws' ys)
  gaps_from_sums xs ys s (suc w) =
      let a = second w (gaps laws xs) in
      let a' = second w (gaps laws' ys) in
      let c = gap_times laws (suc w) xs in
      let c' = gap_times laws' (suc w) ys in
      omega (arith, s w, s (suc w), s (suc (suc w)))

  totals : (xs : List K) (ys : List L) → length xs ≡ length ys → SameGaps same xs like ys →
      (w : ℕ) → total same w xs ≡ total like w ys
  totals xs ys e c w =
      let n = length xs in
      let s : (v : ℕ) → sum_over (λ g. g - v) (gaps laws xs) ≡ sum_over (λ g. g - v) (gaps laws' ys)
      = λ v. sym (beyond_table laws v xs) ∙ same_sums same like xs ys e c v ∙ beyond_table laws' v ys in
      let z : suc n - 0 ≡ suc n = omega arith in
      let b : total same 0 xs + sum_over (λ g. g - 0) (gaps laws xs) ≡ distinct same xs * suc n = rw z at (gap_balance laws 0 xs) in
      let b' : total like 0 ys + sum_over (λ g. g - 0) (gaps laws' ys) ≡ distinct like ys * suc n = gap_balance laws' 0 ys ∙ ap (λ l. distinct like ys * l) (omega arith) in
      let m : distinct same xs ≡ distinct like ys
      = eq_of_mul-eq-mul_right (suc n) (omega arith) _ _ (omega (arith, total_zero laws xs, total_zero laws' ys, s 0)) in
      let d = gap_balance laws w xs in
      let d' : total like w ys + sum_over (λ g. g - w) (gaps laws' ys) ≡ distinct same xs * (suc n - w) = gap_balance laws' w ys ∙ ap₂ (λ x l. x * (suc l - w)) (sym m) (sym e) in
      omega (arith, s w)

  pub tell : TotalsTellGaps same like
  tell xs ys e = (λ t i l. gaps_from_sums xs ys (sums xs ys e t) i, λ c w l. totals xs ys e c w)
