-- The footprint totals from the gaps. Assumes nothing.
use Rattle.std.proofs.Common.{◌≡◌, ℕ, zero, suc, ◌+◌, ◌-◌, ◌*◌, ◌≤◌, Bool, true, false, cond, leb, List, [], ◌∷◌, ◌++◌, map, length, take, sym, refl, ap, ◌∙◌, subst, ⊎_elim, arith}
use Rattle.std.proofs.lemmas.Bool.{cases_lt, cases_Bool}
use Rattle.std.proofs.ByRecursion.{All-weaker, All-map, All-append}
use Rattle.std.specs.List.{AllByRecursion}
use Rattle.keys.specs.Sameness.{Lawful}
use Rattle.locality.proofs.Sums.{sum_over_none, sum_over_each, sum_over-append, sum_over_zero, sum_over-map, table, sum_above_same}
use Rattle.locality.proofs.Sameness.{all_without, others_absent}
use Rattle.locality.proofs.Reuse.{former-le, former-held, held-take}
use Rattle.locality.proofs.Recency.{time_of, sum_others, length-others, held-recent, recent-times, recent-length, time_former, times-lasts}
use Rattle.locality.specs.Numbers.{sum_over, is_number, times}
use Rattle.locality.specs.Log.{held, distinct, windows, total, intervals, firsts, lasts, last_gaps, gap_count}
use Rattle.locality.specs.Recency.{others, recent}
use Rattle.locality.specs.Statements.{gap_sum, TotalsFromGaps}
use Rattle.locality.specs.declared.entry.Entry.{Entry}

-- a key with last time t stands in the newest w of n positions
abbrev pub inside : ℕ → ℕ → ℕ → ℕ
inside w n t = cond (leb (suc n) (t + w)) 1 0

outside : (n t : ℕ) → t ≤ n → inside 0 n t ≡ 0
outside n t h = grind arith

inside_step : (v n t : ℕ) → inside (suc v) (suc n) t ≡ inside v n t
inside_step v n t = grind arith

step : (w n t : ℕ) → t ≤ n → inside w (suc n) t + ((suc (suc n) - t) - w) ≡ ((suc n - t) - w) + 1
step w n t h = grind arith

pub windows_count : {K : Type 0} (w : ℕ) (log : List K) → length (windows w log) ≡ suc (length log) - w
windows_count w [] = grind arith
windows_count w (k ∷ past) = let r = windows_count w past in grind arith

module _ {K : Type 0} {same : K → K → Bool} (laws : Lawful same) where
  -- the newest window of length w has the keys whose last time lies in it
  pub distinct-take : (w : ℕ) (log : List K) → distinct same (take w log) ≡ sum_over (λ e. inside w (length log) e.time) (recent same log)
  distinct-take zero log =
      let n = length log in
      sym (sum_over_none (λ e. inside 0 n e.time) (recent same log) (All-weaker (λ e. (1 ≤ e.time) × (e.time ≤ n)) (λ e. inside 0 n e.time ≡ 0) (λ e h. outside n e.time h.1) (recent same log) (recent-times laws log)))
  distinct-take (suc v) [] = refl
  distinct-take (suc v) (k ∷ past) =
      let r = distinct-take v past in
      let n = length past in
      let es = recent same past in
      let h = held-recent laws k past in
      let t = held-take same k v past in
      let now : inside (suc v) (suc n) (suc n) ≡ 1 = grind arith in
      let rest : sum_over (λ e. inside (suc v) (suc n) e.time) (others same k es) ≡ sum_over (λ e. inside v n e.time) (others same k es)
      = sum_over_each (λ e. inside (suc v) (suc n) e.time) (λ e. inside v n e.time) (λ e. inside_step v n e.time) (others same k es) in
      ⊎_elim
      (λ y. let s = sum_others same (inside v n) k es (h ∙ y) in
      let i = time_former laws k past in let i' = former-le same k past in
      let e : cond (held same k (take v past)) 0 1 + inside v n (time_of same k es) ≡ 1 = rw (t, y) (grind arith) in
      omega arith)
      (λ y. let s = ap (sum_over (λ e. inside v n e.time)) (others_absent laws k es (h ∙ y)) in
      let e : cond {A = ℕ} (held same k (take v past)) 0 1 ≡ 1 = rw (t, y) in
      omega arith)
      (cases_Bool (held same k past))

  pub total_more : (w : ℕ) (k : K) (past : List K) → total same w (k ∷ past) ≡ cond (leb w (suc (length past))) (distinct same (take w (k ∷ past))) 0 + total same w past
  total_more w k past = grind arith

  -- one access more: the keys but k
  shorter : (w n : ℕ) (es : List (Entry K)) → AllByRecursion (λ e. (1 ≤ e.time) × (e.time ≤ n)) es →
      sum_over (λ e. inside w (suc n) e.time) es + sum_over (λ e. (suc (suc n) - e.time) - w) es
      ≡ sum_over (λ e. (suc n - e.time) - w) es + length es
  shorter w n [] h = refl
  shorter w n (e ∷ es) h =
      let r = shorter w n es h.1 in
      let t = e.time in
      let one : inside w (suc n) t + ((suc (suc n) - t) - w) ≡ ((suc n - t) - w) + 1 = step w n t h.0.1 in
      omega arith

  -- the gaps of the keys' last positions
  abbrev beyond_last : ℕ → List K → ℕ
  beyond_last w log = sum_over (λ e. (suc (length log) - e.time) - w) (recent same log)

  abbrev beyond : ℕ → List K → ℕ
  beyond w log = sum_over (λ g. g - w) (intervals same log) + sum_over (λ g. g - w) (firsts same log) + beyond_last w log

  pub balance : (w : ℕ) (log : List K) → total same w log + beyond w log ≡ distinct same log * (suc (length log) - w)
  balance w [] = grind arith
  balance w (k ∷ past) =
      let r = balance w past in
      let n = length past in
      let es = recent same past in
      let h = held-recent laws k past in
      let t = total_more w k past in
      let d = distinct-take w (k ∷ past) in
      let tw = all_without (λ e. (1 ≤ e.time) × (e.time ≤ n)) (λ e. same k e.key) es (recent-times laws past) in
      let o = shorter w n (others same k es) tw in
      let len = recent-length laws past in
      let low : w ≤ suc n → suc (suc n) - w ≡ suc (suc n - w) = λ l. omega arith in
      let now : inside w (suc n) (suc n) + (1 - w) ≡ 1 = grind arith in
      let whole : w ≤ suc n → cond {A = ℕ} (leb w (suc n)) (distinct same (take w (k ∷ past))) 0 ≡ distinct same (take w (k ∷ past)) = λ l. grind arith in
      let small : (l : w ≤ suc n) → total same w (k ∷ past) + beyond w (k ∷ past) ≡ distinct same (k ∷ past) * (suc (suc n) - w)
      = λ l. ⊎_elim
      (λ y.
      let s = sum_others same (λ x. (suc n - x) - w) k es (h ∙ y) in
      let lw = length-others same k es (h ∙ y) in
      let ti = time_former laws k past in let ti' = former-le same k past in let ti'' = former-held same k past y in
      let u = whole l in
      rw (low l, y) (omega arith))
      (λ y.
      let e = others_absent laws k es (h ∙ y) in
      let s = ap (sum_over (λ e. (suc n - e.time) - w)) e in
      let lw = ap length e in
      let u = whole l in
      rw (low l, y) (omega arith))
      (cases_Bool (held same k past)) in
      let large : (l : suc (suc n) ≤ w) → total same w (k ∷ past) + beyond w (k ∷ past) ≡ distinct same (k ∷ past) * (suc (suc n) - w)
      = λ l.
      let z : suc n - w ≡ 0 = omega arith in
      let z' : suc (suc n) - w ≡ 0 = omega arith in
      let p = rw z at r in
      let none : cond {A = ℕ} (leb w (suc n)) (distinct same (take w (k ∷ past))) 0 ≡ 0 = grind arith in
      let s = sum_over_each (λ e. (suc (suc n) - e.time) - w) (λ e. 0) (λ e. omega arith) (others same k es) in
      let s' = sum_over_zero (others same k es) in
      ⊎_elim
      (λ (y : held same k past ≡ true). let ti = time_former laws k past in let ti' = former-le same k past in let ti'' = former-held same k past y in rw (z', y) (omega arith))
      (λ (y : held same k past ≡ false). rw (z', y) (omega arith))
      (cases_Bool (held same k past)) in
      ⊎_elim (λ l. small (omega arith)) large (cases_lt w (suc (suc n)))

  -- every gap stands in the table
  wider : (n : ℕ) (gs : List ℕ) → AllByRecursion (λ g. (1 ≤ g) × (g ≤ n)) gs → AllByRecursion (λ g. (1 ≤ g) × (g ≤ suc n)) gs
  wider n gs h = All-weaker (λ g. (1 ≤ g) × (g ≤ n)) (λ g. (1 ≤ g) × (g ≤ suc n)) (λ g q. omega arith) gs h

  pub interval_bounds : (log : List K) → AllByRecursion (λ g. (1 ≤ g) × (g ≤ length log)) (intervals same log)
  interval_bounds [] = tt
  interval_bounds (k ∷ past) =
      let r = wider (length past) _ (interval_bounds past) in
      ⊎_elim
      (λ (y : held same k past ≡ true). let b = former-le same k past in let b' = former-held same k past y in rw y (omega arith, r))
      (λ (y : held same k past ≡ false). rw y r)
      (cases_Bool (held same k past))

  pub first_bounds : (log : List K) → AllByRecursion (λ g. (1 ≤ g) × (g ≤ length log)) (firsts same log)
  first_bounds [] = tt
  first_bounds (k ∷ past) =
      let r = wider (length past) _ (first_bounds past) in
      ⊎_elim
      (λ (y : held same k past ≡ true). rw y r)
      (λ (y : held same k past ≡ false). rw y (omega arith, r))
      (cases_Bool (held same k past))

  -- the last gaps, off the recency list
  pub last_sum : (f : ℕ → ℕ) (log : List K) → sum_over f (last_gaps same log) ≡ sum_over (λ e. f (suc (length log) - e.time)) (recent same log)
  last_sum f log =
      let n = length log in
      let gap = λ (l : ℕ). suc n - l in
      ap (λ ls. sum_over f (map gap ls)) (sym (times-lasts laws log))
      ∙ sum_over-map f gap (map (λ e. e.time) (recent same log))
      ∙ sum_over-map (λ l. f (gap l)) (λ e. e.time) (recent same log)

  pub last_bounds : (log : List K) → AllByRecursion (λ g. (1 ≤ g) × (g ≤ length log)) (last_gaps same log)
  last_bounds log =
      let n = length log in
      let P : ℕ → Type 0 = λ g. (1 ≤ g) × (g ≤ n) in
      let gap = λ (l : ℕ). suc n - l in
      let t : AllByRecursion (λ l. (1 ≤ l) × (l ≤ n)) (lasts same log)
      = subst (AllByRecursion (λ l. (1 ≤ l) × (l ≤ n))) (times-lasts laws log) (All-map (λ l. (1 ≤ l) × (l ≤ n)) (λ e. e.time) (recent same log) (recent-times laws log)) in
      All-map P gap (lasts same log) (All-weaker (λ l. (1 ≤ l) × (l ≤ n)) (λ l. P (gap l)) (λ l q. omega arith) (lasts same log) t)

  -- the gaps as one list
  abbrev pub gaps : List K → List ℕ
  gaps log = intervals same log ++ (firsts same log ++ last_gaps same log)

  pub gap_bounds : (log : List K) → AllByRecursion (λ g. (1 ≤ g) × (g ≤ length log)) (gaps log)
  gap_bounds log =
      let P : ℕ → Type 0 = λ g. (1 ≤ g) × (g ≤ length log) in
      All-append P _ _ (interval_bounds log) (All-append P _ _ (first_bounds log) (last_bounds log))

  gap_sum_lem : (f : ℕ → ℕ) (log : List K) → sum_over f (gaps log) ≡ sum_over f (intervals same log) + sum_over f (firsts same log) + sum_over f (last_gaps same log)
  gap_sum_lem f log = omega (arith, sum_over-append f (intervals same log) (firsts same log ++ last_gaps same log), sum_over-append f (firsts same log) (last_gaps same log))

  pub gap_times : (i : ℕ) (log : List K) → gap_count same i log ≡ times i (gaps log)
  gap_times i log = sym (gap_sum_lem (is_number i) log)

  pub gap_balance : (w : ℕ) (log : List K) → total same w log + sum_over (λ g. g - w) (gaps log) ≡ distinct same log * (suc (length log) - w)
  gap_balance w log =
      let f : ℕ → ℕ = λ g. g - w in
      let r = balance w log in
      let s = gap_sum_lem f log in
      let l = last_sum f log in
      rw (s, l) r

  pub fit : (log : List K) → AllByRecursion (λ g. g ≤ length log) (gaps log)
  fit log = All-weaker (λ g. (1 ≤ g) × (g ≤ length log)) (λ g. g ≤ length log) (λ g h. h.1) (gaps log) (gap_bounds log)

  -- the same over the gap table
  pub beyond_table : (w : ℕ) (log : List K) → gap_sum same w log ≡ sum_over (λ g. g - w) (gaps log)
  unfolding gap_sum
  beyond_table w log =
      sum_above_same w (length log) _ (λ i. (i - w) * times i (gaps log)) (λ i l. ap (λ c. (i - w) * c) (gap_times i log))
      ∙ table w (length log) (gaps log) (fit log)

  pub footprints : TotalsFromGaps same
  footprints log w h =
      let b = gap_balance w log in
      let t = beyond_table w log in
      let e : suc (length log) - w ≡ length log - w + 1 = omega arith in
      let b' = rw e at b in
      (omega arith, windows_count w log ∙ e, omega arith)
