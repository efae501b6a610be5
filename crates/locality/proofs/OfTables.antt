-- What the formulas on tables answer where the tables are those of a log. Assumes nothing.
use Rattle.std.proofs.Common.{◌≡◌, ℕ, ◌+◌, ◌-◌, ◌*◌, ◌<◌, ◌≤◌, Bool, true, false, leb, ◌↔◌, List, length, get_or, Some, None, Option, sym, ap, ◌∙◌, ap₂, ⊎_elim, arith, ext_get_or}
use Rattle.std.proofs.lemmas.Bool.{cases_lt}
use Rattle.std.specs.Option.{SomeIff}
use Rattle.keys.specs.Sameness.{Lawful}
use Rattle.locality.proofs.Sums.{sum_above_same}
use Rattle.locality.proofs.Totals.{footprints}
use Rattle.locality.proofs.Cache.{missed}
use Rattle.locality.proofs.Curves.{tell}
use Rattle.locality.specs.Numbers.{sum_above}
use Rattle.locality.specs.Log.{distinct, total, gap_count, depth_count}
use Rattle.locality.specs.Cache.{misses}
use Rattle.locality.specs.Tables.{is_table, last_entry, difference, beyond, total_of_table, misses_of_table, TableOf, Tallies}
use Rattle.locality.specs.Statements.{gap_sum, SameTotals, SameGaps, TotalFromTable, MissesFromTable}
use Rattle.std.proofs.Common.{Decides, eqb}
use Rattle.std.specs.Cmp.Lexicographic.{pointwise}
use Rattle.std.proofs.lemmas.Slice.Eq.{slice_eq-Decides}
use Rattle.std.proofs.lemmas.Bool.Decides.{Decides-eqb}
use Rattle.locality.specs.Statements.{TablesTellTotals}

-- what a checked subtraction answers
pub checked_difference : (r : Option ℕ) (a b : ℕ) → SomeIff r (b ≤ a) (a - b) → r ≡ difference a b
checked_difference None a b h =
    ⊎_elim
    (λ (l : a < b). let y : leb b a ≡ false = grind arith in rw y)
    (λ (l : b ≤ a). absurd (h l))
    (cases_lt a b)
checked_difference (Some x) a b h = let l = h.0 in let y : leb b a ≡ true = grind arith in rw y (ap Some h.1)

last_entry_lem : {K : Type 0} {count : ℕ → List K → ℕ} {log : List K} (table : List ℕ) → TableOf count log table → last_entry table ≡ length log
last_entry_lem table t = omega (arith, t.long)

-- a sum over a table of a log's counts
sum_of : {K : Type 0} (count : ℕ → List K → ℕ) (log : List K) (table : List ℕ) → TableOf count log table → (weigh : ℕ → ℕ → ℕ) (w : ℕ) →
    sum_above w (last_entry table) (λ i. weigh i (get_or table i 0)) ≡ sum_above w (length log) (λ i. weigh i (count i log))
sum_of count log table t weigh w =
    ap (λ n. sum_above w n (λ i. weigh i (get_or table i 0))) (last_entry_lem table t)
    ∙ sum_above_same w (length log) (λ i. weigh i (get_or table i 0)) (λ i. weigh i (count i log)) (λ i l. ap (weigh i) (t.counts i l))

is_table_lem : {K : Type 0} (count : ℕ → List K → ℕ) (log : List K) (table : List ℕ) → TableOf count log table → length log ≤ 4096 → is_table table ≡ true
is_table_lem count log table t l = let e = t.long in grind arith

gap_sum_lem : {K : Type 0} (same : K → K → Bool) (log : List K) (table : List ℕ) → TableOf (gap_count same) log table → (w : ℕ) → beyond w table ≡ gap_sum same w log
unfolding gap_sum
gap_sum_lem same log table t w = sum_of (gap_count same) log table t (λ i x. (i - w) * x) w

module _ {K : Type 0} {same : K → K → Bool} (laws : Lawful same) where
  total_of : (w m : ℕ) (log : List K) (table : List ℕ) → Tallies same (gap_count same) log table m → w ≤ length log → total_of_table w m table ≡ Some (total same w log)
  total_of w m log table t l =
      let yes' = is_table_lem (gap_count same) log table t.counted t.fits in
      let last = last_entry_lem table t.counted in
      let f = footprints laws log w l in
      let low : leb w (last_entry table) ≡ true = grind arith in
      let all : m * (last_entry table - w + 1) ≡ distinct same log * (length log - w + 1) = ap₂ (λ a n. a * (n - w + 1)) t.keyed last in
      let sum = gap_sum_lem same log table t.counted w in
      let fits : leb (gap_sum same w log) (distinct same log * (length log - w + 1)) ≡ true = grind (arith, f.2) in
      rw (yes', low, all, sum, fits) (ap Some (sym f.0))

  misses_of : (c m : ℕ) (log : List K) (table : List ℕ) → Tallies same (depth_count same) log table m → misses_of_table c m table ≡ Some (misses same c log)
  misses_of c m log table t =
      let yes' = is_table_lem (depth_count same) log table t.counted t.fits in
      let sum = sum_of (depth_count same) log table t.counted (λ d x. x) c in
      rw yes' (ap Some (ap₂ ◌+◌ t.keyed sum ∙ sym (missed laws log c)))

  -- what an answer that the formula gives tells
  pub total-told : (table : List ℕ) (m w : ℕ) (r : Option ℕ) → r ≡ total_of_table w m table → TotalFromTable same table m w r
  total-told table m w r a = record { formula = footprints laws; answers = a; counted = λ log t l. a ∙ total_of w m log table t l }

  pub misses_told : (table : List ℕ) (m c : ℕ) (r : Option ℕ) → r ≡ misses_of_table c m table → MissesFromTable same table m c r
  misses_told table m c r a = record { formula = missed laws; answers = a; simulated = λ log t. a ∙ misses_of c m log table t }

module _ {K L : Type 0} {same : K → K → Bool} {like : L → L → Bool} (laws : Lawful same) (laws' : Lawful like) where
  -- equal tables, equal totals
  pub tables_tell : (p : List K) (q : List L) (one other : List ℕ) → TableOf (gap_count same) p one → TableOf (gap_count like) q other →
      (one ≡ other) ↔ ((length p ≡ length q) × SameTotals same p like q)
  tables_tell p q one other s t = (
    λ e.
        let n : length p ≡ length q = let l = ap length e in omega (arith, s.long, t.long) in
        let gaps : SameGaps same p like q = λ i l. sym (s.counts i l) ∙ ap (λ xs. get_or xs i 0) e ∙ t.counts i (omega arith) in
        (n, (tell laws laws' p q n).1 gaps),
    λ h.
        let gaps = (tell laws laws' p q h.0).0 h.1 in
        ext_get_or 0 one other (omega (arith, s.long, t.long, h.0))
        (λ i l. let m : i ≤ length p = omega (arith, s.long) in s.counts i m ∙ gaps i m ∙ sym (t.counts i (omega (arith, h.0)))),
  )

  -- what comparing two tables tells
  pub equal_tables_tell : (one other : List ℕ) (r : Bool) → r ≡ pointwise eqb one other → TablesTellTotals same like one other r
  equal_tables_tell one other r e =
      let d : Decides r (one ≡ other) = slice_eq-Decides Decides-eqb one other r e in
      record {
        theorem = tell laws laws';
        answers = (d.0, d.1);
        told = λ p q s t. let h = tables_tell p q one other s t in (λ y. h.0 (d.0 y), λ m. d.1 (h.1 m));
      }
