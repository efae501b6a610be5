use Rattle.std.proofs.Common.{◌≡◌, ℕ, zero, suc, ◌+◌, ◌-◌, ◌*◌, ◌≤◌, get_or, List, ap, ◌∙◌, ap₂, mul-le-mul, arith}
use Rattle.locality.specs.Numbers.{sum_above}
use Rattle.locality.proofs.Sums.{sum_above_more}
use Rattle.locality.proofs.table.Table.weighed.Goals as goal

-- one entry more
more : (xs : List ℕ) (i : ℕ) → sum_above 0 (i - 1) (λ i. (i - 0) * get_or xs i 0) + i * get_or xs i 0 ≡ sum_above 0 (i + 1 - 1) (λ i. (i - 0) * get_or xs i 0)
more xs zero = omega arith
more xs (suc i) =
    let d : suc i ≡ suc i - 0 = omega arith in
    let n : suc i ≡ suc i + 1 - 1 = omega arith in
    ap (λ m. sum_above 0 (suc i - 1) (λ i. (i - 0) * get_or xs i 0) + m * get_or xs (suc i) 0) d ∙ sum_above_more 0 (λ i. (i - 0) * get_or xs i 0) (suc i) (omega arith) ∙ ap (λ m. sum_above 0 m (λ i. (i - 0) * get_or xs i 0)) n

pub loop-i-preserved : goal.loop-i-preserved
loop-i-preserved c =
    let xs = c.args.self.now.entries.now in
    let i = c.loop-i.i in
    let low : i ≤ 4096 = omega arith in
    let fits : c.from.result ≤ 4294967295 = omega arith in
    let small : i * c.from.result ≤ 4096 * 4294967295 = mul-le-mul low fits in
    record {
      bound = omega (arith, c.loop-i.invariant.bound, small);
      part = ap₂ ◌+◌ c.loop-i.invariant.part (ap (λ x. i * x) c.from.ensures) ∙ more xs i;
    }
