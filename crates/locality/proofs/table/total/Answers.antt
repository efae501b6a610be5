use Rattle.std.proofs.Common.{◌≡◌, sum, rules, arith}
use Rattle.std.proofs.lemmas.List.{get_or_default}
use Rattle.std.proofs.lemmas.List.Sums.{sum_by-le}
use Rattle.locality.proofs.table.total.Goals as goal

pub returns : goal.returns
returns c =
    let xs = c.args.counts.now in
    let value : c.sum.result ≡ sum xs = search rules in
    let most = sum_by-le (λ x. x) 4294967295 xs (λ k d h. let e = get_or_default xs k d 0 h in let fits = c.type_inv.counts k in omega arith) in
    record { value = value; bound = omega (arith, value, most, c.requires) }
