use Rattle.std.proofs.Common.{cond, ltb, rules, tests, arith}
use Rattle.std.proofs.lemmas.Iterator.{YieldsList-from_slice, YieldsList-from_map}
use Rattle.std.proofs.lemmas.Iterator.Consumers.{sum_by_from_yields_List}
use Rattle.std.proofs.lemmas.List.Sums.{count_by-le-length}
use Rattle.unordered.proofs.scans.later_than.Goals as goal

pub returns-clause-most : goal.returns-clause-most
returns-clause-most g c =
    let es = c.args.places.now in
    let t = c.args.time in
    omega (
      arith,
      sum_by_from_yields_List (λ e. cond (ltb t e.time) 1 0) es c.map.result c.sum.result c.sum.ensures.ran
          (YieldsList-from_map _ _ (YieldsList-from_slice es (cc)) c.map.ensures.closure (λ x r q k. search (rules, tests))),
      count_by-le-length (λ e. ltb t e.time) es,
    )
