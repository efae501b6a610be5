use Rattle.std.proofs.Common.{◌+◌, ◌-◌, length, get_or, drop, sym, ap, ◌∙◌, arith, length-drop}
use Rattle.std.proofs.lemmas.List.{take_all}
use Rattle.std.specs.List.{sum}
use Rattle.locality.proofs.Sums.{sum_above_none, sum_above_is}
use Rattle.locality.proofs.table.Table.beyond.Goals as goal

pub returns-in-Some-clause-value : goal.returns-in-Some-clause-value
returns-in-Some-clause-value c =
    let xs = c.args.self.now.entries.now in
    let from = c.args.c + 1 in
    let rest = c.in-Some.ensures.lookup.0.2 ∙ take_all (length xs - from) (drop from xs) (omega (arith, length-drop from xs)) in
    c.total.ensures.value ∙ ap sum rest ∙ sym (sum_above_is c.args.c xs)

pub returns-in-None-clause-value : goal.returns-in-None-clause-value
returns-in-None-clause-value c =
    let xs = c.args.self.now.entries.now in
    sym (sum_above_none c.args.c (λ d. get_or xs d 0) (length xs - 1) (omega (arith, c.in-None.ensures.lookup.0)))
