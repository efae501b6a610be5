use Rattle.std.proofs.Common.{◌≡◌, true, false, take, sym, ap, ◌∙◌, arith}
use Rattle.std.proofs.lemmas.List.{take_all}
use Rattle.locality.specs.Log.{held, distinct}
use Rattle.locality.proofs.Sameness.{distinct-reverse}
use Rattle.counting.proofs.Slices.{distinct_more}
use Rattle.counting.proofs.windows.distinct_keys.Goals as goal
use Rattle.counting.proofs.windows.distinct_keys.Goals.{then-not-is_held, else-not-is_held}

pub loop-i-preserved : goal.loop-i-preserved
loop-i-preserved g c =
    let same = g.K.Key.same in
    let x = c.index-keys-i.result in
    let before = take c.loop-i.i c.args.keys.now in
    let more = distinct_more g.met.K.Key.lawful c.args.keys.now c.loop-i.i x c.loop-i-test.true c.index-keys-i.is in
    elim c.if-not-is_held.branch [
      | then-not-is_held w ↦ let new : held same x before ≡ false = sym c.is_held.ensures ∙ w.if-not-is_held.true in grind (arith, w.count-is, more, c.loop-i.invariant)
      | else-not-is_held w ↦ let known : held same x before ≡ true = sym c.is_held.ensures ∙ w.if-not-is_held.false in grind (arith, w.count-is, more, c.loop-i.invariant)
    ]

pub returns-clause-log : goal.returns-clause-log
returns-clause-log g c =
    let xs = c.args.keys.now in
    c.loop-i.invariant.1 ∙ ap (distinct g.K.Key.same) (take_all c.loop-i.i xs c.loop-i-test.false) ∙ sym (distinct-reverse g.met.K.Key.lawful xs)
