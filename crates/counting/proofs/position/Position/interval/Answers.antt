use Rattle.std.proofs.Common.{◌≡◌, false, eqb, sym, ◌∙◌, arith}
use Rattle.counting.proofs.Slices.{interval_from}
use Rattle.counting.proofs.position.Position.interval.Goals as goal

pub returns-in_err-former : goal.returns-in_err-former
returns-in_err-former g c =
    let p = c.args.self.now in
    c.from_residual.ensures ∙ sym (interval_from g.met.K.Key.lawful p.keys.now p.at 0 p.within (sym c.in_err-former.ensures))

pub returns : goal.returns
returns g c =
    let p = c.args.self.now in
    let f = c.in_ok-former.field-0 in
    let z : eqb f 0 ≡ false = grind (arith, c.in_ok-former.ensures) in
    sym (interval_from g.met.K.Key.lawful p.keys.now p.at f p.within (sym c.in_ok-former.ensures.0) ∙ rw z)
