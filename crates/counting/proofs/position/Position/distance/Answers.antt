use Rattle.std.proofs.Common.{◌≡◌, ◌-◌, false, eqb, take, drop, Some, sym, ap, ◌∙◌, arith}
use Rattle.locality.specs.Log.{distinct}
use Rattle.locality.specs.ByPosition.{window}
use Rattle.counting.proofs.Slices.{distance_from}
use Rattle.counting.proofs.position.Position.distance.Goals as goal

pub returns-in_err-former : goal.returns-in_err-former
returns-in_err-former g c =
    let p = c.args.self.now in
    c.from_residual.ensures ∙ sym (distance_from g.met.K.Key.lawful p.keys.now p.at 0 p.within (sym c.in_err-former.ensures))

pub returns : goal.returns
returns g c =
    let same = g.K.Key.same in
    let p = c.args.self.now in
    let f = c.in_ok-former.field-0 in
    let z : eqb f 0 ≡ false = grind (arith, c.in_ok-former.ensures) in
    let many : p.at - 1 - (f - 1) ≡ p.at - f = omega (arith, c.in_ok-former.ensures) in
    let d : c.distinct_keys.result ≡ distinct same (window (p.at - f) f p.keys.now) = c.distinct_keys.ensures.slice ∙ ap (λ n. distinct same (take n (drop (f - 1) p.keys.now))) many in
    ap Some d ∙ sym (distance_from g.met.K.Key.lawful p.keys.now p.at f p.within (sym c.in_ok-former.ensures.0) ∙ rw z)
