use Rattle.std.proofs.Common.{◌+◌, ◌≤◌, ◌∷◌, length, take, set, sym, refl, ap, ◌∙◌, arith}
use Rattle.std.proofs.lemmas.List.{length-take-le}
use Rattle.locality.proofs.Slices.{fronted}
use Rattle.counting.proofs.Memory.{cut}
use Rattle.counting.proofs.simulation.Cache.admit.Goals as goal

pub returns : goal.returns
returns g c =
    let s = c.args.self.now in
    let xs = s.places.now in
    let k = c.args.key.now in
    let m = c.min-last.result in
    let low : m ≤ length xs = omega (arith, c.min-last.ensures, c.in-Some.ensures) in
    let front = fronted {X = g.row.K.Denot} (k ∷ take m xs) (set c.bring_forward.new.places 0 k) xs (m + 1) (ap (λ l. set l 0 k) (c.bring_forward.ensures k)) (omega (arith, length-take-le m xs low)) in
    record {
      keys = front.0 ∙ sym (cut k xs s.count m (omega (arith, c.in-Some.ensures)) s.within (omega (arith, c.min-last.ensures, c.in-Some.ensures)));
      places = front.1;
      lent = refl;
    }
