use Rattle.std.proofs.Common.{◌≡◌, ◌+◌, List, ◌∷◌, ◌++◌, length, get_or, take, drop, sym, refl, ap, ◌∙◌, arith}
use Rattle.std.proofs.lemmas.List.{length-take-le, length-append, length-take, length-drop, take-append-drop, get_or-take, get_or_default}
use Rattle.locality.specs.Cache.{accessed}
use Rattle.locality.proofs.Finds.{index_some, index_none}
use Rattle.locality.proofs.Slices.{moved, fronted}
use Rattle.counting.proofs.Slices.{after_hit, after_miss}
use Rattle.counting.proofs.simulation.Cache.access.Goals as goal

pub returns-in-Some : goal.returns-in-Some
returns-in-Some g c =
    let same = g.K.Key.same in
    let s = c.args.self.now in
    let xs = s.places.now in
    let k = c.args.key.now in
    let n = s.count in
    let ks = take n xs in
    let i = c.in-Some.at in
    let found = index_some (same k) ks i c.in-Some.ensures in
    let len : length ks ≡ n = length-take-le n xs s.within in
    let x = get_or xs i k in
    let at : x ≡ get_or ks i x = sym (get_or-take n xs i k (omega (arith, found.1, len))) ∙ get_or_default ks i k x found.1 in
    let E = x ∷ (take i ks ++ drop (i + 1) ks) in
    let now : E ≡ accessed same (length xs) k ks = after_hit same (length xs) k x ks i found.0 found.2 at in
    let memory : c.bring_forward.new.places ≡ E ++ drop n xs
    = c.bring_forward.ensures k ∙ ap {B = List g.row.K.Denot} (λ l. x ∷ (take i l ++ drop (i + 1) l)) (sym (take-append-drop n xs)) ∙ moved x ks (drop n xs) i found.1 in
    let front = fronted E c.bring_forward.new.places xs n memory (omega (arith, len, length-append (take i ks) (drop (i + 1) ks), length-take i ks, length-drop (i + 1) ks, found.1)) in
    record { hit = sym found.2; keys = front.0 ∙ now; places = front.1; lent = refl }

pub returns-in-None : goal.returns-in-None
returns-in-None g c =
    let same = g.K.Key.same in
    let s = c.args.self.now in
    let ks = take s.count s.places.now in
    let none = (index_none (same c.args.key.now) ks c.in-None.ensures).1 in
    record { hit = sym none; keys = c.admit.ensures.keys ∙ after_miss same (length s.places.now) c.args.key.now ks none; places = c.admit.ensures.places; lent = c.admit.ensures.lent }
