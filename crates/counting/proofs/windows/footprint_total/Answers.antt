use Rattle.std.proofs.Common.{◌≡◌, ◌≤◌, length, take, sym, ap, ◌∙◌, reverse, arith, length-drop}
use Rattle.locality.specs.Log.{distinct, total}
use Rattle.locality.proofs.Curves.{total_zero}
use Rattle.counting.proofs.Slices.{total_short, total_next}
use Rattle.counting.proofs.windows.footprint_total.Goals as goal

pub returns-then-window-eq0 : goal.returns-then-window-eq0
returns-then-window-eq0 g c = rw c.if-window-eq0.true (sym (total_zero g.met.K.Key.lawful (reverse c.args.keys.now)))

pub loop-keys-preserved : goal.loop-keys-preserved
loop-keys-preserved g c =
    let same = g.K.Key.same in
    let w = c.args.window in
    let inv = c.loop-keys.invariant in
    let R = c.loop-keys.keys-iterator.rest.now in
    let step = c.in-Some.ensures.steps in
    let sized = inv.sized ∙ ap (λ i. i.size) c.into_iter-keys-iterator.ensures.into_iter_gives ∙ c.windows-keys-items.ensures.size in
    let here : c.distinct_keys.result ≡ distinct same (take w R) = c.distinct_keys.ensures.slice ∙ ap (distinct same) (step.1.1 ∙ ap (λ n. take n R) sized) in
    let low : w ≤ length R = omega (arith, step.1.0, sized) in
    let next = total_next g.met.K.Key.lawful w R (omega arith) low in
    let after = ap (λ xs. total same w (reverse xs)) step.1.2 in
    record {
      sized = step.0 ∙ inv.sized;
      bound = omega (arith, inv.bound, c.distinct_keys.type_inv, ap length step.1.2, length-drop 1 R, low);
      left = omega (arith, here, next, after, inv.left);
    }

pub returns : goal.returns
returns g c =
    let inv = c.loop-keys.invariant in
    let start = c.into_iter-keys-iterator.ensures.into_iter_gives in
    let sized = inv.sized ∙ ap (λ i. i.size) start ∙ c.windows-keys-items.ensures.size in
    let whole = ap (λ i. total g.K.Key.same c.args.window (reverse i.rest.now)) start ∙ ap (λ xs. total g.K.Key.same c.args.window (reverse xs)) c.windows-keys-items.ensures.rest in
    let none = total_short g.met.K.Key.lawful c.args.window c.loop-keys.keys-iterator.rest.now (omega (arith, c.in-None.ensures.steps.1.0, sized)) in
    omega (arith, none, inv.left, whole)
