use Rattle.std.proofs.Common.{◌≡◌, ◌+◌, ◌-◌, length, sym, ap, ◌∙◌, ap₂, arith}
use Rattle.locality.specs.Numbers.{sum_over}
use Rattle.locality.specs.ByPosition.{positions}
use Rattle.counting.specs.Shares.{share_of}
use Rattle.counting.proofs.Slices.{sum_more, gap_slice}
use Rattle.counting.proofs.gaps.gap_count.Goals as goal

pub loop-at-preserved : goal.loop-at-preserved
loop-at-preserved g c =
    let f = share_of g.K.Key.same c.args.keys.now c.args.size in
    let at : c.loop-at.at ≡ c.loop-at.at - 1 + 1 = omega arith in
    let after : c.loop-at.at - 1 + 1 ≡ c.loop-at.at + 1 - 1 = omega arith in
    record {
      near = omega arith;
      bound = omega (arith, c.loop-at.invariant.bound);
      counted = ap₂ ◌+◌ c.loop-at.invariant.counted (c.from-count.ensures ∙ c.share.ensures ∙ ap f at) ∙ sym (sum_more f (c.loop-at.at - 1)) ∙ ap (λ n. sum_over f (positions n)) after;
    }

pub returns-2 : goal.returns-2
returns-2 g c =
    let f = share_of g.K.Key.same c.args.keys.now c.args.size in
    let at : c.loop-at.at ≡ c.loop-at.at - 1 + 1 = omega arith in
    let all : c.loop-at.at - 1 + 1 ≡ length c.args.keys.now = omega arith in
    ap₂ ◌+◌ c.loop-at.invariant.counted (c.from-count.ensures ∙ c.share.ensures ∙ ap f at) ∙ sym (sum_more f (c.loop-at.at - 1)) ∙ ap (λ n. sum_over f (positions n)) all
    ∙ gap_slice g.met.K.Key.lawful c.args.keys.now c.args.size
