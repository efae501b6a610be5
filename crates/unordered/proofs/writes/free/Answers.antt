use Rattle.std.proofs.Common.{set, sym, ap, ◌∙◌, arith}
use Rattle.std.proofs.lemmas.List.Edits.{map_over_more}
use Rattle.locality.specs.Recency.{at_time}
use Rattle.unordered.proofs.writes.free.Goals as goal

pub loop-slot-preserved : goal.loop-slot-preserved
loop-slot-preserved g c =
    let S = c.loop-slot.slots in
    let x = c.slot-item.result in
    ap (λ y. set S c.loop-slot.slot-index (at_time y.key 0)) (sym c.slot-item.is) ∙ map_over_more (λ e. at_time e.key 0) c.args.slots.now S c.loop-slot.slot-index x (omega arith) c.loop-slot.invariant c.slot-item.is
