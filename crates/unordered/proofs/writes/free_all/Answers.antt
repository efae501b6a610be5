use Rattle.std.proofs.Common.{ap, ◌∙◌, ◌++◌, drop}
use Rattle.recency.specs.Rules.{places_in}
use Rattle.recency.specs.ByTime.{by_time}
use Rattle.unordered.specs.Shown.{list_in}
use Rattle.unordered.proofs.Places.{all_freed, freed_places}
use Rattle.unordered.proofs.Calls.{empty-kept}
use Rattle.unordered.proofs.writes.free_all.Goals as goal

pub returns-clause-slots : goal.returns-clause-slots
returns-clause-slots g c =
    let S = c.args.slots.now in
    let n = c.places_in-n.result in
    all_freed S (c.free.new.slots ++ drop n S) n c.places_in-n.ensures (ap (λ L. L ++ drop n S) c.free.ensures)

pub returns-clause-list : goal.returns-clause-list
returns-clause-list g c = ap list_in (returns-clause-slots g c) ∙ ap by_time (freed_places c.args.slots.now)

pub returns-clause-sound : goal.returns-clause-sound
returns-clause-sound g c =
    let S' = c.free.new.slots ++ drop c.places_in-n.result c.args.slots.now in
    empty-kept g.met.K.Key.lawful (places_in S') (list_in S') (returns-clause-list g c)
