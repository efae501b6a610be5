use Rattle.std.proofs.Common.{refl, arith}
use Rattle.std.proofs.lemmas.Grind.{common_steps}
use Rattle.ordered.proofs.Calls.{touch_owes, renewed}
use Rattle.locality.specs.Recency.{at_time}
use Rattle.ordered.proofs.store.Ordered.touch_held.Goals as goal

pub returns-clause-always : goal.returns-clause-always
returns-clause-always g c =
    let d = at_time c.args.key c.args.time in
    renewed c.args.self.now _ refl c.args.key c.args.time c.args.at d c.renew.result c.requires (c.renew.ensures.told d) (c.renew.ensures.slots d) refl

pub returns-clause-rule : goal.returns-clause-rule
returns-clause-rule g c = touch_owes g.met.K.Key.lawful (grind (arith, common_steps)) (returns-clause-always g c)
