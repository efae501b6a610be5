use Rattle.std.proofs.Common.{refl, arith}
use Rattle.std.proofs.lemmas.Grind.{common_steps}
use Rattle.ordered.proofs.Calls.{touch_owes, admitted}
use Rattle.ordered.proofs.store.Ordered.touch_other.Goals as goal

pub returns-clause-always : goal.returns-clause-always
returns-clause-always g c =
    admitted c.args.self.now _ refl g.met.K.Key.lawful c.args.key c.args.time c.requires.absent c.requires.free c.admit-self.ensures.slots c.admit-self.ensures.count

pub returns-clause-rule : goal.returns-clause-rule
returns-clause-rule g c = touch_owes g.met.K.Key.lawful (grind (arith, common_steps)) (returns-clause-always g c)
