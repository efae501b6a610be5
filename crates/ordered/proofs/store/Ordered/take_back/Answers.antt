use Rattle.std.proofs.Common.{refl, arith}
use Rattle.std.proofs.lemmas.Grind.{common_steps}
use Rattle.ordered.proofs.Calls.{back_owes, removed, lowered}
use Rattle.ordered.proofs.store.Ordered.take_back.Goals as goal

pub returns-then-former-eq0-clause-always : goal.returns-then-former-eq0-clause-always
returns-then-former-eq0-clause-always g c =
    removed c.args.self.now _ refl c.list.result.now c.list.ensures c.in-len1-up.len_at_least c.args.former c.if-former-eq0.true c.remove-self.ensures.slots c.remove-self.ensures.count

pub returns-then-former-eq0-clause-rule : goal.returns-then-former-eq0-clause-rule
returns-then-former-eq0-clause-rule g c = back_owes g.met.K.Key.lawful (grind (arith, common_steps)) (returns-then-former-eq0-clause-always g c)

pub returns-clause-always : goal.returns-clause-always
returns-clause-always g c =
    lowered c.args.self.now _ refl c.list.result.now c.list.ensures c.in-len1-up.len_at_least c.args.former c.later_ones-at.result c.front-item.result c.front-item.is c.if-former-eq0.false c.later_ones-at.ensures.count c.lower.ensures refl

pub returns-clause-rule : goal.returns-clause-rule
returns-clause-rule g c = back_owes g.met.K.Key.lawful (grind (arith, common_steps)) (returns-clause-always g c)
