use Rattle.recency.proofs.Keeps.{peeked, undone_told}
use Rattle.recency.proofs.laws.touch_and_back.Goals as goal

pub returns-clause-undone : goal.returns-clause-undone
returns-clause-undone g c = peeked g.met.S.Key.Key.lawful c.in_ok-answer.ensures.rule c.put_back.ensures.rule c.former_time.ensures

pub returns-clause-law : goal.returns-clause-law
returns-clause-law g c = undone_told g.met.S.Key.Key.lawful

pub returns-in_err-answer-clause-law : goal.returns-in_err-answer-clause-law
returns-in_err-answer-clause-law g c = undone_told g.met.S.Key.Key.lawful
