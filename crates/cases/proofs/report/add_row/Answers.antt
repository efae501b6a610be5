use Rattle.std.proofs.Common.{◌≡◌, suc, ◌+◌, ◌-◌, arith}
use Rattle.std.proofs.lemmas.Grind.{common_steps}
use Rattle.cases.proofs.report.add_row.Goals as goal

pub loop-i-preserved : goal.loop-i-preserved
loop-i-preserved g c =
    let left : c.last_index-last.result + 1 - c.loop-i.i ≡ suc (c.last_index-last.result + 1 - (c.loop-i.i + 1)) = omega arith in
    grind (arith, common_steps, left)
