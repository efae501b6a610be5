use Rattle.std.proofs.Common.{◌-◌, get_or, ap, rules}
use Rattle.counting.proofs.Slices.{latest}
use Rattle.counting.proofs.position.Position.latest_same.Goals as goal

pub returns : goal.returns
returns g c =
    let p = c.args.self.now in
    let key = get_or p.keys.now (p.at - 1) in
    let found = latest g.K.Key.same p.keys.now p.at c.args.most (key c.index-self-self.result) c.last_same.result p.some p.within (ap key c.index-self-self.is) c.requires c.last_same.ensures in
    search rules
