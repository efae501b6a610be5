use Rattle.std.proofs.Common.{◌≡◌, suc, ◌-◌, length, reverse, ap, ◌∙◌, rules}
use Rattle.std.proofs.lemmas.List.{length-reverse}
use Rattle.locality.specs.Log.{windows}
use Rattle.locality.proofs.Totals.{windows_count}
use Rattle.counting.proofs.windows.window_count.Goals as goal

pub returns : goal.returns
returns g c =
    let xs = c.args.keys.now in
    let n : length (windows c.args.window (reverse xs)) ≡ suc (length xs) - c.args.window = windows_count c.args.window (reverse xs) ∙ ap (λ m. suc m - c.args.window) (length-reverse xs) in
    rw n (search rules)
