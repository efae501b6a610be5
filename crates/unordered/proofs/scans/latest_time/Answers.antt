use Rattle.std.proofs.Common.{◌≡◌, max, rules, tests}
use Rattle.std.specs.List.{fold}
use Rattle.std.proofs.lemmas.Iterator.{YieldsList-from_slice}
use Rattle.std.proofs.lemmas.Iterator.Consumers.{fold_from_yields_List}
use Rattle.unordered.proofs.Places.{latest_most, latest_reached}
use Rattle.unordered.proofs.scans.latest_time.Goals as goal

pub returns : goal.returns
returns g c =
    let es = c.args.places.now in
    let is : c.fold.result ≡ fold (λ t e. max e.time t) 0 es
    = fold_from_yields_List _ (λ t e. max e.time t) 0 c.fold.result c.fold.ensures.ran (YieldsList-from_slice es (cc)) (λ a x b q k. search (rules, tests)) in
    record { most = latest_most es c.fold.result is; reached = latest_reached es c.fold.result is }
