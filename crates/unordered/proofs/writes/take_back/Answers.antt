use Rattle.std.proofs.Common.{refl, arith}
use Rattle.unordered.proofs.Calls.{back_made, back_owes, none_made}
use Rattle.unordered.proofs.writes.take_back.Goals as goal

pub lower-requires : goal.lower-requires
lower-requires g c = let within = c.in-Some.ensures.within in omega arith

pub returns-in-Some : goal.returns-in-Some
returns-in-Some g c =
    let S = c.args.slots.now in
    let S' = c.lower.new.slots in
    let told = c.in-Some.ensures in
    let slots = back_made c.args.former S S' c.in_places.result.now c.in-Some.at c.in_places.ensures.slots told.within told.taken told.latest c.lower.ensures in
    record { rule = back_owes g.met.K.Key.lawful c.args.former S S' slots; slots = slots }

pub returns-in_default : goal.returns-in_default
returns-in_default g c =
    let S = c.args.slots.now in
    let slots = none_made c.args.former S c.in_places.result.now c.in_places.ensures.slots (c.in_default.ensures.none refl) in
    record { rule = back_owes g.met.K.Key.lawful c.args.former S S slots; slots = slots }
