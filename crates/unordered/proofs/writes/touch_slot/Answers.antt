use Rattle.std.proofs.Common.{Ok, Err}
use Rattle.refusals.specs.declared.Refusal.TheVariants.{NoPlace}
use Rattle.unordered.proofs.Calls.{no_place, taken_place, touch_made, touch_owes}
use Rattle.unordered.proofs.writes.touch_slot.Goals as goal

pub returns-in_default : goal.returns-in_default
returns-in_default g c =
    let k = c.args.key in
    let t = c.args.time in
    let S = c.args.slots.now in
    let slots = no_place g.K.Key.same k S t c.in_default.ensures in
    record { rule = touch_owes g.met.K.Key.lawful k t S S (Err NoPlace) slots; slots = slots }

pub touch_place-requires : goal.touch_place-requires
touch_place-requires g c = (taken_place g.K.Key.same c.args.key c.args.slots.now c.in-Some.at c.in-Some.ensures (record { key = c.args.key; time = 0 })).1

pub returns : goal.returns
returns g c =
    let k = c.args.key in
    let t = c.args.time in
    let S = c.args.slots.now in
    let S' = c.touch_place.new.slots in
    let r = c.touch_place.result in
    let slots = touch_made g.K.Key.same k S t S' c.in-Some.at r c.in-Some.ensures c.touch_place.ensures.first c.touch_place.ensures.again in
    record { rule = touch_owes g.met.K.Key.lawful k t S S' (Ok r) slots; slots = slots }
