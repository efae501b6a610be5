use Rattle.std.proofs.Common.{◌≡◌, ◌+◌, ◌≤◌, true, false, [], ◌++◌, length, take, drop, sym, refl, ap, ◌∙◌, ap₂, rules, arith}
use Rattle.std.proofs.lemmas.List.{take_all, length-take-le}
use Rattle.std.proofs.lemmas.Slice.{drop-append-drop}
use Rattle.locality.specs.Log.{held}
use Rattle.locality.specs.Cache.{accessed}
use Rattle.locality.specs.Slices.{in_front}
use Rattle.locality.specs.ByPosition.{cache_from, misses_from}
use Rattle.locality.proofs.Slices.{length_in_front}
use Rattle.counting.specs.Memory.{memory_after}
use Rattle.counting.proofs.Slices.{accessed-length, cache_step, misses_step, cache-slice, misses-slice}
use Rattle.counting.proofs.simulation.lru_misses.Goals as goal
use Rattle.counting.proofs.simulation.lru_misses.Goals.{then-not-access, else-not-access}

pub loop-key-preserved : goal.loop-key-preserved
loop-key-preserved g c =
    let same = g.K.Key.same in
    let keys = c.args.keys.now in
    let start = c.args.places.now in
    let room = length start in
    let i = c.loop-key.key-index in
    let x = c.key-item.result in
    let xs = c.loop-key.cache.places.now in
    let ks = take c.loop-key.cache.count xs in
    let inv = c.loop-key.invariant in
    let told = c.access.ensures in
    let after = take c.access.new.self.count c.access.new.self.places.now in
    let next : accessed same (length xs) x ks ≡ cache_from same room [] (take (i + 1) keys) = ap₂ (λ m l. accessed same m x l) inv.room inv.keys ∙ sym (cache_step same room keys i x c.loop-key-test.true c.key-item.is) in
    let grown = accessed-length same (length xs) x ks (omega (arith, length-take-le c.loop-key.cache.count xs c.loop-key.cache.within, c.loop-key.cache.within)) in
    let long = ap length told.keys in
    let behind : drop (length after) xs ≡ drop (length after) start = ap (drop (length after)) inv.memory ∙ drop-append-drop (length ks) start ks (length after) (omega (arith, long, grown.0)) refl in
    let hit : c.access.result ≡ held same x (cache_from same room [] (take i keys)) = told.hit ∙ ap (held same x) inv.keys in
    let more = misses_step same room keys i x c.loop-key-test.true c.key-item.is in
    let missed : (c.if-not-access.missed ≤ i + 1) × (c.if-not-access.missed ≡ misses_from same room [] (take (i + 1) keys))
    = elim c.if-not-access.branch [
      | then-not-access w ↦ let y : held same x (cache_from same room [] (take i keys)) ≡ false = sym hit ∙ w.if-not-access.true in grind (arith, w.missed-is, more, inv.few, inv.missed)
      | else-not-access w ↦ let y : held same x (cache_from same room [] (take i keys)) ≡ true = sym hit ∙ w.if-not-access.false in grind (arith, w.missed-is, more, inv.few, inv.missed)
    ] in
    record {
      few = missed.0;
      missed = missed.1;
      keys = told.keys ∙ next;
      memory = told.places ∙ ap (λ ys. after ++ ys) behind;
      room = ap length told.places ∙ length_in_front after xs (omega (arith, long, grown.1)) ∙ inv.room;
      lent = told.lent ∙ inv.lent;
    }

pub returns-clause-misses : goal.returns-clause-misses
returns-clause-misses g c =
    let room = length c.args.places.now in
    let all = take_all c.loop-key.key-index c.args.keys.now c.loop-key-test.false in
    c.loop-key.invariant.missed ∙ ap (misses_from g.K.Key.same room []) all ∙ sym (misses-slice g.met.K.Key.lawful room c.args.keys.now)

pub returns-clause-places : goal.returns-clause-places
returns-clause-places g c =
    let room = length c.args.places.now in
    let all = take_all c.loop-key.key-index c.args.keys.now c.loop-key-test.false in
    let keys = c.loop-key.invariant.keys ∙ ap (cache_from g.K.Key.same room []) all ∙ sym (cache-slice g.met.K.Key.lawful room c.args.keys.now) in
    let memory : c.loop-key.cache.places.now ≡ memory_after g.K.Key.same c.args.keys.now c.args.places.now = c.loop-key.invariant.memory ∙ ap (λ ks. in_front ks c.args.places.now) keys in
    search rules
