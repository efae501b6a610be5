use Rattle.std.proofs.Common.{◌≡◌, ◌+◌, ◌-◌, ◌*◌, ◌<◌, ◌≤◌, true, false, leb, length, drop, None, sym, ap, ◌∙◌, ap₂, arith, length-drop}
use Rattle.locality.specs.Tables.{is_table, last_entry, difference, beyond, total_of_table}
use Rattle.locality.proofs.Sums.{beyond_from}
use Rattle.locality.proofs.OfTables.{checked_difference, total-told}
use Rattle.locality.proofs.tables.table_total.Goals as goal

pub returns-in_err-of : goal.returns-in_err-of
returns-in_err-of g c =
    let y : is_table c.args.gaps.now ≡ false = c.in_err-of.ensures in
    let a : None ≡ total_of_table c.args.window c.args.keys c.args.gaps.now = rw y in
    total-told g.met.K.Key.lawful _ _ _ _ (c.from_residual.ensures ∙ a)

pub returns-in_err-table : goal.returns-in_err-table
returns-in_err-table g c =
    let xs = c.args.gaps.now in
    let of = c.in_ok-of.ensures in
    let t : is_table xs ≡ true = of.0 in
    let past : length xs ≤ c.args.window = omega (arith, ap length of.1, c.in_err-table.ensures) in
    let y : leb c.args.window (last_entry xs) ≡ false = grind arith in
    let a : None ≡ total_of_table c.args.window c.args.keys xs = rw (t, y) in
    total-told g.met.K.Key.lawful _ _ _ _ (c.from_residual-in_err-table.ensures ∙ a)

pub returns : goal.returns
returns g c =
    let xs = c.args.gaps.now in
    let w = c.args.window in
    let of = c.in_ok-of.ensures in
    let y : is_table xs ≡ true = of.0 in
    let low : w < length xs = omega (arith, ap length of.1, c.in_ok-table.ensures.0) in
    let rest = c.in_ok-table.ensures.1 ∙ ap (drop w) of.1 in
    let l : leb w (last_entry xs) ≡ true = grind arith in
    let n = ap length rest ∙ (let m : length (drop w xs) ≡ last_entry xs - w + 1 = omega (arith, length-drop w xs) in m) in
    let a : c.checked_sub.result ≡ total_of_table w c.args.keys xs
    = rw (y, l)
    (checked_difference c.checked_sub.result _ _ c.checked_sub.ensures
    ∙ ap₂ (λ k m. difference (k * m) c.weighed.result) c.from-2.ensures n
    ∙ ap (difference (c.args.keys * (last_entry xs - w + 1))) (c.weighed.ensures ∙ ap (beyond 0) rest ∙ sym (beyond_from w xs low))) in
    total-told g.met.K.Key.lawful _ _ _ _ a
