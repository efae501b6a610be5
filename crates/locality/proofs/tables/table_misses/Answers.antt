use Rattle.std.proofs.Common.{◌≡◌, ◌+◌, true, false, Some, None, ap, ◌∙◌, ap₂}
use Rattle.locality.specs.Numbers.{sum_above}
use Rattle.locality.specs.Tables.{is_table, last_entry, misses_of_table}
use Rattle.std.specs.List.{slice_index}
use Rattle.locality.proofs.tables.table_misses.Goals as goal

pub returns-in_err-of : goal.returns-in_err-of
returns-in_err-of c =
    let y : is_table c.args.depths.now ≡ false = c.in_err-of.ensures in
    let a : None ≡ misses_of_table c.args.size c.args.keys c.args.depths.now = rw y in
    c.from_residual.ensures ∙ a

pub returns : goal.returns
returns c =
    let xs = c.args.depths.now in
    let of = c.in_ok-of.ensures in
    let y : is_table xs ≡ true = of.0 in
    let sum = c.beyond.ensures.value ∙ ap (λ es. sum_above c.args.size (last_entry es) (λ d. slice_index es d)) of.1 in
    rw y (ap Some (ap₂ ◌+◌ c.from.ensures sum))
