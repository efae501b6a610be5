use Rattle.std.proofs.Common.{◌≡◌, ◌++◌, reverse, drop, string_bytes}
use Rattle.std.specs.List.{flat_map}
use Rattle.cases.specs.Texts.{row_text}
use Rattle.cases.proofs.report.add_rows.Given as goal

abbrev pub invariant-loop-curve : goal.invariant-loop-curve
invariant-loop-curve g l =
    string_bytes l.out ++ flat_map (λ curve. row_text g.K.Key.same curve (reverse l.keys)) (drop l.curve-index l.curve-items)
    ≡ string_bytes l.initial.out ++ flat_map (λ curve. row_text g.K.Key.same curve (reverse l.keys)) l.curve-items
