use Rattle.std.proofs.Common.{◌≡◌, ◌+◌, ◌-◌, ◌++◌, reverse, string_bytes}
use Rattle.std.specs.List.{range_with_len, flat_map}
use Rattle.cases.specs.Texts.{cell_text}
use Rattle.cases.specs.Values.{value_of}
use Rattle.cases.proofs.report.add_row.Given as goal

-- what is written and what is left make the whole row
abbrev pub invariant-loop-i : goal.invariant-loop-i
invariant-loop-i g l =
    string_bytes l.out ++ flat_map (λ i. cell_text (value_of g.K.Key.same l.curve i (reverse l.keys))) (range_with_len l.i (l.last + 1 - l.i))
    ≡ string_bytes l.initial.out ++ flat_map (λ i. cell_text (value_of g.K.Key.same l.curve i (reverse l.keys))) (range_with_len l.initial.i (l.last + 1 - l.initial.i))
