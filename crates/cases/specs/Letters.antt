-- Letters as keys.
use Rattle.std.specs.Prelude.{ℕ, Bool, ◌==◌}
use Rattle.cases.specs.declared.letters.Letter.{Letter}

-- two letter keys have equal codes
abbrev pub one_letter : Letter → Letter → Bool
one_letter x y = x.code == y.code

-- the key of a byte
abbrev pub as_letter : ℕ → Letter
as_letter b = record { code = b }
