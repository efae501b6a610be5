-- Slices of which the front is in use.
use Rattle.std.specs.Prelude.{List, ◌++◌, length, drop}

-- a list in the front of a slice, and behind it what the slice held before
abbrev pub in_front : {X : Type 0} → List X → List X → List X
in_front xs slots = xs ++ drop (length xs) slots
