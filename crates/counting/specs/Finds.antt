-- What a search from the end of a list finds.
use Rattle.std.specs.Prelude.{◌≡◌, ℕ, ◌<◌, Bool, true, false, List, length, Option, slice_index_or, MatchOption}

-- the index of the last element that passes a test; none where none does
abbrev pub IsLast : {X : Type 0} → (X → Bool) → List X → Option ℕ → Type 0
IsLast {X} passes xs found =
    MatchOption found
    ((j : ℕ) (d : X) → j < length xs → passes (slice_index_or xs j d) ≡ false)
    (λ i. (i < length xs) × ((d : X) → passes (slice_index_or xs i d) ≡ true) × ((j : ℕ) (d : X) → i < j → j < length xs → passes (slice_index_or xs j d) ≡ false))
