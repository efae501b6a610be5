-- The gaps that a position has part in.
use Rattle.std.specs.Prelude.{ℕ, suc, ◌+◌, ◌-◌, Bool, if◌then◌else◌, List, length, ◌==◌}
use Rattle.locality.specs.Numbers.{is_number}
use Rattle.locality.specs.ByPosition.{same_at, greatest, former_of}

-- how many gaps of length i position t has: back to the former position, or to 0 at a key's first access,
-- and at a key's last position on to n + 1
abbrev pub share_of : {K : Type 0} → (K → K → Bool) → List K → ℕ → ℕ → ℕ
share_of same xs i t =
    is_number i (t - former_of same xs t)
    + (if greatest (same_at same xs t) (length xs) == t then is_number i (suc (length xs) - t) else 0)
