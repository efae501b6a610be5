-- The laws of sameness: over any block size, and of objects. Assumes nothing.
use Rattle.std.specs.Prelude.{ℕ}
use Rattle.std.proofs.Common.{rules}
use Rattle.keys.specs.Sameness.{Lawful}
use Rattle.keys.specs.Blocks.{one_block}
use Rattle.keys.specs.Objects.{one_object}

-- a kind whose keys have byte addresses and are the same within one block, of whatever size
pub in_blocks : {K : Type 0} (size : ℕ) (address : K → ℕ) → Lawful (λ (x y : K). one_block size (address x) (address y))
in_blocks size address = search rules

-- objects, the same where both numbers are equal
pub of_objects : Lawful one_object
of_objects = search rules
