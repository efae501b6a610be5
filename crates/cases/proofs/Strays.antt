-- The first byte of a line that is no letter, and the answer that it gets. Assumes nothing.
use Rattle.std.proofs.Common.{◌≡◌, ℕ, ◌+◌, ◌≤◌, not, cond, Bool, true, false, List, [], ◌∷◌, length, Some, None, position, refl, ap₂, arith}
use Rattle.std.specs.Char.{is_ascii_alphabetic}
use Rattle.std.specs.List.{prefix_len}
use Rattle.std.proofs.lemmas.Grind.{common_steps}
use Rattle.cases.specs.Texts.{answer_to, stray_text, burst_text}

-- a test that is turned twice
not_not : (b : Bool) → not (not b) ≡ b
not_not true = refl
not_not false = refl

-- as many elements pass it as pass the test itself
twice_turned : {X : Type 0} (p : X → Bool) (xs : List X) → prefix_len (λ x. not (not (p x))) xs ≡ prefix_len p xs
twice_turned p [] = refl
twice_turned p (x ∷ xs) = ap₂ (λ b n. cond b (1 + n) 0) (not_not (p x)) (twice_turned p xs)

-- where a byte is no letter, it is named by its position from 1
pub strayed : (line : List ℕ) (i : ℕ) → length line ≤ 128 → Some i ≡ position (λ b. not (is_ascii_alphabetic b)) line → answer_to line ≡ stray_text line (i + 1)
strayed line i short found = let e = twice_turned is_ascii_alphabetic line in grind (arith, common_steps, e)

-- else the line is a burst
pub measured : (line : List ℕ) → length line ≤ 128 → None ≡ position (λ b. not (is_ascii_alphabetic b)) line → answer_to line ≡ burst_text line
measured line short found = let e = twice_turned is_ascii_alphabetic line in grind (arith, common_steps, e)
