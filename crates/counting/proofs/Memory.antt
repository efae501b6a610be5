-- A cache in the front of a slice. Assumes nothing.
use Rattle.std.proofs.Common.{◌≡◌, ℕ, ◌-◌, ◌<◌, ◌≤◌, min, List, [], ◌∷◌, length, take, sym, ap, ◌∙◌, ⊎_elim, arith}
use Rattle.std.proofs.lemmas.List.{length-take, take_all, take-take}
use Rattle.std.proofs.lemmas.Bool.{cases_lt}

module _ {X : Type 0} where
  -- a key in front of the first n, cut to the length of the slice
  pub cut : (k : X) (xs : List X) (n m : ℕ) → 1 ≤ length xs → n ≤ length xs → m ≡ min n (length xs - 1) → take (length xs) (k ∷ take n xs) ≡ k ∷ take m xs
  cut k [] n m l h e = absurd (omega arith)
  cut k (x ∷ xs) n m l h e =
      let c = length xs in
      ap {B = List X} (λ l. k ∷ l)
      (⊎_elim
      (λ (q : c < n). let f : m ≡ c = omega arith in take-take c n (x ∷ xs) (omega arith) ∙ ap (λ j. take j (x ∷ xs)) (sym f))
      (λ (q : n ≤ c). let f : m ≡ n = omega arith in take_all c (take n (x ∷ xs)) (omega (arith, length-take n (x ∷ xs))) ∙ ap (λ j. take j (x ∷ xs)) (sym f))
      (cases_lt c n))
