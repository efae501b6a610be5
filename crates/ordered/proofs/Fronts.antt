-- A list at the front of a slice, and what moves make of it. Assumes nothing.
use Rattle.std.proofs.Common.{◌≡◌, ℕ, suc, zero, ◌+◌, ◌<◌, ◌≤◌, List, [], ◌∷◌, ◌++◌, length, get_or, take, drop, set, add-one, sym, ap, ◌∙◌, ap₂, arith}
use Rattle.std.proofs.lemmas.List.{append_assoc, length-take, take-append-drop, take-append-le, drop-append-le, set_at}
use Rattle.std.proofs.Math.Seq.{drop-cons}
use Rattle.std.proofs.lemmas.Grind.{common_steps}
use Rattle.locality.specs.Slices.{in_front}
use Rattle.locality.proofs.Slices.{moved, front_cut}

module _ {X : Type 0} where
  -- an element of the rest, written where the rest begins
  pub set_first : (xs S : List X) (n : ℕ) (y : X) → length xs ≡ n → n < length S → set (xs ++ drop n S) n y ≡ xs ++ y ∷ drop (n + 1) S
  set_first xs S n y h l = rw (add-one, drop-cons S n y) (set_at xs (get_or S n y) (drop (suc n) S) y n h)

  -- a front, and behind it what is left of the slice
  whole : (n : ℕ) (S : List X) → take n S ++ drop (length (take n S)) S ≡ S
  whole n S = ap (λ E. E ++ drop (length (take n S)) S) (sym (front_cut n S (length (take n S)) (omega (arith, length-take n S)))) ∙ take-append-drop (length (take n S)) S

  -- one element of the front comes first
  pub brought : (x : X) (n : ℕ) (S : List X) (i : ℕ) → i < length (take n S) →
      x ∷ (take i S ++ drop (i + 1) S) ≡ in_front (x ∷ (take i (take n S) ++ drop (i + 1) (take n S))) S
  brought x n S i h =
      let E = take n S in
      let m = moved x E (drop (length E) S) i h in
      let long : length E ≡ length (x ∷ (take i E ++ drop (i + 1) E)) = grind (arith, common_steps) in
      rw (whole n S) at m ∙ ap (λ j. (x ∷ (take i E ++ drop (i + 1) E)) ++ drop j S) long

  -- the first element goes behind the next q, as y
  pub sunk : (y : X) (n : ℕ) (S : List X) (q : ℕ) → q < length (take n S) →
      take q (drop 1 S) ++ y ∷ drop (q + 1) S ≡ in_front (take q (drop 1 (take n S)) ++ y ∷ drop q (drop 1 (take n S))) S
  sunk y zero S q h = absurd (omega arith)
  sunk y (suc n) [] q h = absurd (omega arith)
  sunk y (suc n) (s ∷ S) q h =
      let E = take n S in
      let R = drop (length E) S in
      let m = ap₂ (λ xs ys. xs ++ y ∷ ys) (take-append-le q E R (omega arith)) (drop-append-le q E R (omega arith))
      ∙ sym (append_assoc (take q E) (y ∷ drop q E) R) in
      let long : suc (length E) ≡ length (take q E ++ y ∷ drop q E) = grind (arith, common_steps) in
      ap (λ j. take q S ++ y ∷ drop j (s ∷ S)) (add-one q) ∙ rw (whole n S) at m ∙ ap (λ j. (take q E ++ y ∷ drop q E) ++ drop j (s ∷ S)) long
