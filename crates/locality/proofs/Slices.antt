-- Slices: elements by their place, and fronts that are in use. Assumes nothing.
use Rattle.std.proofs.Common.{◌≡◌, ℕ, zero, suc, ◌+◌, ◌-◌, ◌<◌, ◌≤◌, min, List, ◌∷◌, ◌++◌, length, get_or, take, drop, Some, sym, refl, ap, ◌∙◌, ap₂, ⊎_elim, arith}
use Rattle.std.proofs.lemmas.List.{append_assoc, length-append, length-drop, take_all, take_at, take-append-le, drop_all, drop-append-le}
use Rattle.std.proofs.lemmas.Option.{slice_get_read}
use Rattle.std.proofs.lemmas.Bool.{cases_lt}
use Rattle.locality.specs.ByPosition.{key_at}
use Rattle.locality.specs.Slices.{in_front}

module _ {X : Type 0} where
  -- the t-th element, as it is read at index t − 1
  pub element_read : (xs : List X) (t : ℕ) (x : X) → 1 ≤ t → t ≤ length xs → x ≡ get_or xs (t - 1) x → key_at xs t ≡ Some x
  element_read xs zero x l h e = absurd (omega arith)
  element_read xs (suc t) x l h e = slice_get_read xs (length xs) t x refl (omega arith) (e ∙ ap (λ i. get_or xs i x) (omega arith))

  -- the front of a slice, cut at the slice's length or at n
  pub front_cut : (n : ℕ) (S : List X) (u : ℕ) → u ≡ min (length S) n → take u S ≡ take n S
  front_cut n S u e =
      ⊎_elim
      (λ (l : length S < n). take_all u S (omega arith) ∙ sym (take_all n S (omega arith)))
      (λ (l : n ≤ length S). let q : u ≡ n = omega arith in ap (λ m. take m S) q)
      (cases_lt (length S) n)

  -- what lies behind the cut
  pub rest_cut : (n : ℕ) (S : List X) (u : ℕ) → u ≡ min (length S) n → drop u S ≡ drop n S
  rest_cut n S u e =
      ⊎_elim
      (λ (l : length S < n). drop_all u S (omega arith) ∙ sym (drop_all n S (omega arith)))
      (λ (l : n ≤ length S). let q : u ≡ n = omega arith in ap (λ m. drop m S) q)
      (cases_lt (length S) n)

  -- moving an element of the front moves nothing behind it
  pub moved : (x : X) (ks rest : List X) (i : ℕ) → i < length ks → x ∷ (take i (ks ++ rest) ++ drop (i + 1) (ks ++ rest)) ≡ (x ∷ (take i ks ++ drop (i + 1) ks)) ++ rest
  moved x ks rest i h =
      ap {B = List X} (λ l. x ∷ l)
      (ap₂ ◌++◌ (take-append-le i ks rest (omega arith)) (drop-append-le (i + 1) ks rest (omega arith)) ∙ sym (append_assoc (take i ks) (drop (i + 1) ks) rest))

  -- a list in the front of a slice, told by what stands behind it
  pub fronted : (E M S : List X) (n : ℕ) → M ≡ E ++ drop n S → length E ≡ n → (take n M ≡ E) × (M ≡ in_front (take n M) S)
  fronted E M S n e l =
      let front : take n M ≡ E = ap (take n) e ∙ take_at E (drop n S) n l in
      (front, e ∙ sym (ap (λ ys. in_front ys S) front ∙ ap (λ m. E ++ drop m S) l))

  pub length_in_front : (E S : List X) → length E ≤ length S → length (in_front E S) ≡ length S
  length_in_front E S h = omega (arith, length-append E (drop (length E) S), length-drop (length E) S)
