-- The first element of a list that passes a test, by its index. Assumes nothing.
use Rattle.std.proofs.Common.{◌≡◌, ℕ, zero, suc, ◌+◌, ◌<◌, ◌≤◌, Bool, true, false, ltb, List, [], ◌∷◌, ◌++◌, length, get_or, take, drop, Some, None, sym, refl, ap, ◌∙◌, ⊎_elim, arith}
use Rattle.std.proofs.lemmas.Bool.{cases_Bool, ltb-true, ltb-false, cond-true, cond-false}
use Rattle.std.specs.List.{AllByRecursion, position_or_len, position, list_any}
use Rattle.locality.specs.Recency.{first_where, without}

module _ {X : Type 0} (passes : X → Bool) where
  -- where none is found, none passes
  pub none_passes : (xs : List X) → length xs ≤ position_or_len passes xs → AllByRecursion (λ x. passes x ≡ false) xs
  none_passes [] h = tt
  none_passes (x ∷ xs) h =
      ⊎_elim
      (λ (t : passes x ≡ true). let h' : suc (length xs) ≤ 0 = rw t at h in absurd (omega arith))
      (λ (t : passes x ≡ false). let h' : suc (length xs) ≤ 1 + position_or_len passes xs = rw t at h in (t, none_passes xs (omega arith)))
      (cases_Bool (passes x))

  pub first_at : (d x : X) (xs : List X) (i : ℕ) → position_or_len passes xs ≡ i → i < length xs → x ≡ get_or xs i x → x ≡ first_where passes d xs
  first_at d x [] i e h r = absurd (omega arith)
  first_at d x (y ∷ xs) zero e h r =
      ⊎_elim
      (λ (t : passes y ≡ true). rw t r)
      (λ (t : passes y ≡ false). let f : 1 + position_or_len passes xs ≡ 0 = rw t at e in absurd (omega arith))
      (cases_Bool (passes y))
  first_at d x (y ∷ xs) (suc i) e h r =
      ⊎_elim
      (λ (t : passes y ≡ true). let f : 0 ≡ suc i = rw t at e in absurd (omega arith))
      (λ (t : passes y ≡ false). let f : 1 + position_or_len passes xs ≡ suc i = rw t at e in rw t (first_at d x xs i (omega arith) (omega arith) r))
      (cases_Bool (passes y))

  pub without_at : (xs : List X) (i : ℕ) → position_or_len passes xs ≡ i → i < length xs → take i xs ++ drop (suc i) xs ≡ without passes xs
  without_at [] i e h = absurd (omega arith)
  without_at (y ∷ xs) zero e h =
      ⊎_elim
      (λ (t : passes y ≡ true). rw t)
      (λ (t : passes y ≡ false). let f : 1 + position_or_len passes xs ≡ 0 = rw t at e in absurd (omega arith))
      (cases_Bool (passes y))
  without_at (y ∷ xs) (suc i) e h =
      ⊎_elim
      (λ (t : passes y ≡ true). let f : 0 ≡ suc i = rw t at e in absurd (omega arith))
      (λ (t : passes y ≡ false). let f : 1 + position_or_len passes xs ≡ suc i = rw t at e in rw t (ap {B = List X} (λ ys. y ∷ ys) (without_at xs i (omega arith) (omega arith))))
      (cases_Bool (passes y))

  -- an element passes exactly where the first that passes stands within the list
  pub any_first : (xs : List X) → ltb (position_or_len passes xs) (length xs) ≡ list_any passes xs
  any_first [] = refl
  any_first (x ∷ xs) = let r = any_first xs in grind arith

  -- what a search answers, in these words
  pub index_some : (xs : List X) (i : ℕ) → Some i ≡ position passes xs → (position_or_len passes xs ≡ i) × (i < length xs) × (list_any passes xs ≡ true)
  index_some xs i e =
      let p = position_or_len passes xs in
      ⊎_elim
      (λ (t : ltb p (length xs) ≡ true). let e' : Some i ≡ Some p = e ∙ cond-true _ _ _ t in let q : p ≡ i = cc in (q, omega (arith, ltb-true p (length xs) t), sym (any_first xs) ∙ t))
      (λ (t : ltb p (length xs) ≡ false). let e' : Some i ≡ None = e ∙ cond-false _ _ _ t in absurd (cc))
      (cases_Bool (ltb p (length xs)))

  pub index_none : (xs : List X) → None ≡ position passes xs → (length xs ≤ position_or_len passes xs) × (list_any passes xs ≡ false)
  index_none xs e =
      let p = position_or_len passes xs in
      ⊎_elim
      (λ (t : ltb p (length xs) ≡ true). let e' : None ≡ Some p = e ∙ cond-true _ _ _ t in absurd (cc))
      (λ (t : ltb p (length xs) ≡ false). (ltb-false p (length xs) t, sym (any_first xs) ∙ t))
      (cases_Bool (ltb p (length xs)))
