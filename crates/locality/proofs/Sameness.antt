-- What the laws of sameness give of held, stored and without. Assumes nothing.
use Rattle.std.proofs.Common.{◌≡◌, ◌+◌, Bool, true, false, cond, ◌||◌, List, [], ◌∷◌, ◌++◌, reverse, sym, refl, ap, ◌∙◌, ap₂, ⊎_elim, arith}
use mathlib.Core.Bool.{false≢true}
use Rattle.std.proofs.lemmas.List.{reverse-append}
use Rattle.std.proofs.lemmas.List.Folds.{list_any-append}
use Rattle.std.proofs.lemmas.List.Sorted.{IsPermutation-reverse, list_any-IsPermutation}
use Rattle.std.proofs.lemmas.Bool.{cases_Bool}
use Rattle.std.specs.List.{AllByRecursion}
use Rattle.keys.specs.Sameness.{Lawful}
use Rattle.locality.specs.Log.{held, distinct}
use Rattle.locality.specs.Recency.{without, stored, keys, others}
use Rattle.locality.specs.declared.entry.Entry.{Entry}

pub same_test : (p q : Bool) → (p ≡ true → q ≡ true) → (q ≡ true → p ≡ true) → p ≡ q
same_test true q f g = sym (f refl)
same_test false true f g = g refl
same_test false false f g = refl

-- what holds of every element holds without one
pub all_without : {X : Type 0} (P : X → Type 0) (passes : X → Bool) (xs : List X) → AllByRecursion P xs → AllByRecursion P (without passes xs)
all_without P passes [] h = h
all_without P passes (x ∷ xs) h =
    let r = all_without P passes xs h.1 in
    ⊎_elim (λ (t : passes x ≡ true). rw t h.1) (λ (t : passes x ≡ false). rw t (h.0, r)) (cases_Bool (passes x))

pub all_both : {X : Type 0} (P Q : X → Type 0) (xs : List X) → AllByRecursion P xs → AllByRecursion Q xs → AllByRecursion (λ x. P x × Q x) xs
all_both P Q [] p q = tt
all_both P Q (x ∷ xs) p q = ((p.0, q.0), all_both P Q xs p.1 q.1)

module _ {K : Type 0} {same : K → K → Bool} (laws : Lawful same) where
  pub flip : (a b : K) → same a b ≡ same b a
  flip a b = same_test _ _ (laws.symmetric a b) (laws.symmetric b a)

  pub left : (a b c : K) → same a b ≡ true → same a c ≡ same b c
  left a b c e = same_test _ _ (laws.transitive b a c (laws.symmetric a b e)) (laws.transitive a b c e)

  pub right : (a b c : K) → same b c ≡ true → same a b ≡ same a c
  right a b c e = flip a b ∙ left b c a e ∙ flip c a

  pub held_same : (a b : K) (xs : List K) → same a b ≡ true → held same a xs ≡ held same b xs
  held_same a b [] e = refl
  held_same a b (x ∷ xs) e = ap₂ ◌||◌ (left a b x e) (held_same a b xs e)

  pub held-reverse : (k : K) (xs : List K) → held same k (reverse xs) ≡ held same k xs
  held-reverse k xs = sym (list_any-IsPermutation (same k) xs (reverse xs) (IsPermutation-reverse xs))

  pub stored_same : (k : K) (xs : List K) → same k (stored same k xs) ≡ true
  stored_same k [] = laws.reflexive k
  stored_same k (x ∷ xs) = let r = stored_same k xs in grind arith

  pub stored_absent : (k : K) (xs : List K) → held same k xs ≡ false → stored same k xs ≡ k
  stored_absent k [] h = refl
  stored_absent k (x ∷ xs) h = let r : held same k xs ≡ false → stored same k xs ≡ k = stored_absent k xs in grind arith

  -- what holds of every key of a list holds of the stored one
  pub stored_all : (P : K → Type 0) (k : K) (xs : List K) → AllByRecursion P xs → held same k xs ≡ true → P (stored same k xs)
  stored_all P k [] h y = absurd (false≢true y)
  stored_all P k (x ∷ xs) h y =
      let r : held same k xs ≡ true → P (stored same k xs) = stored_all P k xs h.1 in
      ⊎_elim
      (λ (t : same k x ≡ true). rw t h.0)
      (λ (t : same k x ≡ false). let q = r (rw t at y) in rw t q)
      (cases_Bool (same k x))

  pub stored-append : (k : K) (xs ys : List K) → stored same k (xs ++ ys) ≡ cond (held same k xs) (stored same k xs) (stored same k ys)
  stored-append k [] ys = refl
  stored-append k (x ∷ xs) ys = let r = stored-append k xs ys in grind arith

  -- a is another key than k
  pub held-without : (a k : K) (xs : List K) → same a k ≡ false → held same a (without (same k) xs) ≡ held same a xs
  held-without a k [] e = refl
  held-without a k (x ∷ xs) e =
      let r = held-without a k xs e in
      let l : same k x ≡ true → same a k ≡ same a x = right a k x in
      grind arith

  pub others_absent : (k : K) (es : List (Entry K)) → held same k (keys es) ≡ false → others same k es ≡ es
  others_absent k [] h = refl
  others_absent k (e ∷ es) h = let r : held same k (keys es) ≡ false → others same k es ≡ es = others_absent k es in grind arith

  pub keys-others : (k : K) (es : List (Entry K)) → keys (others same k es) ≡ without (same k) (keys es)
  keys-others k [] = refl
  keys-others k (e ∷ es) = let r = keys-others k es in grind arith

  -- counting different keys from either end
  pub distinct_push : (k : K) (xs : List K) → distinct same (xs ++ (k ∷ [])) ≡ cond (held same k xs) 0 1 + distinct same xs
  distinct_push k [] = refl
  distinct_push k (x ∷ xs) =
      let r = distinct_push k xs in
      let a = list_any-append (same x) xs (k ∷ []) in
      let f = flip k x in
      let l : same x k ≡ true → held same x xs ≡ held same k xs = held_same x k xs in
      grind arith

  pub distinct-reverse : (xs : List K) → distinct same (reverse xs) ≡ distinct same xs
  distinct-reverse [] = refl
  distinct-reverse (x ∷ xs) =
      let r = distinct-reverse xs in
      let h = held-reverse x xs in
      let p = distinct_push x (reverse xs) in
      ap (distinct same) (reverse-append (x ∷ []) xs) ∙ grind arith
