-- The former position, and the accesses since then: what interval and distance count. Assumes nothing.
use Rattle.std.proofs.Common.{◌≡◌, ℕ, zero, suc, ◌+◌, ◌≤◌, Bool, true, false, cond, ◌&&◌, leb, List, [], ◌∷◌, length, take, Some, None, refl, ap, ◌∙◌, ⊎_elim, arith}
use mathlib.Core.Bool.{false≢true}
use Rattle.std.proofs.lemmas.Bool.{cases_Bool}
use Rattle.locality.specs.Log.{held, distinct, former, back, distance}

module _ {K : Type 0} (same : K → K → Bool) where
  -- the accesses from the former position of k on, or all
  abbrev pub since : K → List K → List K
  since k [] = []
  since k (x ∷ xs) = x ∷ cond (same k x) [] (since k xs)

  pub former-le : (k : K) (past : List K) → former same k past ≤ length past
  former-le k [] = omega arith
  former-le k (x ∷ past) = let r = former-le k past in grind arith

  pub former-held : (k : K) (past : List K) → held same k past ≡ true → 1 ≤ former same k past
  former-held k [] h = absurd (false≢true h)
  former-held k (x ∷ past) h =
      let r : held same k past ≡ true → 1 ≤ former same k past = former-held k past in
      grind arith

  pub former_absent : (k : K) (past : List K) → held same k past ≡ false → former same k past ≡ 0
  former_absent k [] h = refl
  former_absent k (x ∷ past) h = let r : held same k past ≡ false → former same k past ≡ 0 = former_absent k past in grind arith

  pub former-since : (k : K) (past : List K) → held same k past ≡ true → former same k past + length (since k past) ≡ suc (length past)
  former-since k [] h = absurd (false≢true h)
  former-since k (x ∷ past) h =
      let r : held same k past ≡ true → former same k past + length (since k past) ≡ suc (length past) = former-since k past in
      grind arith

  pub back-since : (k : K) (past : List K) → held same k past ≡ true → back same k past ≡ length (since k past)
  back-since k past h = let r = former-since k past h in omega arith

  take-since : (k : K) (past : List K) → take (length (since k past)) past ≡ since k past
  take-since k [] = refl
  take-since k (x ∷ past) =
      let r = take-since k past in
      ⊎_elim
      (λ (t : same k x ≡ true). rw t)
      (λ (t : same k x ≡ false). rw t (ap {B = List K} (λ ys. x ∷ ys) r))
      (cases_Bool (same k x))

  pub take_back : (k : K) (past : List K) → held same k past ≡ true → take (back same k past) past ≡ since k past
  take_back k past h = ap (λ n. take n past) (back-since k past h) ∙ take-since k past

  pub distance-since : (k : K) (past : List K) → distance same k past ≡ cond (held same k past) (Some (distinct same (since k past))) None
  distance-since k past =
      ⊎_elim
      (λ (y : held same k past ≡ true). let t = take_back k past y in rw y (ap (λ xs. Some (distinct same xs)) t))
      (λ (y : held same k past ≡ false). rw y)
      (cases_Bool (held same k past))

  -- k stands among the newest v exactly when its former position lies at most v back
  pub held-take : (k : K) (v : ℕ) (past : List K) → held same k (take v past) ≡ (held same k past && leb (back same k past) v)
  held-take k zero [] = refl
  held-take k (suc v) [] = refl
  held-take k zero (x ∷ past) = let b = former-le k past in grind arith
  held-take k (suc v) (x ∷ past) = let r = held-take k v past in let b = former-le k past in grind arith
