-- A touch and a put back, by the index at which a search stops. Assumes nothing.
use Rattle.std.proofs.Common.{◌≡◌, ℕ, zero, suc, ◌+◌, ◌<◌, ◌≤◌, Bool, true, false, ltb, leb, List, [], ◌∷◌, ◌++◌, length, get_or, take, drop, Some, None, sym, refl, ap, ◌∙◌, ap₂, ⊎_elim, add-one, arith}
use Rattle.std.specs.List.{position_or_len}
use Rattle.std.proofs.lemmas.Bool.{cases_Bool, cases_lt, lt-ltb, le-ltb, lt-leb, le-leb, eq-eqb, ne_eqb, cond-false}
use Rattle.keys.specs.Sameness.{Lawful}
use Rattle.locality.specs.declared.entry.Entry.{Entry}
use Rattle.locality.specs.Log.{held}
use Rattle.locality.specs.Recency.{at_time, keys, placed, put_back, deeper, stored, found, touched}
use Rattle.locality.proofs.Finds.{without_at}
use Rattle.locality.proofs.Recency.{found_is}
use Rattle.locality.proofs.Sameness.{stored_absent, others_absent}

module _ {K : Type 0} (same : K → K → Bool) (k : K) where
  -- an entry has the key
  abbrev pub has_key : Entry K → Bool
  has_key e = same k e.key

  -- the search stops within the list exactly when the key is held
  pub held-index : (es : List (Entry K)) → ltb (position_or_len has_key es) (length es) ≡ held same k (keys es)
  held-index [] = refl
  held-index (e ∷ es) = let r = held-index es in grind arith

  pub found_at : (es : List (Entry K)) (i : ℕ) (x : Entry K) → position_or_len has_key es ≡ i → i < length es → x ≡ get_or es i x → found same k es ≡ Some (i + 1, x.time)
  found_at [] i x e h r = absurd (omega arith)
  found_at (y ∷ es) zero x e h r =
      ⊎_elim
      (λ (t : same k y.key ≡ true). rw t (ap (λ z. Some (1, z.time)) (sym r)))
      (λ (t : same k y.key ≡ false). let f : 1 + position_or_len has_key es ≡ 0 = rw t at e in absurd (omega arith))
      (cases_Bool (same k y.key))
  found_at (y ∷ es) (suc i) x e h r =
      ⊎_elim
      (λ (t : same k y.key ≡ true). let f : 0 ≡ suc i = rw t at e in absurd (omega arith))
      (λ (t : same k y.key ≡ false).
      let f : 1 + position_or_len has_key es ≡ suc i = rw t at e in
      let n : suc (i + 1) ≡ suc i + 1 = omega arith in
      rw t (ap deeper (found_at es i x (omega arith) (omega arith) r) ∙ ap (λ m. Some (m, x.time)) n))
      (cases_Bool (same k y.key))

  stored_at : (es : List (Entry K)) (i : ℕ) (x : Entry K) → position_or_len has_key es ≡ i → i < length es → x ≡ get_or es i x → stored same k (keys es) ≡ x.key
  stored_at [] i x e h r = absurd (omega arith)
  stored_at (y ∷ es) zero x e h r =
      ⊎_elim
      (λ (t : same k y.key ≡ true). rw t (ap (λ z. z.key) (sym r)))
      (λ (t : same k y.key ≡ false). let f : 1 + position_or_len has_key es ≡ 0 = rw t at e in absurd (omega arith))
      (cases_Bool (same k y.key))
  stored_at (y ∷ es) (suc i) x e h r =
      ⊎_elim
      (λ (t : same k y.key ≡ true). let f : 0 ≡ suc i = rw t at e in absurd (omega arith))
      (λ (t : same k y.key ≡ false). let f : 1 + position_or_len has_key es ≡ suc i = rw t at e in rw t (stored_at es i x (omega arith) (omega arith) r))
      (cases_Bool (same k y.key))

  -- a touch of a key found at index i
  pub touched_at : (t : ℕ) (es : List (Entry K)) (i : ℕ) (x : Entry K) → position_or_len has_key es ≡ i → i < length es → x ≡ get_or es i x → touched same k t es ≡ at_time x.key t ∷ (take i es ++ drop (i + 1) es)
  touched_at t es i x e h r =
      ap₂ (λ y ys. at_time y t ∷ ys) (stored_at es i x e h r) (sym (without_at has_key es i e h)) ∙ ap (λ j. at_time x.key t ∷ (take i es ++ drop j es)) (sym (add-one i))

  -- of a key that is not held
  pub found_absent : (es : List (Entry K)) → held same k (keys es) ≡ false → found same k es ≡ None
  found_absent es h = found_is same k es ∙ cond-false (held same k (keys es)) _ None h

  pub touched_absent : Lawful same → (t : ℕ) (es : List (Entry K)) → held same k (keys es) ≡ false → touched same k t es ≡ at_time k t ∷ es
  touched_absent laws t es h = ap₂ (λ y ys. at_time y t ∷ ys) (stored_absent laws k (keys es) h) (others_absent laws k es h)

-- an entry goes behind the later ones
pub placed_at : {K : Type 0} (e : Entry K) (es : List (Entry K)) →
    placed e es ≡ take (position_or_len (λ x. leb x.time e.time) es) es ++ e ∷ drop (position_or_len (λ x. leb x.time e.time) es) es
placed_at e [] = refl
placed_at {K = K} e (x ∷ xs) =
    ⊎_elim
    (λ (l : e.time < x.time).
    let n : 1 + position_or_len (λ y. leb y.time e.time) xs ≡ suc (position_or_len (λ y. leb y.time e.time) xs) = omega arith in
    rw (lt-ltb e.time x.time l, lt-leb x.time e.time l, n) (ap {B = List (Entry K)} (λ ys. x ∷ ys) (placed_at e xs)))
    (λ (l : x.time ≤ e.time). rw (le-ltb e.time x.time l, le-leb x.time e.time l))
    (cases_lt e.time x.time)

-- a put back: the front entry goes, or goes behind the later ones with its new time
pub back_zero : {K : Type 0} (t : ℕ) (es : List (Entry K)) → t ≡ 0 → put_back t es ≡ drop 1 es
back_zero t [] h = refl
back_zero t (e ∷ es) h = rw (eq-eqb t 0 h)

pub back_some : {K : Type 0} (t : ℕ) (es : List (Entry K)) (d : Entry K) (q : ℕ) → (t ≡ 0 → ⊥) → 0 < length es → q ≡ position_or_len (λ x. leb x.time t) (drop 1 es) →
    put_back t es ≡ take q (drop 1 es) ++ at_time (get_or es 0 d).key t ∷ drop q (drop 1 es)
back_some t [] d q h l e = absurd (omega arith)
back_some t (x ∷ es) d q h l e =
    rw (ne_eqb t 0 h) (placed_at (at_time x.key t) es ∙ ap (λ i. take i es ++ at_time x.key t ∷ drop i es) (sym e))
