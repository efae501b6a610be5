-- Depth in the recency list is the distance, and the LRU cache holds the front of the recency list. Assumes nothing.
use Rattle.std.proofs.Common.{◌≡◌, ℕ, zero, suc, ◌+◌, ◌≤◌, Bool, true, false, cond, ◌&&◌, ◌||◌, leb, List, [], ◌∷◌, length, take, Some, sym, refl, ap, ◌∙◌, subst, ap₂, ⊎_elim, arith, take-take}
use mathlib.Core.Bool.{false≢true}
use Rattle.std.proofs.lemmas.Bool.{cases_Bool}
use Rattle.std.proofs.ByRecursion.{All-weaker}
use Rattle.std.specs.List.{AllZip, AllByRecursion}
use Rattle.keys.specs.Sameness.{Lawful}
use Rattle.locality.proofs.Sums.{count_above_table}
use Rattle.locality.proofs.Sameness.{flip, right, stored_same, keys-others}
use Rattle.locality.proofs.Reuse.{since, take_back, distance-since}
use Rattle.locality.proofs.Recency.{depth_of, found_is, held-recent, time_former}
use Rattle.locality.specs.Numbers.{count_above}
use Rattle.locality.specs.Log.{held, distinct, distances, firsts}
use Rattle.locality.specs.Recency.{without, stored, keys, recent}
use Rattle.locality.specs.Cache.{cache, misses}
use Rattle.locality.specs.Statements.{MissesFromDepths, NextFromRecency}

module _ {K : Type 0} {same : K → K → Bool} (laws : Lawful same) where
  -- x stands before the first k
  abbrev before : K → K → List K → Bool
  before x k [] = false
  before x k (y ∷ ys) = cond (same k y) false (same x y || before x k ys)

  before-without : (x k y : K) (r : List K) → same x y ≡ false → same k y ≡ false → before x k (without (same y) r) ≡ before x k r
  before-without x k y [] p q = refl
  before-without x k y (z ∷ zs) p q =
      let r = before-without x k y zs p q in
      let a : same y z ≡ true → same x y ≡ same x z = right laws x y z in
      let b : same y z ≡ true → same k y ≡ same k z = right laws k y z in
      grind arith

  before-recent : (x k : K) (log : List K) → before x k (keys (recent same log)) ≡ before x k log
  before-recent x k [] = refl
  before-recent x k (y ∷ ys) =
      let r = before-recent x k ys in
      let ks = keys (recent same ys) in
      let w = keys-others laws y (recent same ys) in
      let a : same x y ≡ same x (stored same y ks) = right laws x y _ (stored_same laws y ks) in
      let b : same k y ≡ same k (stored same y ks) = right laws k y _ (stored_same laws y ks) in
      let o : same x y ≡ false → same k y ≡ false → before x k (without (same y) ks) ≡ before x k ks = before-without x k y ks in
      grind arith

  before-since : (x k : K) (log : List K) → same x k ≡ false → held same x (since same k log) ≡ before x k log
  before-since x k [] e = refl
  before-since x k (y ∷ ys) e =
      let r = before-since x k ys e in
      let a : same k y ≡ true → same x k ≡ same x y = right laws x k y in
      grind arith

  depth_without : (x k : K) (r : List K) → same x k ≡ false → depth_of same k (without (same x) r) + cond (before x k r) 1 0 ≡ depth_of same k r
  depth_without x k [] e = refl
  depth_without x k (z ∷ zs) e =
      let r = depth_without x k zs e in
      let a : same k z ≡ true → same x k ≡ same x z = right laws x k z in
      grind arith

  -- the depth of a held key in the recency list is its distance
  pub depth_distance : (k : K) (log : List K) → held same k log ≡ true → depth_of same k (keys (recent same log)) ≡ distinct same (since same k log)
  depth_distance k [] h = absurd (false≢true h)
  depth_distance k (x ∷ xs) h =
      let r : held same k xs ≡ true → depth_of same k (keys (recent same xs)) ≡ distinct same (since same k xs) = depth_distance k xs in
      let ks = keys (recent same xs) in
      let w = keys-others laws x (recent same xs) in
      let b : same k x ≡ same k (stored same x ks) = right laws k x _ (stored_same laws x ks) in
      let f = flip laws x k in
      let d : same x k ≡ false → depth_of same k (without (same x) ks) + cond (before x k ks) 1 0 ≡ depth_of same k ks = depth_without x k ks in
      let p = before-recent x k xs in
      let q : same x k ≡ false → held same x (since same k xs) ≡ before x k xs = before-since x k xs in
      grind arith

  held_take_depth : (k : K) (c : ℕ) (r : List K) → held same k (take c r) ≡ (held same k r && leb (depth_of same k r) c)
  held_take_depth k zero [] = refl
  held_take_depth k (suc c) [] = refl
  held_take_depth k zero (x ∷ xs) = grind arith
  held_take_depth k (suc c) (x ∷ xs) = let r = held_take_depth k c xs in grind arith

  -- two lists with same keys place by place
  abbrev Alike : List K → List K → Type 0
  Alike xs ys = AllZip (λ x y. same x y ≡ true) xs ys

  held-alike : (k : K) (xs ys : List K) → Alike xs ys → held same k xs ≡ held same k ys
  held-alike k [] [] h = refl
  held-alike k [] (y ∷ ys) h = absurd h
  held-alike k (x ∷ xs) [] h = absurd h
  held-alike k (x ∷ xs) (y ∷ ys) h = ap₂ ◌||◌ (right laws k x y h.0) (held-alike k xs ys h.1)

  without-alike : (k : K) (xs ys : List K) → Alike xs ys → Alike (without (same k) xs) (without (same k) ys)
  without-alike k [] [] h = h
  without-alike k [] (y ∷ ys) h = absurd h
  without-alike k (x ∷ xs) [] h = absurd h
  without-alike k (x ∷ xs) (y ∷ ys) h =
      let r = without-alike k xs ys h.1 in
      let e = right laws k x y h.0 in
      ⊎_elim
      (λ (t : same k x ≡ true). let t' : same k y ≡ true = sym e ∙ t in rw (t, t') h.1)
      (λ (t : same k x ≡ false). let t' : same k y ≡ false = sym e ∙ t in rw (t, t') (h.0, r))
      (cases_Bool (same k x))

  take-alike : (c : ℕ) (xs ys : List K) → Alike xs ys → Alike (take c xs) (take c ys)
  take-alike zero xs ys h = tt
  take-alike (suc c) [] [] h = tt
  take-alike (suc c) [] (y ∷ ys) h = h
  take-alike (suc c) (x ∷ xs) [] h = h
  take-alike (suc c) (x ∷ xs) (y ∷ ys) h = (h.0, take-alike c xs ys h.1)

  without-take : (k : K) (c : ℕ) (r : List K) → held same k (take (suc c) r) ≡ true → without (same k) (take (suc c) r) ≡ take c (without (same k) r)
  without-take k c [] h = absurd (false≢true h)
  without-take k zero (x ∷ xs) h = grind arith
  without-take k (suc c) (x ∷ xs) h =
      let r : held same k (take (suc c) xs) ≡ true → without (same k) (take (suc c) xs) ≡ take c (without (same k) xs) = without-take k c xs in
      ⊎_elim
      (λ (t : same k x ≡ true). rw t)
      (λ (t : same k x ≡ false). let q = r (rw t at h) in rw t (ap {B = List K} (λ ys. x ∷ ys) q))
      (cases_Bool (same k x))

  take_absent : (k : K) (c : ℕ) (r : List K) → held same k (take c r) ≡ false → take c (without (same k) r) ≡ take c r
  take_absent k zero r h = refl
  take_absent k (suc c) [] h = refl
  take_absent k (suc c) (x ∷ xs) h =
      let r : held same k (take c xs) ≡ false → take c (without (same k) xs) ≡ take c xs = take_absent k c xs in
      grind arith

  pub cache-recent : (c : ℕ) (log : List K) → Alike (cache same c log) (take c (keys (recent same log)))
  cache-recent zero [] = tt
  cache-recent (suc c) [] = tt
  cache-recent zero (k ∷ past) =
      let h : held same k (cache same 0 past) ≡ false = held-alike k (cache same 0 past) [] (cache-recent zero past) in
      rw h tt
  cache-recent (suc c) (k ∷ past) =
      let r = cache-recent (suc c) past in
      let ks = cache same (suc c) past in
      let rs = keys (recent same past) in
      let h = held-alike k ks (take (suc c) rs) r in
      rw (keys-others laws k (recent same past))
      (⊎_elim
      (λ (y : held same k ks ≡ true).
      let w : Alike (without (same k) ks) (take c (without (same k) rs)) = rw (without-take k c rs (sym h ∙ y)) at (without-alike k ks (take (suc c) rs) r) in
      let s : same (stored same k ks) (stored same k rs) ≡ true
      = laws.transitive _ k _ (laws.symmetric _ _ (stored_same laws k ks)) (stored_same laws k rs) in
      rw y (s, w))
      (λ (y : held same k ks ≡ false).
      let d = held_take_depth k (suc c) rs in
      let d' = held_take_depth k c rs in
      let no : held same k (take c rs) ≡ false = grind arith in
      let a : Alike (take c ks) (take c (take (suc c) rs)) = take-alike c ks (take (suc c) rs) r in
      let e : take c (take (suc c) rs) ≡ take c (without (same k) rs) = take-take c (suc c) rs (omega arith) ∙ sym (take_absent k c rs no) in
      rw y (stored_same laws k rs, subst (λ l. Alike (take c ks) l) e a))
      (cases_Bool (held same k ks)))

  -- what the cache holds: keys at most c deep, so at a distance of at most c
  pub held-cache : (k : K) (c : ℕ) (log : List K) → held same k (cache same c log) ≡ (held same k log && leb (distinct same (since same k log)) c)
  held-cache k c log =
      let rs = keys (recent same log) in
      let a = held-alike k (cache same c log) (take c rs) (cache-recent c log) in
      let b = held_take_depth k c rs in
      let h = held-recent laws k log in
      let d : held same k log ≡ true → depth_of same k rs ≡ distinct same (since same k log) = depth_distance k log in
      grind arith

  pub misses_count : (c : ℕ) (log : List K) → misses same c log ≡ length (firsts same log) + count_above c (distances same log)
  misses_count c [] = refl
  misses_count c (k ∷ past) =
      let r = misses_count c past in
      let h = held-cache k c past in
      let ds = distance-since same k past in
      ⊎_elim
      (λ (y : held same k past ≡ true). rw (h, ds, y) (grind arith))
      (λ (y : held same k past ≡ false). rw (h, ds, y) (grind arith))
      (cases_Bool (held same k past))

  pub firsts-distinct : (log : List K) → length (firsts same log) ≡ distinct same log
  firsts-distinct [] = refl
  firsts-distinct (k ∷ past) = let r = firsts-distinct past in grind arith

  pub since-distinct : (k : K) (xs : List K) → distinct same (since same k xs) ≤ length xs
  since-distinct k [] = omega arith
  since-distinct k (x ∷ xs) = let r = since-distinct k xs in grind arith

  pub distance_bounds : (log : List K) → AllByRecursion (λ d. d ≤ length log) (distances same log)
  distance_bounds [] = tt
  distance_bounds (k ∷ past) =
      let b = since-distinct k past in
      let ds = distance-since same k past in
      let r = All-weaker (λ d. d ≤ length past) (λ d. d ≤ suc (length past)) (λ d h. omega arith) _ (distance_bounds past) in
      ⊎_elim
      (λ (y : held same k past ≡ true). rw (ds, y) (omega arith, r))
      (λ (y : held same k past ≡ false). rw (ds, y) r)
      (cases_Bool (held same k past))

  pub missed : MissesFromDepths same
  missed log c = omega (arith, misses_count c log, firsts-distinct log, count_above_table c (length log) (distances same log) (distance_bounds log))

  -- what a touch answers is the next access's interval and distance
  pub next : NextFromRecency same
  next k past =
      let es = recent same past in
      let h = held-recent laws k past in
      let f = found_is same k es in
      let t = time_former laws k past in
      ⊎_elim
      (λ (y : held same k past ≡ true).
      let d = depth_distance k past y in
      let b = take_back same k past y in
      rw (f, h, y, b, t) (refl, ap Some (sym d)))
      (λ (y : held same k past ≡ false). rw (f, h, y) (refl, refl))
      (cases_Bool (held same k past))
