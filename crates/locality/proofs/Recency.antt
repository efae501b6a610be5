-- The recency list of a log: its keys and times, its order, and what a put back does to it. Assumes nothing.
use Rattle.std.proofs.Common.{◌≡◌, ℕ, suc, ◌+◌, ◌<◌, ◌≤◌, Bool, true, false, cond, eqb, ltb, List, [], ◌∷◌, ◌++◌, reverse, length, Some, None, sym, refl, ap, ◌∙◌, subst, ⊎_elim, arith}
use mathlib.Core.Bool.{false≢true}
use Rattle.std.proofs.lemmas.List.{reverse-append}
use Rattle.std.proofs.lemmas.Bool.{cases_Bool}
use Rattle.std.proofs.ByRecursion.{All-weaker}
use Rattle.std.specs.List.{AllByRecursion}
use Rattle.keys.specs.Sameness.{Lawful}
use Rattle.locality.proofs.Sums.{sum_over_none, sum_over-map}
use Rattle.locality.proofs.Sameness.{all_without, all_both, flip, left, right, held_same, held-reverse, stored_same, stored_absent, stored_all, stored-append, held-without, others_absent, keys-others}
use Rattle.locality.specs.Numbers.{sum_over}
use Rattle.locality.specs.Log.{held, distinct, former, lasts_before, lasts}
use Rattle.locality.specs.Recency.{at_time, keys, times_of, without, placed, put_back, Falling, Apart, Orderly, former_time, stored, found, others, touched, recent}
use Rattle.locality.specs.Statements.{RecencyList, PutBackUndoes, DepthFromTimes}
use Rattle.locality.specs.declared.entry.Entry.{Entry}

-- an entry later than every other goes in front
pub placed_front : {K : Type 0} (e : Entry K) (es : List (Entry K)) → AllByRecursion (λ f. f.time < e.time) es → placed e es ≡ e ∷ es
placed_front e [] h = refl
placed_front e (f ∷ fs) h = let g = h.0 in let t : ltb e.time f.time ≡ false = grind arith in rw t

module _ {K : Type 0} (same : K → K → Bool) where
  -- depth and time of a key, if it is held
  abbrev pub depth_of : K → List K → ℕ
  depth_of k [] = 1
  depth_of k (x ∷ xs) = cond (same k x) 1 (suc (depth_of k xs))

  abbrev pub time_of : K → List (Entry K) → ℕ
  time_of k [] = 0
  time_of k (e ∷ es) = cond (same k e.key) e.time (time_of k es)

  pub found_is : (k : K) (es : List (Entry K)) → found same k es ≡ cond (held same k (keys es)) (Some (depth_of k (keys es), time_of k es)) None
  found_is k [] = refl
  found_is k (e ∷ es) =
      let r = found_is k es in
      ⊎_elim
      (λ (t : same k e.key ≡ true). rw t)
      (λ (t : same k e.key ≡ false). ⊎_elim
      (λ (y : held same k (keys es) ≡ true). let q : found same k es ≡ Some (depth_of k (keys es), time_of k es) = rw y at r in rw (t, y, q))
      (λ (y : held same k (keys es) ≡ false). let q : found same k es ≡ None = rw y at r in rw (t, y, q))
      (cases_Bool (held same k (keys es))))
      (cases_Bool (same k e.key))

  -- the time to put back is the time of the key, 0 if it is not held
  pub time_absent : (k : K) (es : List (Entry K)) → held same k (keys es) ≡ false → time_of k es ≡ 0
  time_absent k [] h = refl
  time_absent k (e ∷ es) h = let r : held same k (keys es) ≡ false → time_of k es ≡ 0 = time_absent k es in grind arith

  pub former_time_lem : (k : K) (es : List (Entry K)) → former_time (found same k es) ≡ time_of k es
  former_time_lem k es =
      let f = found_is k es in
      ⊎_elim
      (λ (y : held same k (keys es) ≡ true). rw (f, y))
      (λ (y : held same k (keys es) ≡ false). let a = time_absent k es y in rw (f, y) (sym a))
      (cases_Bool (held same k (keys es)))

  pub time_all : (P : ℕ → Type 0) (k : K) (es : List (Entry K)) → AllByRecursion (λ f. P f.time) es → held same k (keys es) ≡ true → P (time_of k es)
  time_all P k [] h y = absurd (false≢true y)
  time_all P k (e ∷ es) h y =
      let r : held same k (keys es) ≡ true → P (time_of k es) = time_all P k es h.1 in
      ⊎_elim
      (λ (t : same k e.key ≡ true). rw t h.0)
      (λ (t : same k e.key ≡ false). let q = r (rw t at y) in rw t q)
      (cases_Bool (same k e.key))

  -- a sum over the times of a list: what k has in it, and the others
  pub sum_others : (f : ℕ → ℕ) (k : K) (es : List (Entry K)) → held same k (keys es) ≡ true → sum_over (λ e. f e.time) es ≡ f (time_of k es) + sum_over (λ e. f e.time) (others same k es)
  sum_others f k [] h = absurd (false≢true h)
  sum_others f k (e ∷ es) h =
      let r : held same k (keys es) ≡ true → sum_over (λ d. f d.time) es ≡ f (time_of k es) + sum_over (λ d. f d.time) (others same k es) = sum_others f k es in
      ⊎_elim
      (λ (t : same k e.key ≡ true). rw t)
      (λ (t : same k e.key ≡ false). let q : held same k (keys es) ≡ true = rw t at h in rw t (omega (arith, r q)))
      (cases_Bool (same k e.key))

  pub length-others : (k : K) (es : List (Entry K)) → held same k (keys es) ≡ true → length es ≡ suc (length (others same k es))
  length-others k [] h = absurd (false≢true h)
  length-others k (e ∷ es) h =
      let r : held same k (keys es) ≡ true → length es ≡ suc (length (others same k es)) = length-others k es in
      grind arith

module _ {K : Type 0} {same : K → K → Bool} (laws : Lawful same) where
  pub held-recent : (k : K) (log : List K) → held same k (keys (recent same log)) ≡ held same k log
  held-recent k [] = refl
  held-recent k (x ∷ past) =
      let r = held-recent k past in
      let ks = keys (recent same past) in
      let s : same k x ≡ same k (stored same x ks) = right laws k x (stored same x ks) (stored_same laws x ks) in
      let w = keys-others laws x (recent same past) in
      let o : same k x ≡ false → held same k (without (same x) ks) ≡ held same k ks = held-without laws k x ks in
      grind arith

  time_others : (k x : K) (es : List (Entry K)) → same k x ≡ false → time_of same k (others same x es) ≡ time_of same k es
  time_others k x [] h = refl
  time_others k x (e ∷ es) h =
      let r = time_others k x es h in
      let l : same x e.key ≡ true → same k x ≡ same k e.key = right laws k x e.key in
      grind arith

  -- the recency list has a key under its former position
  pub time_former : (k : K) (log : List K) → time_of same k (recent same log) ≡ former same k log
  time_former k [] = refl
  time_former k (x ∷ past) =
      let r = time_former k past in
      let ks = keys (recent same past) in
      let s : same k x ≡ same k (stored same x ks) = right laws k x (stored same x ks) (stored_same laws x ks) in
      let o : same k x ≡ false → time_of same k (others same x (recent same past)) ≡ time_of same k (recent same past) = time_others k x (recent same past) in
      grind arith

  -- times stand between 1 and n
  pub recent-times : (log : List K) → AllByRecursion (λ e. (1 ≤ e.time) × (e.time ≤ length log)) (recent same log)
  recent-times [] = tt
  recent-times (k ∷ past) =
      let n = length past in
      let P : Entry K → Type 0 = λ e. (1 ≤ e.time) × (e.time ≤ suc n) in
      ((omega arith, omega arith), all_without P (λ e. same k e.key) (recent same past) (All-weaker (λ e. (1 ≤ e.time) × (e.time ≤ n)) P (λ e h. omega arith) (recent same past) (recent-times past)))

  pub recent-length : (log : List K) → length (recent same log) ≡ distinct same log
  recent-length [] = refl
  recent-length (k ∷ past) =
      let r = recent-length past in
      let es = recent same past in
      let h = held-recent k past in
      ⊎_elim
      (λ (t : held same k past ≡ true). let l = length-others same k es (h ∙ t) in rw t (omega arith))
      (λ (t : held same k past ≡ false). let l = ap length (others_absent laws k es (h ∙ t)) in rw t (omega arith))
      (cases_Bool (held same k past))

  -- without k no entry has its key
  pub others_differ : (k : K) (es : List (Entry K)) → Apart same es → AllByRecursion (λ f. same k f.key ≡ false) (others same k es)
  others_differ k [] o = tt
  others_differ k (e ∷ es) o =
      let r = others_differ k es o.1 in
      ⊎_elim
      (λ (t : same k e.key ≡ true). rw t
      (All-weaker (λ f. same e.key f.key ≡ false) (λ f. same k f.key ≡ false) (λ f h. left laws k e.key f.key t ∙ h) es o.0))
      (λ (t : same k e.key ≡ false). rw t (t, r))
      (cases_Bool (same k e.key))

  apart-others : (k : K) (es : List (Entry K)) → Apart same es → Apart same (others same k es)
  apart-others k [] o = o
  apart-others k (e ∷ es) o =
      let r = apart-others k es o.1 in
      let a = all_without (λ f. same e.key f.key ≡ false) (λ f. same k f.key) es o.0 in
      ⊎_elim (λ (t : same k e.key ≡ true). rw t o.1) (λ (t : same k e.key ≡ false). rw t (a, r)) (cases_Bool (same k e.key))

  falling-others : (k : K) (es : List (Entry K)) → Falling es → Falling (others same k es)
  falling-others k [] o = o
  falling-others k (e ∷ es) o =
      let r = falling-others k es o.1 in
      let a = all_without (λ f. f.time < e.time) (λ f. same k f.key) es o.0 in
      ⊎_elim (λ (t : same k e.key ≡ true). rw t o.1) (λ (t : same k e.key ≡ false). rw t (a, r)) (cases_Bool (same k e.key))

  -- a touch at a time later than every entry's keeps a list orderly
  pub touch-orderly : (k : K) (t : ℕ) (es : List (Entry K)) → Orderly same es → 1 ≤ t → AllByRecursion (λ e. e.time < t) es → Orderly same (touched same k t es)
  touch-orderly k t es o p l =
      let s = stored same k (keys es) in
      let ne : AllByRecursion (λ f. same s f.key ≡ false) (others same k es)
      = All-weaker (λ f. same k f.key ≡ false) (λ f. same s f.key ≡ false) (λ f h. sym (left laws k s f.key (stored_same laws k (keys es))) ∙ h) (others same k es) (others_differ k es o.apart) in
      record {
        falling = (all_without (λ f. f.time < t) (λ f. same k f.key) es l, falling-others k es o.falling);
        apart = (ne, apart-others k es o.apart);
        timed = (p, all_without (λ f. 1 ≤ f.time) (λ f. same k f.key) es o.timed);
      }

  pub recent-orderly : (log : List K) → Orderly same (recent same log)
  recent-orderly [] = record { falling = tt; apart = tt; timed = tt }
  recent-orderly (k ∷ past) =
      let n = length past in
      touch-orderly k (suc n) (recent same past) (recent-orderly past) (omega arith)
      (All-weaker (λ e. (1 ≤ e.time) × (e.time ≤ n)) (λ e. e.time < suc n) (λ e h. omega arith) (recent same past) (recent-times past))

  -- the entries whose key is not among newer ones
  abbrev unseen : List K → List (Entry K) → List (Entry K)
  unseen newer [] = []
  unseen newer (e ∷ es) = cond (held same e.key newer) [] (e ∷ []) ++ unseen newer es

  unseen_absent : (k : K) (newer : List K) (es : List (Entry K)) → AllByRecursion (λ f. same k f.key ≡ false) es → unseen (k ∷ newer) es ≡ unseen newer es
  unseen_absent k newer [] h = refl
  unseen_absent k newer (e ∷ es) h = let r = unseen_absent k newer es h.1 in let f = flip laws k e.key in let g = h.0 in grind arith

  unseen-others : (k : K) (newer : List K) (es : List (Entry K)) → unseen (k ∷ newer) (others same k es) ≡ unseen (k ∷ newer) es
  unseen-others k newer [] = refl
  unseen-others k newer (e ∷ es) = let r = unseen-others k newer es in let f = flip laws k e.key in grind arith

  lasts-unseen : (newer log : List K) → lasts_before same newer log ≡ times_of (unseen newer (recent same log))
  lasts-unseen newer [] = refl
  lasts-unseen newer (k ∷ past) =
      let es = recent same past in
      let rest = others same k es in
      let u : unseen (k ∷ newer) es ≡ unseen newer rest = sym (unseen-others k newer es) ∙ unseen_absent k newer rest (others_differ k es (recent-orderly past).apart) in
      let r : lasts_before same (k ∷ newer) past ≡ times_of (unseen newer rest) = lasts-unseen (k ∷ newer) past ∙ ap times_of u in
      let s = stored same k (keys es) in
      let h : held same k newer ≡ held same s newer = held_same laws k s newer (stored_same laws k (keys es)) in
      ⊎_elim
      (λ (y : held same k newer ≡ true). let y' : held same s newer ≡ true = sym h ∙ y in rw (y, y') r)
      (λ (y : held same k newer ≡ false). let y' : held same s newer ≡ false = sym h ∙ y in rw (y, y') (ap {B = List ℕ} (λ l. suc (length past) ∷ l) r))
      (cases_Bool (held same k newer))

  unseen_none : (es : List (Entry K)) → unseen [] es ≡ es
  unseen_none [] = refl
  unseen_none (e ∷ es) = ap {B = List (Entry K)} (λ fs. e ∷ fs) (unseen_none es)

  pub times-lasts : (log : List K) → times_of (recent same log) ≡ lasts same log
  times-lasts log = sym (lasts-unseen [] log ∙ ap times_of (unseen_none (recent same log)))

  -- the key of each entry is held, and is the first of its same keys
  abbrev First : List K → Entry K → Type 0
  First log e = (held same e.key log ≡ true) × (e.key ≡ stored same e.key (reverse log))

  first_more : (k : K) (past : List K) (e : Entry K) → First past e → First (k ∷ past) e
  first_more k past e h =
      let a = held-reverse laws e.key past in
      let y = h.0 in
      let p : stored same e.key (reverse (k ∷ past)) ≡ stored same e.key (reverse past)
      = ap (stored same e.key) (reverse-append (k ∷ []) past) ∙ stored-append laws e.key (reverse past) (k ∷ []) ∙ rw (a, y) in
      (grind arith, h.1 ∙ sym p)

  key_all : (P : K → Type 0) (es : List (Entry K)) → AllByRecursion (λ e. P e.key) es → AllByRecursion P (keys es)
  key_all P [] h = h
  key_all P (e ∷ es) h = (h.0, key_all P es h.1)

  pub firsts-stored : (log : List K) → AllByRecursion (First log) (recent same log)
  firsts-stored [] = tt
  firsts-stored (k ∷ past) =
      let es = recent same past in
      let ks = keys es in
      let old = All-weaker (First past) (First (k ∷ past)) (first_more k past) es (firsts-stored past) in
      let h = held-recent k past in
      let s = stored same k ks in
      let P : K → Type 0 = λ x. First (k ∷ past) (at_time x (suc (length past))) in
      let front : P s
      = ⊎_elim
      (λ (y : held same k past ≡ true). stored_all laws P k ks (key_all P es old) (h ∙ y))
      (λ (y : held same k past ≡ false).
      let e : s ≡ k = stored_absent laws k ks (h ∙ y) in
      let a : held same k (reverse past) ≡ false = held-reverse laws k past ∙ y in
      let x = laws.reflexive k in
      let p : stored same k (reverse (k ∷ past)) ≡ k
      = ap (stored same k) (reverse-append (k ∷ []) past) ∙ stored-append laws k (reverse past) (k ∷ []) ∙ rw (a, x) in
      let q : held same k (k ∷ past) ≡ true = rw x in
      subst P (sym e) (q, sym p))
      (cases_Bool (held same k past)) in
      (front, all_without (First (k ∷ past)) (λ e. same k e.key) es old)

  -- an entry has the time of its own key
  own_times : (es : List (Entry K)) → Apart same es → AllByRecursion (λ e. e.time ≡ time_of same e.key es) es
  own_times [] o = tt
  own_times (e ∷ es) o =
      let x = laws.reflexive e.key in
      let behind = all_both (λ f. same e.key f.key ≡ false) (λ f. f.time ≡ time_of same f.key es) es o.0 (own_times es o.1) in (
        rw x,
        All-weaker (λ f. (same e.key f.key ≡ false) × (f.time ≡ time_of same f.key es)) (λ f. f.time ≡ time_of same f.key (e ∷ es))
            (λ f h. let y : same f.key e.key ≡ false = flip laws f.key e.key ∙ h.0 in rw y h.1) es behind,
      )

  pub recency-list : (log : List K) → RecencyList same log
  recency-list log = record {
    orderly = recent-orderly log;
    holds = λ k. held-recent k log;
    once = recent-length log;
    last = times-lasts log;
    under_last =
        All-weaker (λ e. e.time ≡ time_of same e.key (recent same log)) (λ e. e.time ≡ former same e.key log)
        (λ e h. h ∙ time_former e.key log) (recent same log) (own_times (recent same log) (recent-orderly log).apart);
    first_stored = All-weaker (First log) (λ e. e.key ≡ stored same e.key (reverse log)) (λ e h. h.1) (recent same log) (firsts-stored log);
  }

  put : (k : K) (es : List (Entry K)) → Falling es → held same k (keys es) ≡ true →
      placed (at_time (stored same k (keys es)) (time_of same k es)) (others same k es) ≡ es
  put k [] o y = absurd (false≢true y)
  put k (e ∷ es) o y =
      let r : held same k (keys es) ≡ true → placed (at_time (stored same k (keys es)) (time_of same k es)) (others same k es) ≡ es = put k es o.1 in
      ⊎_elim
      (λ (t : same k e.key ≡ true). rw t (placed_front e es o.0))
      (λ (t : same k e.key ≡ false).
      let y' : held same k (keys es) ≡ true = rw t at y in
      let l : time_of same k es < e.time = time_all same (λ x. x < e.time) k es o.0 y' in
      let b : ltb (time_of same k es) e.time ≡ true = grind arith in
      let q = r y' in
      rw (t, b) (ap {B = List (Entry K)} (λ fs. e ∷ fs) q))
      (cases_Bool (same k e.key))

  put_back_lem : (k : K) (t : ℕ) (es : List (Entry K)) → Orderly same es → put_back (time_of same k es) (touched same k t es) ≡ es
  put_back_lem k t es o =
      ⊎_elim
      (λ (y : held same k (keys es) ≡ true).
      let l : 1 ≤ time_of same k es = time_all same (λ x. 1 ≤ x) k es o.timed y in
      let b : eqb (time_of same k es) 0 ≡ false = grind arith in
      rw b (put k es o.falling y))
      (λ (y : held same k (keys es) ≡ false).
      let z = time_absent same k es y in
      rw z (others_absent laws k es y))
      (cases_Bool (held same k (keys es)))

  pub undone : PutBackUndoes same
  undone = (
    λ k t es o. ap (λ f. put_back f (touched same k t es)) (former_time_lem same k es) ∙ put_back_lem k t es o,
    λ k past. ap (λ f. put_back f (recent same (k ∷ past))) (sym (time_former k past)) ∙ put_back_lem k (suc (length past)) (recent same past) (recent-orderly past),
  )

  -- the depth, by counting later times
  depth_later : (k : K) (t : ℕ) (es : List (Entry K)) → Falling es → held same k (keys es) ≡ true → time_of same k es ≡ t →
      depth_of same k (keys es) ≡ sum_over (λ e. cond (ltb t e.time) 1 0) es + 1
  depth_later k t [] o y q = absurd (false≢true y)
  depth_later k t (e ∷ es) o y q =
      let r = depth_later k t es o.1 in
      ⊎_elim
      (λ (s : same k e.key ≡ true).
      let q' : e.time ≡ t = rw s at q in
      let z = sum_over_none (λ f. cond (ltb t f.time) 1 0) es (All-weaker (λ f. f.time < e.time) (λ f. cond (ltb t f.time) 1 0 ≡ 0) (λ f h. grind arith) es o.0) in
      let now : cond {A = ℕ} (ltb t e.time) 1 0 ≡ 0 = grind arith in
      rw s (omega arith))
      (λ (s : same k e.key ≡ false).
      let y' : held same k (keys es) ≡ true = rw s at y in
      let q' : time_of same k es ≡ t = rw s at q in
      let d = r y' q' in
      let l : time_of same k es < e.time = time_all same (λ x. x < e.time) k es o.0 y' in
      let now : cond {A = ℕ} (ltb t e.time) 1 0 ≡ 1 = grind arith in
      rw s (omega arith))
      (cases_Bool (same k e.key))

  pub depths_later : DepthFromTimes same
  depths_later k es d t o e =
      let f = found_is same k es in
      let counted = sum_over-map (λ u. cond (ltb t u) 1 0) (λ x. x.time) es in
      ⊎_elim
      (λ (y : held same k (keys es) ≡ true).
      let p : Some (depth_of same k (keys es), time_of same k es) ≡ Some (d, t) = rw (f, y) at e in
      let dd : depth_of same k (keys es) ≡ d = grind (arith, p) in
      let tt' : time_of same k es ≡ t = grind (arith, p) in
      let l = depth_later k t es o.falling y tt' in
      omega (arith, l, counted, dd))
      (λ (y : held same k (keys es) ≡ false).
      let p : None ≡ Some (d, t) = rw (f, y) at e in
      grind (arith, p))
      (cases_Bool (held same k (keys es)))
