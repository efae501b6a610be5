-- The rules keep a list as the premises ask for, and a put back of the former time undoes a touch. Assumes nothing.
use Rattle.std.proofs.Common.{◌≡◌, ℕ, suc, ◌<◌, ◌≤◌, Bool, true, false, ◌&&◌, ◌||◌, eqb, ltb, List, [], ◌∷◌, length, Ok, Err, Option, Result, sym, refl, ap, ◌∙◌, subst, ⊎_elim, arith}
use Rattle.std.proofs.lemmas.Bool.{cases_Bool, ltb-true, ltb-false, eqb-false, cond-true, cond-false}
use Rattle.std.proofs.ByRecursion.{All-weaker}
use Rattle.std.specs.List.{AllByRecursion}
use Rattle.keys.specs.Sameness.{Lawful}
use Rattle.refusals.specs.declared.Refusal.{Refusal}
use Rattle.refusals.specs.declared.Refusal.TheVariants.{NoPlace}
use Rattle.locality.specs.declared.entry.Entry.{Entry}
use Rattle.locality.specs.Log.{held}
use Rattle.locality.specs.Recency.{at_time, keys, without, placed, put_back, Falling, Apart, Orderly, former_time, stored, found, others, touched}
use Rattle.locality.specs.Calls.{most_accesses}
use Rattle.locality.proofs.Sameness.{all_without, flip, right, stored_same, others_absent, keys-others, held-without}
use Rattle.locality.proofs.Recency.{time_of, time_absent, former_time_lem, time_all, length-others, touch-orderly, undone}
use Rattle.recency.specs.Rules.{Later, Returns, Kept, has_room, touch_answer, touch_list, Touching, PuttingBack, TouchUndone, RulesKeepLists}

module _ {K : Type 0} where
  -- what holds of an entry and of a list holds of the list with the entry put in
  pub all_placed : (P : Entry K → Type 0) (e : Entry K) (es : List (Entry K)) → P e → AllByRecursion P es → AllByRecursion P (placed e es)
  all_placed P e [] p h = (p, tt)
  all_placed P e (x ∷ xs) p h =
      ⊎_elim
      (λ (t : ltb e.time x.time ≡ true). rw t (h.0, all_placed P e xs p h.1))
      (λ (t : ltb e.time x.time ≡ false). rw t (p, h))
      (cases_Bool (ltb e.time x.time))

  pub length-placed : (e : Entry K) (es : List (Entry K)) → length (placed e es) ≡ suc (length es)
  length-placed e [] = refl
  length-placed e (x ∷ xs) = let r = length-placed e xs in grind arith

  falling-placed : (e : Entry K) (es : List (Entry K)) → AllByRecursion (λ x. x.time ≡ e.time → ⊥) es → Falling es → Falling (placed e es)
  falling-placed e [] n f = (tt, tt)
  falling-placed e (x ∷ xs) n f =
      ⊎_elim
      (λ (t : ltb e.time x.time ≡ true).
      let low : e.time < x.time = ltb-true _ _ t in
      rw t (all_placed (λ y. y.time < x.time) e xs low f.0, falling-placed e xs n.1 f.1))
      (λ (t : ltb e.time x.time ≡ false).
      let ne : x.time ≡ e.time → ⊥ = n.0 in
      let high : x.time < e.time = omega (arith, ltb-false e.time x.time t) in
      rw t ((high, All-weaker (λ y. y.time < x.time) (λ y. y.time < e.time) (λ y h. omega arith) xs f.0), f))
      (cases_Bool (ltb e.time x.time))

module _ {K : Type 0} {same : K → K → Bool} (laws : Lawful same) where
  apart-placed : (e : Entry K) (es : List (Entry K)) → AllByRecursion (λ x. same e.key x.key ≡ false) es → Apart same es → Apart same (placed e es)
  apart-placed e [] n f = (tt, tt)
  apart-placed e (x ∷ xs) n f =
      ⊎_elim
      (λ (t : ltb e.time x.time ≡ true).
      let s : same x.key e.key ≡ false = flip laws x.key e.key ∙ n.0 in
      rw t (all_placed (λ y. same x.key y.key ≡ false) e xs s f.0, apart-placed e xs n.1 f.1))
      (λ (t : ltb e.time x.time ≡ false). rw t (n, f))
      (cases_Bool (ltb e.time x.time))

  -- a touch that finds its key or a free place
  touched-kept : (places : ℕ) (k : K) (t : ℕ) (es : List (Entry K)) → Kept same places es → Later t es → has_room same places k es ≡ true → Kept same places (touched same k t es)
  touched-kept places k t es o l y =
      let room : suc (length (others same k es)) ≤ places
      = ⊎_elim
      (λ (h : held same k (keys es) ≡ true). omega (arith, o.within, length-others same k es h))
      (λ (h : held same k (keys es) ≡ false).
      let free : length es < places = ltb-true _ _ (sym (ap (λ b. b || ltb (length es) places) h) ∙ y) in
      omega (arith, ap length (others_absent laws k es h)))
      (cases_Bool (held same k (keys es))) in
      record {
        orderly = touch-orderly laws k t es o.orderly l.some l.newest;
        early = (l.most, all_without (λ e. e.time ≤ most_accesses) (λ e. same k e.key) es o.early);
        within = room;
      }

  pub touch-kept : (places : ℕ) (k : K) (t : ℕ) (es : List (Entry K)) → Kept same places es → Later t es → Kept same places (touch_list same places k t es)
  touch-kept places k t es o l =
      ⊎_elim
      (λ (y : has_room same places k es ≡ true). subst (Kept same places) (sym (cond-true _ (touched same k t es) es y)) (touched-kept places k t es o l y))
      (λ (y : has_room same places k es ≡ false). subst (Kept same places) (sym (cond-false _ (touched same k t es) es y)) o)
      (cases_Bool (has_room same places k es))

  -- a front entry that takes another time
  lowered_kept : (places t : ℕ) (e : Entry K) (es : List (Entry K)) → Kept same places (e ∷ es) → Returns t (e ∷ es) → 1 ≤ t → Kept same places (placed (at_time e.key t) es)
  lowered_kept places t e es o r p =
      let q = r p in
      let x = at_time e.key t in
      let low : t ≤ most_accesses = omega (arith, q.0, o.early.0) in
      record {
        orderly = record {
          falling = falling-placed x es q.1.1 o.orderly.falling.1;
          apart = apart-placed x es o.orderly.apart.0 o.orderly.apart.1;
          timed = all_placed (λ f. 1 ≤ f.time) x es p o.orderly.timed.1;
        };
        early = all_placed (λ f. f.time ≤ most_accesses) x es low o.early.1;
        within = omega (arith, length-placed x es, o.within);
      }

  pub back-kept : (places t : ℕ) (es : List (Entry K)) → Kept same places es → Returns t es → Kept same places (put_back t es)
  back-kept places t [] o r = absurd r
  back-kept places t (e ∷ es) o r =
      ⊎_elim
      (λ (y : eqb t 0 ≡ true). rw y (record {
        orderly = record { falling = o.orderly.falling.1; apart = o.orderly.apart.1; timed = o.orderly.timed.1 };
        early = o.early.1;
        within = omega (arith, o.within);
      }))
      (λ (y : eqb t 0 ≡ false). let nz : t ≡ 0 → ⊥ = eqb-false t 0 y in rw y (lowered_kept places t e es o r (omega arith)))
      (cases_Bool (eqb t 0))

  pub keep_lists : RulesKeepLists same
  keep_lists = record {
    empty = λ places. record { orderly = record { falling = tt; apart = tt; timed = tt }; early = tt; within = omega arith };
    touch = touch-kept;
    back = back-kept;
  }

  -- no other entry has the time of a key
  times_differ : (k : K) (es : List (Entry K)) → Falling es → held same k (keys es) ≡ true → AllByRecursion (λ f. f.time ≡ time_of same k es → ⊥) (others same k es)
  times_differ k [] o y = tt
  times_differ k (e ∷ es) o y =
      ⊎_elim
      (λ (t : same k e.key ≡ true). rw t (All-weaker (λ f. f.time < e.time) (λ f. f.time ≡ e.time → ⊥) (λ f l q. omega arith) es o.0))
      (λ (t : same k e.key ≡ false).
      let y' : held same k (keys es) ≡ true = rw t at y in
      let l : time_of same k es < e.time = time_all same (λ x. x < e.time) k es o.0 y' in
      rw t ((λ (q : e.time ≡ time_of same k es). omega arith), times_differ k es o.1 y'))
      (cases_Bool (same k e.key))

  -- after a touch the premise of putting its former time back holds
  pub touch_returns : (places : ℕ) (k : K) (t : ℕ) (es : List (Entry K)) → Kept same places es → Later t es → Returns (former_time (found same k es)) (touched same k t es)
  touch_returns places k t es o l p =
      let f = former_time_lem same k es in
      let p' : 1 ≤ time_of same k es = omega (arith, f) in
      let y : held same k (keys es) ≡ true
      = ⊎_elim (λ (y : held same k (keys es) ≡ true). y) (λ (n : held same k (keys es) ≡ false). absurd (omega (arith, time_absent same k es n))) (cases_Bool (held same k (keys es))) in
      let low : time_of same k es < t = time_all same (λ x. x < t) k es l.newest y in
      let differ = times_differ k es o.orderly.falling y in
      subst (λ (x : ℕ). (x < t) × AllByRecursion (λ e. e.time ≡ x → ⊥) (touched same k t es)) (sym f) (low, ((λ (q : t ≡ time_of same k es). omega arith), differ))

  pub touch_undone : (k : K) (t : ℕ) (es : List (Entry K)) → Orderly same es → put_back (former_time (found same k es)) (touched same k t es) ≡ es
  touch_undone = (undone laws).0

  -- the keys that are held after a touch
  held-touched : (x k : K) (t : ℕ) (es : List (Entry K)) → held same x (keys (touched same k t es)) ≡ (held same x (keys es) || same x k)
  held-touched x k t es =
      let s : same x k ≡ same x (stored same k (keys es)) = right laws x k (stored same k (keys es)) (stored_same laws k (keys es)) in
      let w = keys-others laws k es in
      let o : same x k ≡ false → held same x (without (same k) (keys es)) ≡ held same x (keys es) = held-without laws x k (keys es) in
      grind arith

  pub touch_held : (places : ℕ) (x k : K) (t : ℕ) (es : List (Entry K)) →
      held same x (keys (touch_list same places k t es)) ≡ (held same x (keys es) || (has_room same places k es && same x k))
  touch_held places x k t es =
      ⊎_elim
      (λ (y : has_room same places k es ≡ true).
      ap (λ l. held same x (keys l)) (cond-true _ (touched same k t es) es y) ∙ held-touched x k t es ∙ ap (λ b. held same x (keys es) || (b && same x k)) (sym y))
      (λ (y : has_room same places k es ≡ false).
      ap (λ l. held same x (keys l)) (cond-false _ (touched same k t es) es y) ∙ (let b = held same x (keys es) in let z : (b || false) ≡ b = grind arith in sym z) ∙ ap (λ b. held same x (keys es) || (b && same x k)) (sym y))
      (cases_Bool (has_room same places k es))

  -- a put back of the time that a touch answered
  pub told_undone : (places : ℕ) (k : K) (t : ℕ) (es after : List (Entry K)) (answer : Option (ℕ × ℕ)) (former : ℕ) → Kept same places es → Later t es →
      Ok answer ≡ touch_answer same places k es → after ≡ touch_list same places k t es → former ≡ former_time answer →
      Returns former after × (put_back former after ≡ es)
  told_undone places k t es after answer former o l a b f =
      ⊎_elim
      (λ (y : has_room same places k es ≡ true).
      let a' : Ok answer ≡ Ok (found same k es) = a ∙ cond-true _ _ _ y in
      let e : answer ≡ found same k es = cc in
      let f' : former ≡ former_time (found same k es) = f ∙ ap former_time e in
      let b' : after ≡ touched same k t es = b ∙ cond-true _ _ _ y in (
        subst (Returns former) (sym b') (subst (λ (x : ℕ). Returns x (touched same k t es)) (sym f') (touch_returns places k t es o l)),
        ap (put_back former) b' ∙ ap (λ x. put_back x (touched same k t es)) f' ∙ touch_undone k t es o.orderly,
      ))
      (λ (y : has_room same places k es ≡ false).
      let a' : Ok answer ≡ Err NoPlace = a ∙ cond-false _ _ _ y in
      let z : ◌≡◌ {A = ℕ} 0 1 = cc in
      absurd (omega arith))
      (cases_Bool (has_room same places k es))

  pub undone_told : TouchUndone same
  undone_told places k t es answer o l a = told_undone places k t es (touch_list same places k t es) answer (former_time answer) o l a refl refl

  -- a touch that was not refused, and a put back of the time that it answered
  pub peeked : {k : K} {t former room room' room'' : ℕ} {es mid after : List (Entry K)} {sound sound' sound'' : Type 0} {answer : Option (ℕ × ℕ)} →
      Touching same k t room room' es mid sound sound' (Ok answer) → PuttingBack same former room' room'' mid after sound' sound'' → former ≡ former_time answer →
      sound → Later t es → (Ok answer ≡ touch_answer same room k es) × (after ≡ es) × sound''
  peeked {k = k} {t = t} rule back f s l =
      let told = told_undone _ k t _ _ _ _ (rule.kept s) l (rule.answers s l) (rule.list s l) f in
      let stays = rule.stays s l in
      (rule.answers s l, back.list stays told.0 ∙ told.1, back.stays stays told.0)

  -- what a touch owes of a store whose soundness is that of its list, once its answer and list are by the rules
  pub owed_touch : (k : K) (t room room' : ℕ) (es es' : List (Entry K)) (r : Result (Option (ℕ × ℕ)) Refusal) → room' ≡ room →
      (Kept same room es → Later t es → (r ≡ touch_answer same room k es) × (es' ≡ touch_list same room k t es)) →
      Touching same k t room room' es es' (Kept same room es) (Kept same room' es') r
  owed_touch k t room room' es es' r places told = record {
    places = places;
    kept = λ s. s;
    answers = λ s l. (told s l).0;
    list = λ s l. (told s l).1;
    stays = λ s l. subst (λ (m : ℕ). Kept same m es') (sym places) (subst (Kept same room) (sym (told s l).1) (touch-kept room k t es s l));
  }

  -- and a put back
  pub owed_back : (t room room' : ℕ) (es es' : List (Entry K)) → room' ≡ room → (Kept same room es → Returns t es → es' ≡ put_back t es) →
      PuttingBack same t room room' es es' (Kept same room es) (Kept same room' es')
  owed_back t room room' es es' places told = record {
    places = places;
    kept = λ s. s;
    list = told;
    stays = λ s r. subst (λ (m : ℕ). Kept same m es') (sym places) (subst (Kept same room) (sym (told s r)) (back-kept room t es s r));
  }
