-- The textbook's definitions, by position and oldest first, are those in use. Assumes nothing.
use Rattle.std.proofs.Common.{◌≡◌, ℕ, zero, suc, ◌+◌, ◌-◌, ◌<◌, ◌≤◌, Bool, true, false, cond, ◌||◌, eqb, ltb, leb, List, [], ◌∷◌, ◌++◌, map, reverse, length, take, drop, Some, None, filter, Option, sym, refl, ap, ◌∙◌, ap₂, ⊎_elim, arith}
use Rattle.std.proofs.lemmas.List.FromFn.{map-range_with_len_more}
use Rattle.std.proofs.lemmas.List.Elements.{filter-append}
use Rattle.std.proofs.lemmas.List.{append-nil, reverse-append, length-reverse, length-take, length-drop, take_all, take_at, take-append-le, drop-append-le, drop_at, take-append-drop}
use Rattle.std.proofs.lemmas.Bool.{cases_Bool, cases_lt}
use Rattle.std.specs.List.{range_with_len, slice_get}
use Rattle.keys.specs.Sameness.{Lawful}
use Rattle.locality.proofs.Sums.{sum_over-append, sum_over-map, sum_over_each}
use Rattle.locality.proofs.Sameness.{held-reverse, distinct-reverse}
use Rattle.locality.proofs.Reuse.{former-le, former-held, former_absent}
use Rattle.locality.specs.Numbers.{sum_over, is_number, times}
use Rattle.locality.specs.Log.{listed, held, distinct, windows, total, former, back, interval, distance, up_to, newest_interval, newest_distance, intervals, distances, firsts, lasts_before, lasts}
use Rattle.locality.specs.Recency.{touched, recent}
use Rattle.locality.specs.Cache.{accessed, cache, misses}
use Rattle.locality.specs.Calls.{record_log, retract_log, log_after}
use Rattle.locality.specs.ByPosition.{key_at, newest_key, positions, greatest, window, windows_by_start, alike, same_at, former_of, unless_first, interval_of, distance_of, first_positions, last_positions, positions_with, cache_from, misses_from, recent_from, without_newest, appended, standing_after, Textbook}
use Rattle.locality.specs.Statements.{TextbookAgrees}
use Rattle.locality.specs.declared.call.Call.{Call}
use Rattle.locality.specs.declared.call.Call.TheVariants.{Record, Retract, Clear}
use Rattle.locality.specs.declared.entry.Entry.{Entry}

pub reverse_more : {X : Type 0} (k : X) (past : List X) → reverse (k ∷ past) ≡ reverse past ++ (k ∷ [])
reverse_more k past = reverse-append (k ∷ []) past

pub sum_over-reverse : {X : Type 0} (f : X → ℕ) (xs : List X) → sum_over f (reverse xs) ≡ sum_over f xs
sum_over-reverse f [] = refl
sum_over-reverse f (x ∷ xs) = ap (sum_over f) (reverse_more x xs) ∙ omega (arith, sum_over-append f (reverse xs) (x ∷ []), sum_over-reverse f xs)

-- positions
nth_old : {X : Type 0} (xs ys : List X) (i : ℕ) → i < length xs → slice_get (xs ++ ys) i ≡ slice_get xs i
nth_old [] ys i h = absurd (omega arith)
nth_old (x ∷ xs) ys zero h = refl
nth_old (x ∷ xs) ys (suc i) h = nth_old xs ys i (omega arith)

nth_new : {X : Type 0} (xs : List X) (k : X) → slice_get (xs ++ (k ∷ [])) (length xs) ≡ Some k
nth_new [] k = refl
nth_new (x ∷ xs) k = nth_new xs k

key_old : {X : Type 0} (xs ys : List X) (t : ℕ) → t ≤ length xs → key_at (xs ++ ys) t ≡ key_at xs t
key_old xs ys zero h = refl
key_old xs ys (suc t) h = nth_old xs ys t (omega arith)

-- the key of the newest position, and of an earlier one
key_newest : {X : Type 0} (k : X) (past : List X) → key_at (reverse (k ∷ past)) (suc (length past)) ≡ Some k
key_newest k past = ap₂ slice_get (reverse_more k past) (sym (length-reverse past)) ∙ nth_new (reverse past) k

key_earlier : {X : Type 0} (k : X) (past : List X) (t : ℕ) → t ≤ length past → key_at (reverse (k ∷ past)) t ≡ key_at (reverse past) t
key_earlier k past t h = ap (λ ys. key_at ys t) (reverse_more k past) ∙ key_old (reverse past) (k ∷ []) t (omega (arith, length-reverse past))

pub positions_more : (n : ℕ) → positions (suc n) ≡ positions n ++ (suc n ∷ [])
positions_more n = from 1 n ∙ ap (λ t. positions n ++ (t ∷ [])) (omega arith)
  where
    from : (a n : ℕ) → range_with_len a (suc n) ≡ range_with_len a n ++ ((a + n) ∷ [])
    from a zero = ap (λ t. t ∷ []) (omega arith)
    from a (suc n) = ap {B = List ℕ} (λ ts. a ∷ ts) (from (a + 1) n ∙ ap (λ t. range_with_len (a + 1) n ++ (t ∷ [])) (omega arith))

-- what agrees at the positions 1 to n
kept_same : (f g : ℕ → Bool) (a n : ℕ) → ((t : ℕ) → a ≤ t → t < a + n → f t ≡ g t) → filter f (range_with_len a n) ≡ filter g (range_with_len a n)
kept_same f g a zero h = refl
kept_same f g a (suc n) h =
    let r = kept_same f g (a + 1) n (λ t l u. h t (omega arith) (omega arith)) in
    let e = h a (omega arith) (omega arith) in
    ⊎_elim
    (λ (y : g a ≡ true). rw (e, y) (ap {B = List ℕ} (λ ts. a ∷ ts) r))
    (λ (y : g a ≡ false). rw (e, y) r)
    (cases_Bool (g a))

map_same : {X : Type 0} (f g : ℕ → X) (a n : ℕ) → ((t : ℕ) → a ≤ t → t < a + n → f t ≡ g t) → map f (range_with_len a n) ≡ map g (range_with_len a n)
map_same f g a zero h = refl
map_same f g a (suc n) h =
    ap₂ ◌∷◌ (h a (omega arith) (omega arith)) (map_same f g (a + 1) n (λ t l u. h t (omega arith) (omega arith)))

sum_same : (f g : ℕ → ℕ) (a n : ℕ) → ((t : ℕ) → a ≤ t → t < a + n → f t ≡ g t) → sum_over f (range_with_len a n) ≡ sum_over g (range_with_len a n)
sum_same f g a n h =
    sym (sum_over-map (λ x. x) f (range_with_len a n)) ∙ ap (sum_over (λ x. x)) (map_same f g a n h) ∙ sum_over-map (λ x. x) g (range_with_len a n)

pub greatest-le : (f : ℕ → Bool) (n : ℕ) → greatest f n ≤ n
greatest-le f zero = omega arith
greatest-le f (suc n) = let r = greatest-le f n in grind arith

greatest_same : (f g : ℕ → Bool) (n : ℕ) → ((p : ℕ) → p ≤ n → f p ≡ g p) → greatest f n ≡ greatest g n
greatest_same f g zero h = refl
greatest_same f g (suc n) h =
    let e = h (suc n) (omega arith) in
    let r = greatest_same f g n (λ p l. h p (omega arith)) in
    rw (e, r)

-- a window that ends before the newest access
window-old : {X : Type 0} (w s : ℕ) (xs ys : List X) → (s - 1) + w ≤ length xs → window w s (xs ++ ys) ≡ window w s xs
window-old w s xs ys h =
    let d = length-drop (s - 1) xs in
    ap (take w) (drop-append-le (s - 1) xs ys (omega arith)) ∙ take-append-le w (drop (s - 1) xs) ys (omega arith)

-- the newest w accesses
window-newest : {X : Type 0} (w : ℕ) (log : List X) → w ≤ length log → take w (drop (length log - w) (reverse log)) ≡ reverse (take w log)
window-newest w log h =
    let parts : reverse log ≡ reverse (drop w log) ++ reverse (take w log)
    = ap reverse (sym (take-append-drop w log)) ∙ reverse-append (take w log) (drop w log) in
    let front : length (reverse (drop w log)) ≡ length log - w = length-reverse (drop w log) ∙ length-drop w log in
    let size : length (reverse (take w log)) ≡ w = length-reverse (take w log) ∙ length-take w log ∙ omega arith in
    ap (λ xs. take w (drop (length log - w) xs)) parts
    ∙ ap (take w) (drop_at (reverse (drop w log)) (reverse (take w log)) (length log - w) front)
    ∙ take_all w (reverse (take w log)) (omega arith)

module _ {K : Type 0} (same : K → K → Bool) where
  same_old : (xs ys : List K) (t p : ℕ) → t ≤ length xs → p ≤ length xs → same_at same (xs ++ ys) t p ≡ same_at same xs t p
  same_old xs ys t p h l = ap₂ (alike same) (key_old xs ys t h) (key_old xs ys p l)

  former-old : (xs ys : List K) (t : ℕ) → t ≤ length xs → former_of same (xs ++ ys) t ≡ former_of same xs t
  former-old xs ys t h = greatest_same (same_at same (xs ++ ys) t) (same_at same xs t) (t - 1) (λ p l. same_old xs ys t p h (omega arith))

  -- the newest position with a key is the greatest one
  former-greatest : (k : K) (past : List K) → greatest (λ p. alike same (Some k) (key_at (reverse past) p)) (length past) ≡ former same k past
  former-greatest k [] = refl
  former-greatest k (x ∷ past) =
      let xs = reverse past in
      let n = length past in
      let at : key_at (reverse (x ∷ past)) (suc n) ≡ Some x = key_newest x past in
      let r : greatest (λ p. alike same (Some k) (key_at (reverse (x ∷ past)) p)) n ≡ former same k past
      = greatest_same _ (λ p. alike same (Some k) (key_at xs p)) n (λ p l. ap (alike same (Some k)) (key_earlier x past p l)) ∙ former-greatest k past in
      ap₂ (λ b g. cond (alike same (Some k) b) (suc n) g) at r

  former_new : (k : K) (past : List K) → former_of same (reverse (k ∷ past)) (suc (length past)) ≡ former same k past
  former_new k past =
      let xs = reverse past in
      let n = length past in
      let at : key_at (reverse (k ∷ past)) (suc n) ≡ Some k = key_newest k past in
      let one : suc n - 1 ≡ n = omega arith in
      ap (greatest (same_at same (reverse (k ∷ past)) (suc n))) one
      ∙ greatest_same _ (λ p. alike same (Some k) (key_at xs p)) n (λ p l. ap₂ (alike same) at (key_earlier k past p l))
      ∙ former-greatest k past

  -- the log up to a position
  up_to_all : (k : K) (past : List K) → up_to (suc (length past)) (k ∷ past) ≡ k ∷ past
  up_to_all k past = let e : suc (length past) - suc (length past) ≡ 0 = omega arith in rw e

  up_to_more : (t : ℕ) (k : K) (past : List K) → t ≤ length past → up_to t (k ∷ past) ≡ up_to t past
  up_to_more t k past h = let e : suc (length past) - t ≡ suc (length past - t) = omega arith in rw e

  -- a thing told by the log up to t and by position t: at the newest position, and at the earlier ones
  by_position : {X : Type 0} (f : List K → X) (g : List K → ℕ → X)
      → (f [] ≡ g [] 0)
      → ((k : K) (past : List K) → f (k ∷ past) ≡ g (reverse (k ∷ past)) (suc (length past)))
      → ((k : K) (past : List K) (t : ℕ) → t ≤ length past → g (reverse (k ∷ past)) t ≡ g (reverse past) t)
      → (log : List K) (t : ℕ) → t ≤ length log → f (up_to t log) ≡ g (reverse log) t
  by_position f g none new old [] zero h = none
  by_position f g none new old [] (suc t) h = absurd (omega arith)
  by_position f g none new old (k ∷ past) t h =
      ⊎_elim
      (λ (l : t < suc (length past)). ap f (up_to_more t k past (omega arith)) ∙ by_position f g none new old past t (omega arith) ∙ sym (old k past t (omega arith)))
      (λ (l : suc (length past) ≤ t). let e : t ≡ suc (length past) = omega arith in rw e (ap f (up_to_all k past) ∙ new k past))
      (cases_lt t (suc (length past)))

  old-former : (k : K) (past : List K) (t : ℕ) → t ≤ length past → former_of same (reverse (k ∷ past)) t ≡ former_of same (reverse past) t
  old-former k past t h = ap (λ xs. former_of same xs t) (reverse_more k past) ∙ former-old (reverse past) (k ∷ []) t (omega (arith, length-reverse past))

  new_first : (k : K) (past : List K) (x : ℕ) → unless_first same (reverse (k ∷ past)) (suc (length past)) x ≡ cond (held same k past) (Some x) None
  new_first k past x =
      let e = former_new k past in
      ⊎_elim
      (λ (y : held same k past ≡ true).
      let p = former-held same k past y in
      let z : eqb (former same k past) 0 ≡ false = grind arith in
      rw (e, y, z))
      (λ (y : held same k past ≡ false).
      let z = former_absent same k past y in
      rw (e, y, z))
      (cases_Bool (held same k past))

  new_interval : (k : K) (past : List K) → interval same k past ≡ interval_of same (reverse (k ∷ past)) (suc (length past))
  new_interval k past =
      sym (new_first k past (back same k past))
      ∙ ap (λ f. unless_first same (reverse (k ∷ past)) (suc (length past)) (suc (length past) - f)) (sym (former_new k past))

  old-interval : (k : K) (past : List K) (t : ℕ) → t ≤ length past → interval_of same (reverse (k ∷ past)) t ≡ interval_of same (reverse past) t
  old-interval k past t h = ap (λ f. cond (eqb f 0) None (Some (t - f))) (old-former k past t h)

  old-distance : (k : K) (past : List K) (t : ℕ) → t ≤ length past → distance_of same (reverse (k ∷ past)) t ≡ distance_of same (reverse past) t
  old-distance k past t h =
      let xs = reverse past in
      let f = former_of same xs t in
      let l : f ≤ t - 1 = greatest-le (same_at same xs t) (t - 1) in
      let w : window (t - f) f (reverse (k ∷ past)) ≡ window (t - f) f xs
      = ap (window (t - f) f) (reverse_more k past) ∙ window-old (t - f) f xs (k ∷ []) (omega (arith, length-reverse past)) in
      ap (λ p. cond (eqb p 0) None (Some (distinct same (window (t - p) p (reverse (k ∷ past)))))) (old-former k past t h)
      ∙ ap (λ ys. cond (eqb f 0) None (Some (distinct same ys))) w

  -- a cache, and a recency list, one access on
  pub cache_more : (c : ℕ) (ks xs : List K) (k : K) → cache_from same c ks (xs ++ (k ∷ [])) ≡ accessed same c k (cache_from same c ks xs)
  cache_more c ks [] k = refl
  cache_more c ks (x ∷ xs) k = cache_more c (accessed same c x ks) xs k

  pub misses_more : (c : ℕ) (ks xs : List K) (k : K) → misses_from same c ks (xs ++ (k ∷ [])) ≡ cond (held same k (cache_from same c ks xs)) 0 1 + misses_from same c ks xs
  misses_more c ks [] k = refl
  misses_more c ks (x ∷ xs) k = let r = misses_more c (accessed same c x ks) xs k in omega arith

  recent_more : (t : ℕ) (es : List (Entry K)) (xs : List K) (k : K) → recent_from same t es (xs ++ (k ∷ [])) ≡ touched same k (t + length xs) (recent_from same t es xs)
  recent_more t es [] k = ap (λ u. touched same k u es) (omega arith)
  recent_more t es (x ∷ xs) k =
      let fs = touched same x t es in
      recent_more (suc t) fs xs k ∙ ap (λ u. touched same k u (recent_from same (suc t) fs xs)) (omega arith)

  caches : (c : ℕ) (log : List K) → cache same c log ≡ cache_from same c [] (reverse log)
  caches c [] = refl
  caches c (k ∷ past) = ap (accessed same c k) (caches c past) ∙ sym (cache_more c [] (reverse past) k) ∙ ap (cache_from same c []) (sym (reverse_more k past))

  missed : (c : ℕ) (log : List K) → misses same c log ≡ misses_from same c [] (reverse log)
  missed c [] = refl
  missed c (k ∷ past) =
      ap₂ (λ ks m. cond (held same k ks) 0 1 + m) (caches c past) (missed c past) ∙ sym (misses_more c [] (reverse past) k) ∙ ap (misses_from same c []) (sym (reverse_more k past))

  recency : (log : List K) → recent same log ≡ recent_from same 1 [] (reverse log)
  recency [] = refl
  recency (k ∷ past) =
      let n = length past in
      let t : suc n ≡ 1 + length (reverse past) = omega (arith, length-reverse past) in
      ap₂ (touched same k) t (recency past) ∙ sym (recent_more 1 [] (reverse past) k) ∙ ap (recent_from same 1 []) (sym (reverse_more k past))

  -- windows
  abbrev by_start : ℕ → List K → List (List K)
  by_start w log = reverse (map reverse (windows w log))

  starts : (w : ℕ) (log : List K) → by_start w log ≡ windows_by_start w (reverse log)
  starts zero [] = refl
  starts (suc v) [] = let e : 1 - suc v ≡ 0 = omega arith in let y : leb (suc v) 0 ≡ false = grind arith in rw (e, y)
  starts w (k ∷ past) =
      let xs = reverse past in
      let n = length past in
      let len : length xs ≡ n = length-reverse past in
      let whole : length (reverse (k ∷ past)) ≡ suc n = length-reverse (k ∷ past) in
      let r = starts w past in
      let f : ℕ → List K = λ s. window w s (reverse (k ∷ past)) in
      let target : windows_by_start w (reverse (k ∷ past)) ≡ map f (positions (suc (suc n) - w)) = ap (λ l. map f (positions (suc l - w))) whole in
      ⊎_elim
      (λ (l : w < suc (suc n)).
      let y : leb w (suc n) ≡ true = grind arith in
      let split : by_start w (k ∷ past) ≡ by_start w past ++ (reverse (take w (k ∷ past)) ∷ []) = rw y (reverse_more (reverse (take w (k ∷ past))) (map reverse (windows w past))) in
      let m : suc (suc n) - w ≡ suc n - w + 1 = omega arith in
      let more : map f (positions (suc (suc n) - w)) ≡ map f (positions (suc n - w)) ++ (f (1 + (suc n - w)) ∷ [])
      = ap (λ j. map f (positions j)) m ∙ map-range_with_len_more f 1 (suc n - w) (1 + (suc n - w)) refl in
      let old : map f (positions (suc n - w)) ≡ windows_by_start w xs
      = map_same f (λ s. window w s xs) 1 (suc n - w) (λ s a b. ap (window w s) (reverse_more k past) ∙ window-old w s xs (k ∷ []) (omega arith))
      ∙ ap (λ j. map (λ s. window w s xs) (positions (suc j - w))) (sym len) in
      let new : f (1 + (suc n - w)) ≡ reverse (take w (k ∷ past))
      = ap (λ j. take w (drop j (reverse (k ∷ past)))) (omega arith) ∙ window-newest w (k ∷ past) (omega arith) in
      split ∙ ap₂ (λ a b. a ++ (b ∷ [])) (r ∙ sym old) (sym new) ∙ sym more ∙ sym target)
      (λ (l : suc (suc n) ≤ w).
      let y : leb w (suc n) ≡ false = grind arith in
      let m : suc (suc n) - w ≡ 0 = omega arith in
      let m' : suc (length xs) - w ≡ 0 = omega arith in
      let a : by_start w (k ∷ past) ≡ by_start w past = rw y in
      let b : windows_by_start w xs ≡ [] = rw m' in
      let b' : map f (positions (suc (suc n) - w)) ≡ [] = rw m in
      a ∙ r ∙ b ∙ sym b' ∙ sym target)
      (cases_lt w (suc (suc n)))

  -- the answers of all positions, collected from the newest on
  abbrev collected : (K → List K → Option ℕ) → List K → List ℕ
  collected newest [] = []
  collected newest (k ∷ past) = listed (newest k past) ++ collected newest past

  intervals-collected : (log : List K) → intervals same log ≡ collected (interval same) log
  intervals-collected [] = refl
  intervals-collected (k ∷ past) = ap (λ xs. listed (interval same k past) ++ xs) (intervals-collected past)

  distances-collected : (log : List K) → distances same log ≡ collected (distance same) log
  distances-collected [] = refl
  distances-collected (k ∷ past) = ap (λ xs. listed (distance same k past) ++ xs) (distances-collected past)

  tallied : (newest : K → List K → Option ℕ) (g : List K → ℕ → Option ℕ)
      → ((k : K) (past : List K) → newest k past ≡ g (reverse (k ∷ past)) (suc (length past)))
      → ((k : K) (past : List K) (t : ℕ) → t ≤ length past → g (reverse (k ∷ past)) t ≡ g (reverse past) t)
      → (i : ℕ) (log : List K) → times i (collected newest log) ≡ positions_with (g (reverse log)) i (reverse log)
  tallied newest g new old i [] = refl
  tallied newest g new old i (k ∷ past) =
      let n = length past in
      let r = tallied newest g new old i past in
      let f : ℕ → ℕ = λ t. times i (listed (g (reverse (k ∷ past)) t)) in
      let f' : ℕ → ℕ = λ t. times i (listed (g (reverse past) t)) in
      let len : length (reverse past) ≡ n = length-reverse past in
      let whole : length (reverse (k ∷ past)) ≡ suc n = length-reverse (k ∷ past) in
      let first = sum_over-append (is_number i) (listed (newest k past)) (collected newest past) in
      let head : times i (listed (newest k past)) ≡ f (suc n) = ap (λ o. times i (listed o)) (new k past) in
      let more : sum_over f (positions (suc n)) ≡ sum_over f (positions n) + (f (suc n) + 0) = ap (sum_over f) (positions_more n) ∙ sum_over-append f (positions n) (suc n ∷ []) in
      let rest : sum_over f (positions n) ≡ sum_over f' (positions n) = sum_same f f' 1 n (λ t a b. ap (λ o. times i (listed o)) (old k past t (omega arith))) in
      let there : sum_over f' (positions n) ≡ times i (collected newest past) = ap (λ l. sum_over f' (positions l)) (sym len) ∙ sym r in
      let here : sum_over f (positions (length (reverse (k ∷ past)))) ≡ sum_over f (positions (suc n)) = ap (λ l. sum_over f (positions l)) whole in
      omega (arith, first, head, more, rest, there, here)

  -- first positions
  first : (log : List K) → reverse (firsts same log) ≡ first_positions same (reverse log)
  first [] = refl
  first (k ∷ past) =
      let n = length past in
      let p : ℕ → Bool = λ t. eqb (former_of same (reverse (k ∷ past)) t) 0 in
      let q : ℕ → Bool = λ t. eqb (former_of same (reverse past) t) 0 in
      let len : length (reverse past) ≡ n = length-reverse past in
      let whole : length (reverse (k ∷ past)) ≡ suc n = length-reverse (k ∷ past) in
      let old : filter p (positions n) ≡ reverse (firsts same past)
      = kept_same p q 1 n (λ t a b. ap (λ f. eqb f 0) (old-former k past t (omega arith)))
      ∙ ap (λ l. filter q (positions l)) (sym len) ∙ sym (first past) in
      let more : first_positions same (reverse (k ∷ past)) ≡ filter p (positions n) ++ filter p (suc n ∷ [])
      = ap (λ l. filter p (positions l)) whole ∙ ap (filter p) (positions_more n) ∙ filter-append p (positions n) (suc n ∷ []) in
      let new = former_new k past in
      ⊎_elim
      (λ (y : held same k past ≡ true).
      let a = former-held same k past y in
      let z : p (suc n) ≡ false = ap (λ f. eqb f 0) new ∙ grind arith in
      let here : filter p (suc n ∷ []) ≡ [] = rw z in
      let front : reverse (firsts same (k ∷ past)) ≡ reverse (firsts same past) = rw y in
      front ∙ sym old ∙ sym (append-nil (filter p (positions n))) ∙ ap (λ xs. filter p (positions n) ++ xs) (sym here) ∙ sym more)
      (λ (y : held same k past ≡ false).
      let a = former_absent same k past y in
      let z : p (suc n) ≡ true = ap (λ f. eqb f 0) (new ∙ a) in
      let here : filter p (suc n ∷ []) ≡ suc n ∷ [] = rw z in
      let front : reverse (firsts same (k ∷ past)) ≡ reverse (firsts same past) ++ (suc n ∷ []) = rw y (reverse_more (suc n) (firsts same past)) in
      front ∙ ap₂ ◌++◌ (sym old) (sym here) ∙ sym more)
      (cases_Bool (held same k past))

module _ {K : Type 0} {same : K → K → Bool} (laws : Lawful same) where
  new_distance : (k : K) (past : List K) → distance same k past ≡ distance_of same (reverse (k ∷ past)) (suc (length past))
  new_distance k past =
      let n = length past in
      let f = former same k past in
      let b = back same k past in
      let at = former_new same k past in
      ⊎_elim
      (λ (y : held same k past ≡ true).
      let lo = former-held same k past y in
      let hi = former-le same k past in
      let w : window b f (reverse (k ∷ past)) ≡ reverse (take b past)
      = ap (window b f) (reverse_more k past) ∙ window-old b f (reverse past) (k ∷ []) (omega (arith, length-reverse past))
      ∙ ap (λ j. take b (drop j (reverse past))) (omega arith) ∙ window-newest b past (omega arith) in
      let d : distinct same (take b past) ≡ distinct same (window b f (reverse (k ∷ past))) = sym (distinct-reverse laws (take b past)) ∙ ap (distinct same) (sym w) in
      ap (λ m. cond (held same k past) (Some m) None) d
      ∙ sym (new_first same k past (distinct same (window b f (reverse (k ∷ past)))))
      ∙ ap (λ p. unless_first same (reverse (k ∷ past)) (suc n) (distinct same (window (suc n - p) p (reverse (k ∷ past))))) (sym at))
      (λ (y : held same k past ≡ false).
      rw y (sym (new_first same k past _ ∙ rw y)))
      (cases_Bool (held same k past))

  totals : (w : ℕ) (log : List K) → total same w log ≡ sum_over (distinct same) (windows_by_start w (reverse log))
  totals w log =
      let ws = windows w log in
      sym (sum_over_each (λ xs. distinct same (reverse xs)) (distinct same) (distinct-reverse laws) ws)
      ∙ sym (sum_over-map (distinct same) reverse ws)
      ∙ sym (sum_over-reverse (distinct same) (map reverse ws))
      ∙ ap (sum_over (distinct same)) (starts same w log)

  -- last positions: no newer key, and no later one of the log, is the same
  abbrev held_at : List K → Option K → Bool
  held_at newer None = false
  held_at newer (Some x) = held same x newer

  abbrev last_in : List K → List K → ℕ → ℕ → Bool
  last_in newer xs n t = cond (held_at newer (key_at xs t)) false (eqb (greatest (same_at same xs t) n) t)

  nth_some : {X : Type 0} (xs : List X) (i : ℕ) → i < length xs → (x : X) × (slice_get xs i ≡ Some x)
  nth_some [] i h = absurd (omega arith)
  nth_some (x ∷ xs) zero h = (x, refl)
  nth_some (x ∷ xs) (suc i) h = nth_some xs i (omega arith)

  key_some : (xs : List K) (t : ℕ) → 1 ≤ t → t ≤ length xs → (x : K) × (key_at xs t ≡ Some x)
  key_some xs zero l h = absurd (omega arith)
  key_some xs (suc t) l h = nth_some xs t (omega arith)

  last-old : (newer past : List K) (k : K) (t : ℕ) → 1 ≤ t → t ≤ length past →
      last_in newer (reverse (k ∷ past)) (suc (length past)) t ≡ last_in (k ∷ newer) (reverse past) (length past) t
  last-old newer past k t l h =
      let n = length past in
      let xs = reverse past in
      let len : length xs ≡ n = length-reverse past in
      let key = key_some xs t l (omega arith) in
      let x = key.0 in
      let e : key_at xs t ≡ Some x = key.1 in
      let e' : key_at (reverse (k ∷ past)) t ≡ Some x = key_earlier k past t h ∙ e in
      let at : key_at (reverse (k ∷ past)) (suc n) ≡ Some k = key_newest k past in
      let g : greatest (same_at same (reverse (k ∷ past)) t) n ≡ greatest (same_at same xs t) n
      = greatest_same _ _ n (λ p a. ap (λ ys. same_at same ys t p) (reverse_more k past) ∙ same_old same xs (k ∷ []) t p (omega arith) (omega arith)) in
      let new : same_at same (reverse (k ∷ past)) t (suc n) ≡ same x k = ap₂ (alike same) e' at in
      let left : last_in newer (reverse (k ∷ past)) (suc n) t ≡ cond (held same x newer) false (eqb (cond (same x k) (suc n) (greatest (same_at same xs t) n)) t)
      = ap₂ (λ o m. cond (held_at newer o) false (eqb m t)) e' (ap₂ (λ b m. cond b (suc n) m) new g) in
      let right : last_in (k ∷ newer) xs n t ≡ cond (same x k || held same x newer) false (eqb (greatest (same_at same xs t) n) t)
      = ap (λ o. cond (held_at (k ∷ newer) o) false (eqb (greatest (same_at same xs t) n) t)) e in
      let far : eqb (suc n) t ≡ false = grind arith in
      left ∙ grind arith ∙ sym right

  last-before : (newer log : List K) → reverse (lasts_before same newer log) ≡ filter (last_in newer (reverse log) (length log)) (positions (length log))
  last-before newer [] = refl
  last-before newer (k ∷ past) =
      let n = length past in
      let p = last_in newer (reverse (k ∷ past)) (suc n) in
      let q = last_in (k ∷ newer) (reverse past) n in
      let old : filter p (positions n) ≡ reverse (lasts_before same (k ∷ newer) past)
      = kept_same p q 1 n (λ t a b. last-old newer past k t a (omega arith)) ∙ sym (last-before (k ∷ newer) past) in
      let more : filter p (positions (suc n)) ≡ filter p (positions n) ++ filter p (suc n ∷ [])
      = ap (filter p) (positions_more n) ∙ filter-append p (positions n) (suc n ∷ []) in
      let at : key_at (reverse (k ∷ past)) (suc n) ≡ Some k = key_newest k past in
      let self : same_at same (reverse (k ∷ past)) (suc n) (suc n) ≡ true = ap₂ (alike same) at at ∙ laws.reflexive k in
      let top : greatest (same_at same (reverse (k ∷ past)) (suc n)) (suc n) ≡ suc n = rw self in
      let equal : eqb (suc n) (suc n) ≡ true = grind arith in
      let new : p (suc n) ≡ cond (held same k newer) false true = ap₂ (λ o m. cond (held_at newer o) false (eqb m (suc n))) at top ∙ ap (λ b. cond (held same k newer) false b) equal in
      ⊎_elim
      (λ (y : held same k newer ≡ true).
      let z : p (suc n) ≡ false = rw y at new in
      let here : filter p (suc n ∷ []) ≡ [] = rw z in
      let front : reverse (lasts_before same newer (k ∷ past)) ≡ reverse (lasts_before same (k ∷ newer) past) = rw y in
      front ∙ sym old ∙ sym (append-nil (filter p (positions n))) ∙ ap (λ xs. filter p (positions n) ++ xs) (sym here) ∙ sym more)
      (λ (y : held same k newer ≡ false).
      let z : p (suc n) ≡ true = rw y at new in
      let here : filter p (suc n ∷ []) ≡ suc n ∷ [] = rw z in
      let front : reverse (lasts_before same newer (k ∷ past)) ≡ reverse (lasts_before same (k ∷ newer) past) ++ (suc n ∷ []) = rw y (reverse_more (suc n) (lasts_before same (k ∷ newer) past)) in
      front ∙ ap₂ ◌++◌ (sym old) (sym here) ∙ sym more)
      (cases_Bool (held same k newer))

  held_none : (o : Option K) → held_at [] o ≡ false
  held_none None = refl
  held_none (Some x) = refl

  last : (log : List K) → reverse (lasts same log) ≡ last_positions same (reverse log)
  last log =
      let n = length log in
      let xs = reverse log in
      let p = last_in [] xs n in
      let q : ℕ → Bool = λ t. eqb (greatest (same_at same xs t) n) t in
      last-before [] log
      ∙ kept_same p q 1 n (λ t a b. ap (λ h. cond h false (q t)) (held_none (key_at xs t)))
      ∙ ap (λ l. filter (λ t. eqb (greatest (same_at same xs t) l) t) (positions l)) (sym (length-reverse log))

  -- the access log, one call on
  append_step : (places : ℕ) (k : K) (log : List K) → reverse (record_log same places k log) ≡ appended same places k (reverse log)
  append_step places k log =
      let n = length-reverse log in
      let h = held-reverse laws k log in
      let d = distinct-reverse laws log in
      rw (n, h, d)
      (⊎_elim
      (λ (y : ltb (length log) 4096 ≡ true).
      ⊎_elim
      (λ (z : (held same k log || ltb (distinct same log) places) ≡ true). rw (y, z) (reverse_more k log))
      (λ (z : (held same k log || ltb (distinct same log) places) ≡ false). rw (y, z))
      (cases_Bool (held same k log || ltb (distinct same log) places)))
      (λ (y : ltb (length log) 4096 ≡ false). rw y)
      (cases_Bool (ltb (length log) 4096)))

  retract_step : (log : List K) → reverse (retract_log log) ≡ without_newest (reverse log)
  retract_step [] = refl
  retract_step (k ∷ past) =
      let n : length (reverse past) ≡ length (reverse (k ∷ past)) - 1 = omega (arith, length-reverse past, length-reverse (k ∷ past)) in
      sym (ap (take (length (reverse (k ∷ past)) - 1)) (reverse_more k past) ∙ take_at (reverse past) (k ∷ []) (length (reverse (k ∷ past)) - 1) n)

  calls_step : (places : ℕ) (calls : List (Call K)) (log : List K) → reverse (log_after same places calls log) ≡ standing_after same places calls (reverse log)
  calls_step places [] log = refl
  calls_step places (Record k ∷ calls) log = calls_step places calls (record_log same places k log) ∙ ap (standing_after same places calls) (append_step places k log)
  calls_step places (Retract ∷ calls) log = calls_step places calls (retract_log log) ∙ ap (standing_after same places calls) (retract_step log)
  calls_step places (Clear ∷ calls) log = calls_step places calls []

  pub textbook : (log : List K) → Textbook same log
  textbook log =
      let xs = reverse log in
      let reuses = λ (i : ℕ). ap (times i) (intervals-collected same log) ∙ tallied same (interval same) (interval_of same) (new_interval same) (old-interval same) i log in
      let last_gap : ℕ → ℕ = λ l. suc (length log) - l in
      record {
        appends = λ k. reverse_more k log;
        position = by_position same newest_key key_at refl (λ k past. sym (key_newest k past)) key_earlier log;
        formerly = λ k. sym (former_new same k log);
        interval = by_position same (newest_interval same) (interval_of same) refl (new_interval same) (old-interval same) log;
        distance = by_position same (newest_distance same) (distance_of same) refl new_distance (old-distance same) log;
        starts = λ w. starts same w log;
        totals = λ w. totals w log;
        reuses = reuses;
        depths = λ d. ap (times d) (distances-collected same log) ∙ tallied same (distance same) (distance_of same) new_distance (old-distance same) d log;
        first = first same log;
        last = last log;
        gaps = λ i.
            let f = sym (sum_over-reverse (is_number i) (firsts same log)) ∙ ap (times i) (first same log) in
            let l = sum_over-map (is_number i) last_gap (lasts same log) ∙ sym (sum_over-reverse (λ x. is_number i (last_gap x)) (lasts same log)) ∙ sym (sum_over-map (is_number i) last_gap (reverse (lasts same log))) ∙ ap (λ ls. times i (map last_gap ls)) (last log) in
            omega (arith, reuses i, f, l);
        caches = λ c. caches same c log;
        misses = λ c. missed same c log;
        recency = recency same log;
      }

  pub agrees : TextbookAgrees same
  agrees = (textbook, λ places calls. calls_step places calls [])
