-- Sums over lists, and over the entries of a table. Assumes nothing.
use Rattle.std.proofs.Common.{◌≡◌, ℕ, zero, suc, ◌+◌, ◌-◌, ◌*◌, ◌<◌, ◌≤◌, cond, ltb, List, [], ◌∷◌, ◌++◌, map, length, get_or, drop, sym, refl, ap, ◌∙◌, ap₂, ⊎_elim, arith, length-drop}
use Rattle.std.proofs.lemmas.Bool.{cases_lt}
use Rattle.std.specs.List.{AllByRecursion}
use Rattle.std.specs.List.{sum}
use Rattle.std.proofs.lemmas.List.{drop_all, get_or-drop}
use Rattle.std.proofs.lemmas.List.Sums.{sum_by-drop_more}
use Rattle.locality.specs.Numbers.{sum_over, is_number, times, sum_above, count_above}
use Rattle.locality.specs.Tables.{beyond}

pub sum_over-append : {X : Type 0} (f : X → ℕ) (xs ys : List X) → sum_over f (xs ++ ys) ≡ sum_over f xs + sum_over f ys
sum_over-append f [] ys = omega arith
sum_over-append f (x ∷ xs) ys = omega (arith, sum_over-append f xs ys)

pub sum_over-map : {X Y : Type 0} (f : Y → ℕ) (g : X → Y) (xs : List X) → sum_over f (map g xs) ≡ sum_over (λ x. f (g x)) xs
sum_over-map f g [] = refl
sum_over-map f g (x ∷ xs) = ap (λ s. f (g x) + s) (sum_over-map f g xs)

pub sum_over-add : {X : Type 0} (f g : X → ℕ) (xs : List X) → sum_over (λ x. f x + g x) xs ≡ sum_over f xs + sum_over g xs
sum_over-add f g [] = refl
sum_over-add f g (x ∷ xs) = omega (arith, sum_over-add f g xs)

pub sum_over_each : {X : Type 0} (f g : X → ℕ) → ((x : X) → f x ≡ g x) → (xs : List X) → sum_over f xs ≡ sum_over g xs
sum_over_each f g h [] = refl
sum_over_each f g h (x ∷ xs) = omega (arith, sum_over_each f g h xs, h x)

pub sum_over_zero : {X : Type 0} (xs : List X) → sum_over (λ x. 0) xs ≡ 0
sum_over_zero [] = refl
sum_over_zero (x ∷ xs) = omega (arith, sum_over_zero xs)

pub sum_over_none : {X : Type 0} (f : X → ℕ) (xs : List X) → AllByRecursion (λ x. f x ≡ 0) xs → sum_over f xs ≡ 0
sum_over_none f [] h = refl
sum_over_none f (x ∷ xs) h = omega (arith, sum_over_none f xs h.1)

-- numbers from 1 on have no 0 among them
pub no_zero : (xs : List ℕ) → AllByRecursion (λ x. 1 ≤ x) xs → times 0 xs ≡ 0
no_zero [] h = refl
no_zero (x ∷ xs) h = let r = no_zero xs h.1 in let l = h.0 in grind arith

-- tables
pub sum_above_same : (w n : ℕ) (f g : ℕ → ℕ) → ((i : ℕ) → i ≤ n → f i ≡ g i) → sum_above w n f ≡ sum_above w n g
sum_above_same w zero f g h = refl
sum_above_same w (suc n) f g h =
    let e : f (suc n) ≡ g (suc n) = h (suc n) (omega arith) in
    let r = sum_above_same w n f g (λ i l. h i (omega arith)) in
    cc

pub sum_above-add : (w n : ℕ) (f g : ℕ → ℕ) → sum_above w n (λ i. f i + g i) ≡ sum_above w n f + sum_above w n g
sum_above-add w zero f g = refl
sum_above-add w (suc n) f g =
    let r = sum_above-add w n f g in
    grind arith

-- one number's part of a table of counts, each entry i weighted by f i
past : (f : ℕ → ℕ) (w n g : ℕ) → n < g → sum_above w n (λ i. f i * is_number i g) ≡ 0
past f w zero g h = refl
past f w (suc n) g h = let r = past f w n g (omega arith) in grind arith

one : (f : ℕ → ℕ) (w n g : ℕ) → g ≤ n → sum_above w n (λ i. f i * is_number i g) ≡ cond (ltb w g) (f g) 0
one f w zero g h = grind arith
one f w (suc n) g h =
    ⊎_elim
    (λ (l : g < suc n). let r = one f w n g (omega arith) in grind arith)
    (λ (l : suc n ≤ g). let r = past f w n g l in let e : g ≡ suc n = omega arith in grind arith)
    (cases_lt g (suc n))

nothing : (f : ℕ → ℕ) (w n : ℕ) → sum_above w n (λ i. f i * 0) ≡ 0
nothing f w zero = refl
nothing f w (suc n) = let r = nothing f w n in grind arith

weighted : (f : ℕ → ℕ) (w n : ℕ) (gs : List ℕ) → AllByRecursion (λ g. g ≤ n) gs → sum_above w n (λ i. f i * times i gs) ≡ sum_over (λ g. cond (ltb w g) (f g) 0) gs
weighted f w n [] h = nothing f w n
weighted f w n (g ∷ gs) h =
    sum_above_same w n _ (λ i. f i * is_number i g + f i * times i gs) (λ i l. omega arith)
    ∙ sum_above-add w n (λ i. f i * is_number i g) (λ i. f i * times i gs)
    ∙ ap₂ ◌+◌ (one f w n g h.0) (weighted f w n gs h.1)

-- what lies beyond w
pub table : (w n : ℕ) (gs : List ℕ) → AllByRecursion (λ g. g ≤ n) gs → sum_above w n (λ i. (i - w) * times i gs) ≡ sum_over (λ g. g - w) gs
table w n gs h = weighted (λ i. i - w) w n gs h ∙ sum_over_each (λ g. cond (ltb w g) (g - w) 0) (λ g. g - w) (λ g. grind arith) gs

-- how many lie beyond w
pub count_above_table : (w n : ℕ) (gs : List ℕ) → AllByRecursion (λ g. g ≤ n) gs → sum_above w n (λ i. times i gs) ≡ count_above w gs
count_above_table w n gs h = sum_above_same w n (λ i. times i gs) (λ i. 1 * times i gs) (λ i l. omega arith) ∙ weighted (λ i. 1) w n gs h

-- how often a number stands in a list, from the sums of what lies beyond w
pub second : (w : ℕ) (gs : List ℕ) → times (suc w) gs + 2 * sum_over (λ g. g - suc w) gs ≡ sum_over (λ g. g - w) gs + sum_over (λ g. g - suc (suc w)) gs
second w [] = refl
second w (g ∷ gs) =
    let r = second w gs in
    let p : is_number (suc w) g + 2 * (g - suc w) ≡ (g - w) + (g - suc (suc w)) = grind arith in
    omega arith

-- a table summed from the entry after w on
pub sum_above_none : (w : ℕ) (f : ℕ → ℕ) (n : ℕ) → n ≤ w → sum_above w n f ≡ 0
sum_above_none w f zero h = refl
sum_above_none w f (suc n) h = let r = sum_above_none w f n (omega arith) in grind arith

pub sum_above_more : (w : ℕ) (f : ℕ → ℕ) (i : ℕ) → w < i → sum_above w (i - 1) f + f i ≡ sum_above w i f
sum_above_more w f zero h = absurd (omega arith)
sum_above_more w f (suc n) h =
    let z : suc n - 1 ≡ n = omega arith in
    ap (λ m. sum_above w m f + f (suc n)) z ∙ grind arith

-- a table that is read from entry w on
sum_above_shift : (w n : ℕ) (f g : ℕ → ℕ) → ((i : ℕ) → 1 ≤ i → i ≤ n → f (w + i) ≡ g i) → sum_above w (w + n) f ≡ sum_above 0 n g
sum_above_shift w zero f g h = sum_above_none w f (w + 0) (omega arith)
sum_above_shift w (suc n) f g h =
    let r = sum_above_shift w n f g (λ i l m. h i l (omega arith)) in
    let e : w + suc n - 1 ≡ w + n = omega arith in
    sym (sum_above_more w f (w + suc n) (omega arith)) ∙ ap₂ ◌+◌ (ap (λ m. sum_above w m f) e ∙ r) (h (suc n) (omega arith) (omega arith)) ∙ (let z : n ≡ suc n - 1 = omega arith in ap (λ m. sum_above 0 m g + g (suc n)) z) ∙ sum_above_more 0 g (suc n) (omega arith)

pub beyond_from : (w : ℕ) (xs : List ℕ) → w < length xs → beyond w xs ≡ beyond 0 (drop w xs)
beyond_from w xs h =
    let last : length xs - 1 ≡ w + (length (drop w xs) - 1) = omega (arith, length-drop w xs) in
    ap (λ n. sum_above w n (λ i. (i - w) * get_or xs i 0)) last
    ∙ sum_above_shift w (length (drop w xs) - 1) (λ i. (i - w) * get_or xs i 0) (λ i. (i - 0) * get_or (drop w xs) i 0)
    (λ i l m. let d : w + i - w ≡ i - 0 = omega arith in ap₂ ◌*◌ d (sym (get_or-drop w xs i 0)))

-- the entries above c, summed
sum_above_rest : (c n : ℕ) (xs : List ℕ) → c ≤ n → n < length xs → sum_above c n (λ i. get_or xs i 0) + sum (drop (n + 1) xs) ≡ sum (drop (c + 1) xs)
sum_above_rest c zero xs h m = let e : 0 ≡ c = omega arith in let r = ap (λ k. sum (drop (k + 1) xs)) e in omega (arith, r)
sum_above_rest c (suc n) xs h m =
    ⊎_elim
    (λ (l : c < suc n).
    let r = sum_above_rest c n xs (omega arith) (omega arith) in
    let next = sum_by-drop_more (λ x. x) xs (n + 1) 0 (omega arith) in
    let e : n + 1 ≡ suc n = omega arith in
    let k : suc n - 1 ≡ n = omega arith in
    let more = sum_above_more c (λ i. get_or xs i 0) (suc n) l in
    let more' = ap (λ j. sum_above c j (λ i. get_or xs i 0) + get_or xs (suc n) 0) k in
    let next' = ap (λ j. get_or xs j 0 + sum (drop (j + 1) xs)) e in
    omega (arith, r, next, more, more', next'))
    (λ (l : suc n ≤ c). let e : suc n ≡ c = omega arith in let z = sum_above_none c (λ i. get_or xs i 0) (suc n) l in let r = ap (λ k. sum (drop (k + 1) xs)) e in omega (arith, z, r))
    (cases_lt c (suc n))

pub sum_above_is : (c : ℕ) (xs : List ℕ) → sum_above c (length xs - 1) (λ i. get_or xs i 0) ≡ sum (drop (c + 1) xs)
sum_above_is c xs =
    ⊎_elim
    (λ (l : c < length xs).
    let all = drop_all (length xs - 1 + 1) xs (omega arith) in
    let r = sum_above_rest c (length xs - 1) xs (omega arith) (omega arith) in
    let none = ap sum all in
    omega (arith, r, none))
    (λ (l : length xs ≤ c). sum_above_none c (λ i. get_or xs i 0) (length xs - 1) (omega arith) ∙ sym (ap sum (drop_all (c + 1) xs (omega arith))))
    (cases_lt c (length xs))
