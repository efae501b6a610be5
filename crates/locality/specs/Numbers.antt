-- Sums and counts over lists and over tables. (Not by the library's sum: that is a fold from the left, and these read
-- from the front, like the definitions over logs.)
use Rattle.std.specs.Prelude.{ℕ, zero, suc, ◌+◌, if◌then◌else◌, List, [], ◌∷◌, ◌==◌, nat_lt}

-- the sum of f over a list
abbrev pub sum_over : {X : Type 0} → (X → ℕ) → List X → ℕ
sum_over f [] = 0
sum_over f (x ∷ xs) = f x + sum_over f xs

-- 1 if x is the number i, else 0
abbrev pub is_number : ℕ → ℕ → ℕ
is_number i x = if x == i then 1 else 0

-- how often the number i stands in a list
abbrev pub times : ℕ → List ℕ → ℕ
times i xs = sum_over (is_number i) xs

-- how many numbers of a list are above w
abbrev pub count_above : ℕ → List ℕ → ℕ
count_above w xs = sum_over (λ x. if nat_lt w x then 1 else 0) xs

-- the sum of f i over the entries i of a table that ends at n, those above w only
abbrev pub sum_above : ℕ → ℕ → (ℕ → ℕ) → ℕ
sum_above w zero f = 0
sum_above w (suc n) f = (if nat_lt w (suc n) then f (suc n) else 0) + sum_above w n f
