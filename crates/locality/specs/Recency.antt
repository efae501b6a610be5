-- The recency list: what has been accessed, newest first, and what a touch and a put back make of it.
-- Its entries are keys with times; the time of an access is its position.
use Rattle.std.specs.Prelude.{◌≡◌, ℕ, suc, ◌<◌, ◌≤◌, Bool, false, if◌then◌else◌, List, [], ◌∷◌, map, length, Some, None, Option, ◌==◌, nat_lt}
use Rattle.std.specs.List.{AllByRecursion}
use Rattle.locality.specs.declared.entry.Entry.{Entry}

-- the entry of a key and a time
abbrev pub at_time : {K : Type 0} → K → ℕ → Entry K
at_time k t = record { key = k; time = t }

-- the keys of entries
abbrev pub keys : {K : Type 0} → List (Entry K) → List K
keys es = map (λ e. e.key) es

-- the times of entries
abbrev pub times_of : {K : Type 0} → List (Entry K) → List ℕ
times_of es = map (λ e. e.time) es

-- the first element of a list that passes a test, or x
abbrev pub first_where : {X : Type 0} → (X → Bool) → X → List X → X
first_where passes x [] = x
first_where passes x (y ∷ ys) = if passes y then y else first_where passes x ys

-- a list without the first element that passes a test
abbrev pub without : {X : Type 0} → (X → Bool) → List X → List X
without passes [] = []
without passes (y ∷ ys) = if passes y then ys else y ∷ without passes ys

-- an entry put behind those with later times: in front of the first entry that is not later
abbrev pub placed : {K : Type 0} → Entry K → List (Entry K) → List (Entry K)
placed e [] = e ∷ []
placed e (f ∷ fs) = if nat_lt e.time f.time then f ∷ placed e fs else e ∷ f ∷ fs

-- a put back: at time 0 the front entry goes, else it takes the time and moves behind all entries with later times
abbrev pub put_back : {K : Type 0} → ℕ → List (Entry K) → List (Entry K)
put_back t [] = []
put_back t (e ∷ es) = if t == 0 then es else placed (at_time e.key t) es

-- times that fall from the front on: newest first
abbrev pub Falling : {K : Type 0} → List (Entry K) → Type 0
Falling [] = Unit {0}
Falling (e ∷ es) = AllByRecursion (λ f. f.time < e.time) es × Falling es

-- no two entries with the same key
abbrev pub Apart : {K : Type 0} → (K → K → Bool) → List (Entry K) → Type 0
Apart same [] = Unit {0}
Apart same (e ∷ es) = AllByRecursion (λ f. same e.key f.key ≡ false) es × Apart same es

-- a recency list as touches and put backs keep it: newest first, each key once, times from 1
pub record Orderly {K : Type 0} (same : K → K → Bool) (es : List (Entry K)) : Type 0 where
  pub falling : Falling es
  pub apart : Apart same es
  pub timed : AllByRecursion (λ e. 1 ≤ e.time) es

-- the time to put back after a touch that answered this: the former time, 0 after a first touch
abbrev pub former_time : Option (ℕ × ℕ) → ℕ
former_time None = 0
former_time (Some f) = f.1

-- what was found, with one more entry in front of it
abbrev pub deeper : Option (ℕ × ℕ) → Option (ℕ × ℕ)
deeper None = None
deeper (Some f) = Some (suc f.0, f.1)

module _ {K : Type 0} (same : K → K → Bool) where
  -- the key of a list that is the same as k, as it is stored there, or k
  abbrev pub stored : K → List K → K
  stored k ks = first_where (same k) k ks

  -- what a touch answers of a held key: its depth, counted from 1, and its time
  abbrev pub found : K → List (Entry K) → Option (ℕ × ℕ)
  found k [] = None
  found k (e ∷ es) = if same k e.key then Some (1, e.time) else deeper (found k es)

  -- the entries without the first that has a same key; an orderly list has no other
  abbrev pub others : K → List (Entry K) → List (Entry K)
  others k es = without (λ e. same k e.key) es

  -- a touch of k at time t: its entry, new or old, stands in front, with the new time and the key as first stored
  abbrev pub touched : K → ℕ → List (Entry K) → List (Entry K)
  touched k t es = at_time (stored k (keys es)) t ∷ others k es

  -- the recency list of a log: each access touches it, with its position for a time
  abbrev pub recent : List K → List (Entry K)
  recent [] = []
  recent (k ∷ past) = touched k (suc (length past)) (recent past)
