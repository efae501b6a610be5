-- A burst's accesses: windows and footprints, intervals and distances, and the counts of them.
-- A log is the list of the standing keys, newest first: recording puts a key in front, and position t, counted
-- from 1 at the oldest access, is the head of the part that has length t. `past` is a log before its next access.
-- Keys are compared by the sameness of their kind. specs/ByPosition.antt says the same by position, oldest first.
use Rattle.std.specs.Prelude.{ℕ, suc, ◌+◌, ◌-◌, Bool, if◌then◌else◌, List, [], ◌∷◌, ◌++◌, map, length, take, drop, Some, None, Option, nat_le}
use Rattle.std.specs.List.{list_any}
use Rattle.locality.specs.Numbers.{sum_over, times}

-- the numbers that an answer holds: one, or none
abbrev pub listed : Option ℕ → List ℕ
listed None = []
listed (Some x) = x ∷ []

-- the window of length w that ends at the newest access, if the log is long enough
abbrev pub newest_window : {K : Type 0} → ℕ → List K → List (List K)
newest_window w log = if nat_le w (length log) then take w log ∷ [] else []

-- every window of length w: one for each position that it can end at, and at length 0 one before the first
abbrev pub windows : {K : Type 0} → ℕ → List K → List (List K)
windows w [] = newest_window w []
windows w (k ∷ past) = newest_window w (k ∷ past) ++ windows w past

-- the log as it was when position t was its newest access
abbrev pub up_to : {K : Type 0} → ℕ → List K → List K
up_to t log = drop (length log - t) log

module _ {K : Type 0} (same : K → K → Bool) where
  -- a key is held: a same one stands in the list
  abbrev pub held : K → List K → Bool
  held k xs = list_any (same k) xs

  -- the number of different keys
  abbrev pub distinct : List K → ℕ
  distinct [] = 0
  distinct (x ∷ xs) = (if held x xs then 0 else 1) + distinct xs

  -- the footprint total: the different keys of each window, counted afresh, added up
  abbrev pub total : ℕ → List K → ℕ
  total w log = sum_over distinct (windows w log)

  -- the former position of an access of k after `past`: the newest position with a same key, 0 if there is none
  abbrev pub former : K → List K → ℕ
  former k [] = 0
  former k (x ∷ past) = if same k x then suc (length past) else former k past

  -- how far back the former position lies; the access of k itself has the position one above the length of `past`
  abbrev pub back : K → List K → ℕ
  back k past = suc (length past) - former k past

  -- the interval of an access of k after `past`: its position less the former one; a first access has none
  abbrev pub interval : K → List K → Option ℕ
  interval k past = if held k past then Some (back k past) else None

  -- its distance: the different keys from the former position up to the newest, its own key among them
  abbrev pub distance : K → List K → Option ℕ
  distance k past = if held k past then Some (distinct (take (back k past) past)) else None

  -- the interval of the newest access of a log
  abbrev pub newest_interval : List K → Option ℕ
  newest_interval [] = None
  newest_interval (k ∷ past) = interval k past

  -- the distance of the newest access of a log
  abbrev pub newest_distance : List K → Option ℕ
  newest_distance [] = None
  newest_distance (k ∷ past) = distance k past

  -- the interval at position t
  abbrev pub interval_at : ℕ → List K → Option ℕ
  interval_at t log = newest_interval (up_to t log)

  -- the distance at position t
  abbrev pub distance_at : ℕ → List K → Option ℕ
  distance_at t log = newest_distance (up_to t log)

  -- the intervals of the positions that have one
  abbrev pub intervals : List K → List ℕ
  intervals [] = []
  intervals (k ∷ past) = listed (interval k past) ++ intervals past

  -- the distances of the positions that have one
  abbrev pub distances : List K → List ℕ
  distances [] = []
  distances (k ∷ past) = listed (distance k past) ++ distances past

  -- reuse count i: the positions with interval i
  abbrev pub reuse_count : ℕ → List K → ℕ
  reuse_count i log = times i (intervals log)

  -- depth count d: the positions with distance d
  abbrev pub depth_count : ℕ → List K → ℕ
  depth_count d log = times d (distances log)

  -- the first positions of the keys: those whose key no earlier access has
  abbrev pub firsts : List K → List ℕ
  firsts [] = []
  firsts (k ∷ past) = (if held k past then [] else suc (length past) ∷ []) ++ firsts past

  -- the positions of a log whose key neither a newer access of it nor one of `newer` has
  abbrev pub lasts_before : List K → List K → List ℕ
  lasts_before newer [] = []
  lasts_before newer (k ∷ past) = (if held k newer then [] else suc (length past) ∷ []) ++ lasts_before (k ∷ newer) past

  -- the last positions of the keys: those whose key no newer access has
  abbrev pub lasts : List K → List ℕ
  lasts log = lasts_before [] log

  -- the last gaps: n + 1 − l for the last position l of each key
  abbrev pub last_gaps : List K → List ℕ
  last_gaps log = map (λ l. suc (length log) - l) (lasts log)

  -- gap count i: the positions with interval i, the keys first at i, and the keys last at n + 1 − i
  abbrev pub gap_count : ℕ → List K → ℕ
  gap_count i log = reuse_count i log + times i (firsts log) + times i (last_gaps log)
