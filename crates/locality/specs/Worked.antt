-- Bursts worked out by hand. A letter is a key, and the accesses stand oldest first.
use Rattle.std.specs.Prelude.{◌≡◌, ℕ, suc, Bool, true, false, List, [], ◌∷◌, map, reverse, length, replicate, Some, None, Ok, Err, Option, Result, nat_eq}
use Rattle.std.specs.List.{range_with_len, AllByRecursion}
use Rattle.refusals.specs.declared.Refusal.{Refusal}
use Rattle.refusals.specs.declared.Refusal.TheVariants.{SizeAboveKeys}
use Rattle.refusals.specs.Numbers.{number_of}
use Rattle.keys.specs.Blocks.{one_line, line_at}
use Rattle.locality.specs.declared.call.Call.{Call}
use Rattle.locality.specs.declared.call.Call.TheVariants.{Record, Retract, Clear}
use Rattle.locality.specs.Log.{windows, total, distinct, gap_count}
use Rattle.locality.specs.Cache.{misses}
use Rattle.locality.specs.Calls.{most_accesses, access_log, record_answer, retract_answer, footprint_answer, gap_answer, interval_answer, distance_answer, FillAnswer}

-- a worked case, with what is stated of it
pub data Row : Type 0 where
  -- accesses; totals and numbers of windows for lengths 0 to n; gap counts for entries 0 to n; misses for sizes 0 to m
  measured : List ℕ → List ℕ → List ℕ → List ℕ → List ℕ → Row
  -- a number of places; calls on a new burst; a key; what a record of it then answers, a refusal by its number
  recorded : ℕ → List (Call ℕ) → ℕ → Result (Option (ℕ × ℕ)) ℕ → Row
  -- a number of places; a key that stands so often, alone; another key; what a record of it answers
  crowded : ℕ → ℕ → ℕ → ℕ → Result (Option (ℕ × ℕ)) ℕ → Row
  -- calls on a new burst; what a retract then answers
  retracted : List (Call ℕ) → Result (Unit {0}) ℕ → Row
  -- accesses; a length; what footprint answers: total and windows
  footprinted : List ℕ → ℕ → Result (ℕ × ℕ) ℕ → Row
  -- accesses; an entry; what gap answers
  gapped : List ℕ → ℕ → Result ℕ ℕ → Row
  -- accesses; a position; what interval and distance answer
  placed : List ℕ → ℕ → Result (Option ℕ) ℕ → Result (Option ℕ) ℕ → Row
  -- accesses; a size; the lengths that fill it; the lengths up to n that do not
  filled : List ℕ → ℕ → List ℕ → List ℕ → Row
  -- accesses; a size that fill refuses; the refusal's number
  unfilled : List ℕ → ℕ → ℕ → Row
  -- two byte addresses; whether they are the same line key
  lined : ℕ → ℕ → Bool → Row

-- f at 0 to n
abbrev values_to : (ℕ → ℕ) → ℕ → List ℕ
values_to f n = map f (range_with_len 0 (suc n))

-- an answer with its refusal told by the number
abbrev numbered : {X : Type 0} → Result X Refusal → Result X ℕ
numbered (Ok x) = Ok x
numbered (Err e) = Err (number_of e)

-- what a row states holds by the definitions, letters being the same where they are equal
abbrev pub Holds : Row → Type 0
Holds (measured accesses totals counts gaps missed) =
    (values_to (λ w. total nat_eq w (reverse accesses)) (length accesses) ≡ totals)
    × (values_to (λ w. length (windows w (reverse accesses))) (length accesses) ≡ counts)
    × (values_to (λ i. gap_count nat_eq i (reverse accesses)) (length accesses) ≡ gaps)
    × (values_to (λ c. misses nat_eq c (reverse accesses)) (distinct nat_eq (reverse accesses)) ≡ missed)
Holds (recorded places calls k answer) = numbered (record_answer nat_eq places k (access_log nat_eq places calls)) ≡ answer
Holds (crowded places k times key answer) = numbered (record_answer nat_eq places key (replicate times k)) ≡ answer
Holds (retracted calls answer) = numbered (retract_answer (access_log nat_eq most_accesses calls)) ≡ answer
Holds (footprinted accesses w answer) = numbered (footprint_answer nat_eq w (reverse accesses)) ≡ answer
Holds (gapped accesses i answer) = numbered (gap_answer nat_eq i (reverse accesses)) ≡ answer
Holds (placed accesses t interval distance) =
    (numbered (interval_answer nat_eq t (reverse accesses)) ≡ interval)
    × (numbered (distance_answer nat_eq t (reverse accesses)) ≡ distance)
Holds (filled accesses c lengths others) =
    AllByRecursion (λ w. FillAnswer nat_eq c (reverse accesses) (Ok w)) lengths
    × AllByRecursion (λ w. FillAnswer nat_eq c (reverse accesses) (Ok w) → ⊥) others
Holds (unfilled accesses c number) =
    FillAnswer nat_eq c (reverse accesses) (Err SizeAboveKeys)
    × ((w : ℕ) → FillAnswer nat_eq c (reverse accesses) (Ok w) → ⊥)
    × (number_of SizeAboveKeys ≡ number)
Holds (lined p q answer) = one_line (line_at p) (line_at q) ≡ answer

-- the letter a
abbrev a : ℕ
a = 1

-- the letter b
abbrev b : ℕ
b = 2

-- the letter c
abbrev c : ℕ
c = 3

-- the cases
abbrev pub rows : List Row
rows =
    measured [] (0 ∷ []) (1 ∷ []) (0 ∷ []) (0 ∷ [])
    ∷ measured (a ∷ []) (0 ∷ 1 ∷ []) (2 ∷ 1 ∷ []) (0 ∷ 2 ∷ []) (1 ∷ 1 ∷ [])
    ∷ measured (a ∷ a ∷ []) (0 ∷ 2 ∷ 1 ∷ []) (3 ∷ 2 ∷ 1 ∷ []) (0 ∷ 3 ∷ 0 ∷ []) (2 ∷ 1 ∷ [])
    ∷ measured (a ∷ b ∷ b ∷ b ∷ []) (0 ∷ 4 ∷ 4 ∷ 3 ∷ 2 ∷ []) (5 ∷ 4 ∷ 3 ∷ 2 ∷ 1 ∷ []) (0 ∷ 4 ∷ 1 ∷ 0 ∷ 1 ∷ []) (4 ∷ 2 ∷ 2 ∷ [])
    ∷ measured (a ∷ b ∷ c ∷ c ∷ b ∷ a ∷ []) (0 ∷ 6 ∷ 9 ∷ 10 ∷ 8 ∷ 6 ∷ 3 ∷ []) (7 ∷ 6 ∷ 5 ∷ 4 ∷ 3 ∷ 2 ∷ 1 ∷ []) (0 ∷ 3 ∷ 2 ∷ 3 ∷ 0 ∷ 1 ∷ 0 ∷ []) (6 ∷ 5 ∷ 4 ∷ 3 ∷ [])
    ∷ measured (a ∷ a ∷ b ∷ []) (0 ∷ 3 ∷ 3 ∷ 2 ∷ []) (4 ∷ 3 ∷ 2 ∷ 1 ∷ []) (0 ∷ 3 ∷ 1 ∷ 1 ∷ []) (3 ∷ 2 ∷ 2 ∷ [])
    ∷ measured (a ∷ b ∷ b ∷ []) (0 ∷ 3 ∷ 3 ∷ 2 ∷ []) (4 ∷ 3 ∷ 2 ∷ 1 ∷ []) (0 ∷ 3 ∷ 1 ∷ 1 ∷ []) (3 ∷ 2 ∷ 2 ∷ [])
    ∷ measured (a ∷ b ∷ a ∷ []) (0 ∷ 3 ∷ 4 ∷ 2 ∷ []) (4 ∷ 3 ∷ 2 ∷ 1 ∷ []) (0 ∷ 2 ∷ 3 ∷ 0 ∷ []) (3 ∷ 3 ∷ 2 ∷ [])
    ∷ recorded most_accesses (Record a ∷ Record b ∷ Record a ∷ Retract ∷ []) b (Ok (Some (1, 1)))
    ∷ recorded 1 [] a (Ok None)
    ∷ recorded 1 (Record a ∷ []) b (Err 2)
    ∷ recorded 1 (Record a ∷ Record b ∷ []) a (Ok (Some (1, 1)))
    ∷ recorded most_accesses (Record a ∷ Record b ∷ Retract ∷ []) b (Ok None)
    ∷ recorded most_accesses (Record a ∷ Record b ∷ Retract ∷ []) a (Ok (Some (1, 1)))
    ∷ recorded most_accesses (Record a ∷ Clear ∷ []) a (Ok None)
    ∷ recorded 0 [] a (Err 2)
    ∷ crowded 1 a 4095 a (Ok (Some (1, 1)))
    ∷ crowded 1 a 4095 b (Err 2)
    ∷ crowded 1 a 4096 a (Err 1)
    ∷ crowded 1 a 4096 b (Err 1)
    ∷ retracted [] (Err 3)
    ∷ retracted (Record a ∷ Retract ∷ []) (Err 3)
    ∷ retracted (Record a ∷ []) (Ok tt)
    ∷ footprinted (a ∷ b ∷ b ∷ b ∷ []) 4 (Ok (2, 1))
    ∷ footprinted (a ∷ b ∷ b ∷ b ∷ []) 5 (Err 4)
    ∷ gapped (a ∷ b ∷ b ∷ b ∷ []) 4 (Ok 1)
    ∷ gapped (a ∷ b ∷ b ∷ b ∷ []) 5 (Err 6)
    ∷ placed (a ∷ b ∷ a ∷ []) 0 (Err 5) (Err 5)
    ∷ placed (a ∷ b ∷ a ∷ []) 2 (Ok None) (Ok None)
    ∷ placed (a ∷ b ∷ a ∷ []) 3 (Ok (Some 2)) (Ok (Some 2))
    ∷ placed (a ∷ b ∷ a ∷ []) 4 (Err 5) (Err 5)
    ∷ filled (a ∷ b ∷ c ∷ c ∷ b ∷ a ∷ []) 2 (3 ∷ 4 ∷ 5 ∷ 6 ∷ []) (0 ∷ 1 ∷ 2 ∷ [])
    ∷ unfilled (a ∷ b ∷ c ∷ c ∷ b ∷ a ∷ []) 4 8
    ∷ lined 64 127 true
    ∷ lined 64 128 false
    ∷ lined 127 128 false
    ∷ []

-- every case holds
abbrev pub WorkedBursts : Type 0
WorkedBursts = AllByRecursion Holds rows
