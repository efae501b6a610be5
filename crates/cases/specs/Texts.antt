-- The texts that answer a line.
use Rattle.std.specs.Prelude.{ℕ, ◌+◌, ◌-◌, Bool, if◌then◌else◌, List, ◌++◌, map, reverse, length, Some, None, codes, decimal, Option, nat_lt}
use Rattle.std.specs.List.{range_with_len, flat_map, prefix_len}
use Rattle.std.specs.Char.{is_ascii_alphabetic}
use Rattle.locality.specs.Log.{distinct}
use Rattle.lines.specs.Lines.{quoted, without_return}
use Rattle.cases.specs.Letters.{one_letter, as_letter}
use Rattle.cases.specs.Values.{value_of, first_index, end_index}
use Rattle.cases.specs.declared.curve.Curve.{Curve}
use Rattle.cases.specs.declared.curve.Curve.TheVariants.{Totals, Windows, Gaps, Misses, Intervals, Distances}
use Rattle.cases.specs.declared.letters.Letter.{Letter}

-- a value after a blank, or a dash for none
abbrev pub cell_text : Option ℕ → List ℕ
cell_text None = codes " -"
cell_text (Some x) = codes " " ++ decimal x

-- what a row begins with
abbrev pub label_of : Curve → List ℕ
label_of Totals = codes "  totals   "
label_of Windows = codes "  windows  "
label_of Gaps = codes "  gaps     "
label_of Misses = codes "  misses   "
label_of Intervals = codes "  intervals"
label_of Distances = codes "  distances"

module _ {K : Type 0} (same : K → K → Bool) where
  -- the values of a curve, from its first index to its last
  unfoldable pub values_text : Curve → List K → List ℕ
  values_text curve log =
      flat_map (λ i. cell_text (value_of same curve i log)) (range_with_len (first_index curve) (end_index curve (length log) (distinct same log) - first_index curve))

  -- one row
  unfoldable pub row_text : Curve → List K → List ℕ
  row_text curve log = label_of curve ++ (values_text curve log ++ codes "\n")

  -- a row for each curve
  abbrev pub rows_text : List K → List ℕ
  rows_text log =
      row_text Totals log ++ (row_text Windows log ++ (row_text Gaps log ++ (row_text Misses log ++ (row_text Intervals log ++ row_text Distances log))))

-- a burst, its length and its number of different keys
abbrev pub head_text : List ℕ → ℕ → List ℕ
head_text line m = quoted line ++ (codes ": accesses " ++ (decimal (length line) ++ (codes ", keys " ++ (decimal m ++ codes "\n"))))

-- a byte of a line that is no letter, by its position from 1
abbrev pub stray_text : List ℕ → ℕ → List ℕ
stray_text line p = quoted line ++ (codes ": byte " ++ (decimal p ++ codes " is no letter; a line is a burst of letters, one for each access\n"))

-- a line that is too long
abbrev pub long_text : ℕ → List ℕ
long_text n = codes "a line of " ++ (decimal n ++ codes " bytes is too long: a burst has at most 128 letters here\n")

-- the accesses of a line, newest first
abbrev pub log_of : List ℕ → List Letter
log_of line = reverse (map as_letter line)

-- what a burst measures
unfoldable pub burst_text : List ℕ → List ℕ
burst_text line = head_text line (distinct one_letter (log_of line)) ++ rows_text one_letter (log_of line)

-- the answer to a line: too long, not all letters, or the burst measured
abbrev pub answer_to : List ℕ → List ℕ
answer_to line =
    if nat_lt 128 (length line) then long_text (length line) else if nat_lt (prefix_len is_ascii_alphabetic line) (length line) then stray_text line (prefix_len is_ascii_alphabetic line + 1) else burst_text line

-- a carriage return at the end of a line is dropped first
abbrev pub answer_text : List ℕ → List ℕ
answer_text bytes = answer_to (without_return bytes)
