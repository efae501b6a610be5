-- Lines as they are read, and as they are shown.
use Rattle.std.specs.Prelude.{ℕ, ◌-◌, Bool, if◌then◌else◌, ◌&&◌, List, ◌++◌, map, length, take, ◌==◌, slice_index, codes, nat_le, nat_lt}

-- the last byte of a line is 13
abbrev pub ends_in_return : List ℕ → Bool
ends_in_return line = slice_index line (length line - 1) == 13

-- a line without a byte 13 at its end
abbrev pub without_return : List ℕ → List ℕ
without_return line = if ends_in_return line then take (length line - 1) line else line

-- a byte as it is shown: a question mark for what is not printable ASCII
abbrev pub shown : ℕ → ℕ
shown b = if nat_le 32 b && nat_lt b 127 then b else 63

-- a line in quotation marks
abbrev pub quoted : List ℕ → List ℕ
quoted line = codes "\"" ++ (map shown line ++ codes "\"")
