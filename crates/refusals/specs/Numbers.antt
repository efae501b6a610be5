-- The number of each refusal, as docs/REFUSALS.md lists them.
use Rattle.std.specs.Prelude.{ℕ}
use Rattle.refusals.specs.declared.Refusal.{Refusal}
use Rattle.refusals.specs.declared.Refusal.TheVariants.{BurstFull, NoPlace, NothingToRetract, WindowTooLong, NoSuchPosition, NoSuchEntry, NoSuchRecentKey, SizeAboveKeys, NoLabel, LabelNoAccess, NoAddress, NotHexadecimal, TooManyDigits, CaptureTooLong, PartialRecord}

-- the number by which a refusal is told
abbrev pub number_of : Refusal → ℕ
number_of BurstFull = 1
number_of NoPlace = 2
number_of NothingToRetract = 3
number_of WindowTooLong = 4
number_of NoSuchPosition = 5
number_of NoSuchEntry = 6
number_of NoSuchRecentKey = 7
number_of SizeAboveKeys = 8
number_of NoLabel = 9
number_of LabelNoAccess = 10
number_of NoAddress = 11
number_of NotHexadecimal = 12
number_of TooManyDigits = 13
number_of CaptureTooLong = 14
number_of PartialRecord = 15
