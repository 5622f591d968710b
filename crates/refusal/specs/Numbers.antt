-- The numbers of the refusals: documents 01 ("Refusals") and 02 (W-203's 8, W-214's 9, W-209's 10, W-210's 11).
use Rattle.std.specs.Prelude.{ℕ, Option, Some, None}
use Rattle.refusal.specs.declared.Refusal.{Refusal}
use Rattle.refusal.specs.declared.Refusal.TheVariants.{CutRecord, UnknownKind, WrongLength, UnknownAddress, OutOfRange, NoRoom, NotAccepted, DiskMismatch, RetiredRegister, TransactionOpen, TooManyKeys}

-- "For an answer that is an enum, a definition gives this paper's number."
abbrev pub number_of : Refusal → ℕ
number_of CutRecord = 1
number_of UnknownKind = 2
number_of WrongLength = 3
number_of UnknownAddress = 4
number_of OutOfRange = 5
number_of NoRoom = 6
number_of NotAccepted = 7
number_of DiskMismatch = 8
number_of RetiredRegister = 9
number_of TransactionOpen = 10
number_of TooManyKeys = 11

-- 0 where nothing is refused.
abbrev pub stop_of : Option Refusal → ℕ
stop_of None = 0
stop_of (Some r) = number_of r
