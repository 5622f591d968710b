-- What the clock chip and the history of its wires both speak of: events, the seconds, a write.
-- Document 01, "The clock's wires".
use Rattle.std.specs.Prelude.{Bool, cond, ℕ, ◌+◌, ◌%◌, ◌^◌, leb}
use Rattle.std.proofs.Math.Option.{Option, none, some}
use Rattle.clock_spec.specs.declared.Target.{Target}
use Rattle.clock_spec.specs.declared.Command.{Command}
use Rattle.clock_spec.specs.declared.Command.TheVariants.{Write, Read, Extended, Illegal}

-- What an item does to the chip beside the wires: nothing, a second tick (SE), or a power cut with its seconds off (PW).
pub data Event : Type 0 where
  quiet : Event
  second : Event
  off : ℕ → Event

-- "After 4,294,967,295 the next second is 0."
abbrev pub wrap : ℕ → ℕ
wrap n = n % 2 ^ 32

-- W-204: "While either bit is 1, neither SE nor time off moves the seconds": bit 7 or bit 6 of the test byte, which is then 64 or more.
abbrev pub stops : ℕ → Bool
stops test = leb 64 test

-- So many seconds more, unless the test byte stops them.
abbrev pub advance : Bool → ℕ → ℕ → ℕ
advance stopped n s = cond stopped s (wrap (s + n))

-- The seconds after an event: "SE adds one to the seconds", "the seconds grow by the time off".
abbrev pub elapse : Bool → Event → ℕ → ℕ
elapse stopped quiet s = s
elapse stopped second s = advance stopped 1 s
elapse stopped (off n) s = advance stopped n s

-- A write: what it goes to, and its byte.
pub record Written : Type 0 where
  pub to : Target
  pub byte : ℕ

-- What a command and a data byte write, if the command is a legal write.
abbrev pub write_by : Command → ℕ → Option Written
write_by (Write t) b = some (record { to = t; byte = b })
write_by (Read t) b = none
write_by (Extended z a) b = none
write_by Illegal b = none

-- Bit 7 of a byte.
abbrev pub bit7 : ℕ → Bool
bit7 b = leb 128 b
