-- The clock chip's store, and what reads, writes and events do to it, by document 01, "The clock's wires", and W-206.
use Rattle.std.specs.Prelude.{Bool, false, cond, List, ℕ, ◌/◌, ◌%◌, ◌^◌, get_or, set, drop, replicate}
use Rattle.std.proofs.Math.Option.{Option, none, some}
use Rattle.clock_spec.specs.Writable.{writable}
use Rattle.clock_spec.specs.declared.Target.{Target}
use Rattle.clock_spec.specs.declared.Target.TheVariants.{Seconds, Test, Protect, Cell}
use Rattle.clock_spec.specs.declared.Chip.{Chip}
use Rattle.clock_spec.specs.Command.{cells_of}
use Rattle.levels.specs.Levels.{all_below}
use Rattle.octets.specs.Octets.{replace}
use Rattle.clock_spec.specs.Shared.{Event, stops, elapse, Written, bit7}
use Rattle.clock_spec.specs.declared.Store.{Store}

-- ---- the state, field by field

abbrev pub with_cells : Store → List ℕ → Store
with_cells s x = record { chip = s.chip; cells = x; seconds = s.seconds; protect = s.protect; test = s.test }

abbrev pub with_seconds : Store → ℕ → Store
with_seconds s x = record { chip = s.chip; cells = s.cells; seconds = x; protect = s.protect; test = s.test }

abbrev pub with_protect : Store → Bool → Store
with_protect s x = record { chip = s.chip; cells = s.cells; seconds = s.seconds; protect = x; test = s.test }

abbrev pub with_test : Store → ℕ → Store
with_test s x = record { chip = s.chip; cells = s.cells; seconds = s.seconds; protect = s.protect; test = x }

-- ---- fresh, and accepted

-- "All 256 cells are empty when the machine is fresh, each holding 0"; seconds, protect and test are 0 too.
abbrev pub fresh_store : Chip → Store
fresh_store k = record { chip = k; cells = replicate 256 0; seconds = 0; protect = false; test = 0 }

-- "Room not in use holds 0": the cells past those that the chip has.
unfoldable pub unused_clear : Store → Bool
unused_clear s = all_below 1 (drop (cells_of s.chip) s.cells)

-- ---- reads and writes

-- The byte that a legal read takes.
unfoldable pub fetch : Target → Store → ℕ
fetch (Seconds k) s = s.seconds / 256 ^ k % 256
fetch Test s = s.test
fetch Protect s = 0
fetch (Cell i) s = get_or s.cells i 0

-- What a write puts where; of protect's byte "only bit 7 is kept".
unfoldable pub put : Target → ℕ → Store → Store
put (Seconds k) b s = with_seconds s (replace k b s.seconds)
put Test b s = with_test s b
put Protect b s = with_protect s (bit7 b)
put (Cell i) b s = with_cells s (set s.cells i b)

-- "Protect is judged as it stands just before."
unfoldable pub act : Option Written → Store → Store
act none s = s
act (some w) s = cond (writable w.to s.protect) (put w.to w.byte s) s

-- SE and the time off move the seconds, as the test byte lets them, and nothing else of the store.
abbrev pub with_event : Event → Store → Store
with_event e s = with_seconds s (elapse (stops s.test) e s.seconds)
