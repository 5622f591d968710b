-- The machines that have one board.
use Rattle.std.specs.Prelude.{ℕ, List}
use Rattle.clock.specs.declared.Clock.{Clock}
use Rattle.disk_spec.specs.declared.Drives.{Drives}
use Rattle.machine_spec.specs.declared.Machine.{Machine}

-- The board (VIA, disk lines, IN lines) of a machine, with anything beside it.
abbrev pub on_board : Machine → Clock → List ℕ → Drives → Machine
on_board m clock sense drives = record { via = m.via; clock = clock; disk = m.disk; inputs = m.inputs; sense = sense; drives = drives }
