-- What protect forbids: document 01, "The clock's wires".
use Rattle.std.specs.Prelude.{Bool, true, not}
use Rattle.clock_spec.specs.declared.Target.{Target}
use Rattle.clock_spec.specs.declared.Target.TheVariants.{Seconds, Test, Protect, Cell}

-- "While protect bit 7 is 1, only write-protect can be written."
abbrev pub writable : Target → Bool → Bool
writable (Seconds k) p = not p
writable Test p = not p
writable Protect p = true
writable (Cell i) p = not p
