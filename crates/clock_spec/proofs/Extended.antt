-- W-206's transactions of two command bytes act a byte later than those of one: a read takes its byte at the 16th rise, a write acts at the 24th, neither before.
use Rattle.std.proofs.Common.{◌≡◌, ℕ, Bool, refl}
use Rattle.std.proofs.Math.Option.{none}
use Rattle.clock_spec.specs.Patterns.{extend}
use Rattle.clock_spec.specs.Phase.{by_first, by_second, byte_phase, with_byte, write_of}
use Rattle.clock_spec.specs.declared.Bytes.{Bytes}
use Rattle.clock_spec.specs.declared.Command.{Command}
use Rattle.clock_spec.specs.declared.Command.TheVariants.{Write, Read, Extended, Illegal}
use Rattle.clock_spec.specs.declared.Phase.TheVariants.{Listening}
use Rattle.clock_spec.specs.declared.Store.{Store}

-- At the eighth rise the chip goes on listening, whatever the first byte asks: no byte is taken to be read.
pub byte_phase-Extended : (s : Store) (bs : Bytes) (b : ℕ) (z : Bool) (a : ℕ)
    → byte_phase s bs b (by_first (Extended z a)) ≡ Listening (with_byte bs b) 0 0
byte_phase-Extended s bs b z a = refl

-- No write is complete at the rise that ends its command: the data byte follows.
write_of-by_first : (c : Command) (d : ℕ) → write_of (by_first c) d ≡ none
write_of-by_first (Write t) d = refl
write_of-by_first (Read t) d = refl
write_of-by_first (Extended z a) d = refl
write_of-by_first Illegal d = refl

-- So none is complete at the 16th rise, where a second command byte ends.
pub write_of-Extended : (z : Bool) (a b d : ℕ) → write_of (by_second (Extended z a) b) d ≡ none
write_of-Extended z a b d = write_of-by_first (extend (Extended z a) b) d
