-- What is refused is answered with the bytes of its number.
use Rattle.std.specs.Prelude.{◌≡◌, Err, refl}
use Rattle.refusal.specs.declared.Refusal.{Refusal}
use Rattle.refusal.specs.Numbers.{number_of}
use Rattle.item_spec.specs.Record.{answer_bytes}
use Rattle.item_record.specs.Refused.{no_bytes}

pub no-answer : (r : Refusal) → no_bytes (number_of r) ≡ answer_bytes (Err r)
unfolding no_bytes answer_bytes
no-answer r = refl
