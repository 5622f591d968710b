-- One whole record, by document 01 and request W-211: refused, or carried out and answered.
use Rattle.std.specs.Prelude.{ℕ, List, Option, Some, None, Result, Ok, Err}
use Rattle.refusal.specs.declared.Refusal.{Refusal}
use Rattle.item_spec.specs.declared.Item.{Item}
use Rattle.item_spec.specs.declared.Many.{Many}
use Rattle.item_spec.specs.declared.Decoded.{Decoded}
use Rattle.item_spec.specs.declared.Decoded.TheVariants.{One}
use Rattle.item_spec.specs.Many.{singles_of}
use Rattle.item_spec.specs.Kinds.{decoded_of}
use Rattle.machine_spec.specs.declared.Machine.{Machine}
use Rattle.machine_spec.specs.declared.Did.{Did}
use Rattle.machine_spec.specs.Machine.{no_value}
use Rattle.machine_spec.specs.Stages.{refuses_of}
use Rattle.machine_spec.specs.Step.{step_of, after_items, answer_of}
use Rattle.run_spec.specs.declared.Turn.{Turn}

-- The next state and the answer.

abbrev pub refused_turn : Machine → Refusal → Turn
refused_turn m r = record { machine = m; answer = Err r }

abbrev pub done_turn : Did → Turn
done_turn d = record { machine = d.machine; answer = Ok (answer_of d) }

-- Where the item is refused, by itself or by the state: "state unchanged". Else it is carried out.
abbrev pub turn_unless : Machine → Item → Option Refusal → Turn
turn_unless m x None = done_turn (step_of m x)
turn_unless m x (Some r) = refused_turn m r

-- W-211: "Final state and answer equal those of the last of the single WR items." The values are in the record's bytes s.
abbrev pub many_turn : Machine → Many → List ℕ → Turn
many_turn m x s = done_turn (no_value (after_items m (singles_of x s)))

abbrev pub turn_by : Machine → List ℕ → Result Decoded Refusal → Turn
turn_by m s (Ok (One x)) = turn_unless m x (refuses_of m x)
turn_by m s (Ok (Decoded.Many x)) = many_turn m x s
turn_by m s (Err r) = refused_turn m r

unfoldable pub turn_of : Machine → List ℕ → Turn
turn_of m s = turn_by m s (decoded_of s)
