-- A record's turn, once the state has judged it.
use Rattle.std.specs.Prelude.{ℕ, ◌<◌, List, length, Result, Ok, Err}
use Rattle.refusal.specs.declared.Refusal.{Refusal}
use Rattle.item_spec.specs.declared.Item.{Item}
use Rattle.item_spec.specs.Items.{ItemInRange}
use Rattle.machine_spec.specs.declared.Machine.{Machine}
use Rattle.machine_write.specs.Values.{step_with}
use Rattle.run_spec.specs.declared.Turn.{Turn}
use Rattle.run_spec.specs.Turn.{refused_turn, done_turn}

-- Where it is refused: "state unchanged". Else its item is carried out with these values: nothing is left to ask. An MW comes as its last write.
unfoldable pub turn_judged : Machine → List ℕ → Result Item Refusal → Turn
turn_judged m vs (Err r) = refused_turn m r
turn_judged m vs (Ok i) = done_turn (step_with m i vs)

abbrev pub JudgedInRange : List ℕ → Result Item Refusal → Type 0
JudgedInRange vs (Err r) = Unit {0}
JudgedInRange vs (Ok i) = ItemInRange i × (0 < length vs)
