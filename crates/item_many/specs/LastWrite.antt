-- An MW as code hands it on: the last of its single WR items, after its wait. Its values stand in the record, the last of them at the end.
use Rattle.std.specs.Prelude.{ℕ, ◌-◌, List, length, get_or, Result, Ok, Err}
use Rattle.refusal.specs.declared.Refusal.{Refusal}
use Rattle.item_spec.specs.declared.Item.{Item}
use Rattle.item_spec.specs.declared.Decoded.{Decoded}
use Rattle.item_spec.specs.declared.Decoded.TheVariants.{One}
use Rattle.item_spec.specs.Many.{single}

abbrev pub as_last_write : List ℕ → Result Decoded Refusal → Result Item Refusal
as_last_write s (Ok (One i)) = Ok i
as_last_write s (Ok (Decoded.Many x)) = Ok (single x x.wait (get_or s (length s - 1) 0))
as_last_write s (Err r) = Err r
