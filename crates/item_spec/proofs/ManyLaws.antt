-- Of an MW: its single WR records are read as its single WR items.
use Prim.Native.Nat.{ℕ, ◌+◌, ◌*◌}
use mathlib.Core.Path.{◌≡◌, sym, ap}
use mathlib.Core.List.{List}
use lib.ListN.{get_or}
use Rattle.std.specs.Prelude.{Option, Ok}
use Rattle.units.specs.Units.{for_ticks}
use Rattle.octets.specs.Octets.{le16_of, le32_of}
use Rattle.item_spec.specs.Items.{at_address, write_to, write_record}
use Rattle.item_spec.specs.Many.{single, single_bytes}
use Rattle.item_spec.specs.Kinds.{is_kind, one, decoded_of}
use Rattle.item_spec.specs.declared.Location.{Location}
use Rattle.item_spec.specs.declared.Many.{Many}
use Rattle.item_spec.specs.declared.Decoded.{Decoded}
use Rattle.item_spec.specs.declared.Decoded.TheVariants.{One}
use Rattle.item_spec.proofs.ItemRange.{many-range}

pub single-decoded : (s : List ℕ) (x : Many) → decoded_of s ≡ Ok (Decoded.Many x) → (a b v : ℕ) → decoded_of (single_bytes s a b v) ≡ Ok (One (single x (for_ticks (a + b * 256)) v))
unfolding decoded_of is_kind write_record le32_of le16_of
single-decoded s x e a b v = ap (λ (f : Option Location). one (at_address f (λ l. Ok (write_to l (for_ticks (a + b * 256)) v)))) (many-range s x e).found

-- the wait of the first is the record's
pub first-wait : (s : List ℕ) (x : Many) → decoded_of s ≡ Ok (Decoded.Many x) → for_ticks (get_or s 2 0 + get_or s 3 0 * 256) ≡ x.wait
unfolding le16_of
first-wait s x e = sym (many-range s x e).wait
