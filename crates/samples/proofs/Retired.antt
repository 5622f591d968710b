-- W-214: the registers on which SN retires are those that W-203's drive has itself.
use Prim.Native.Nat.{ℕ}
use mathlib.Core.Path.{◌≡◌, refl}
use mathlib.Core.Bool.{Bool, true, false, ◌||◌}
use lib.Dec.{ltb, eqb}
use Rattle.item_spec.specs.Ranged.{is_retired}
use Rattle.disk_spec.specs.Sense.{is_drive_sense}

either : (a b c : Bool) → (a || b || c) ≡ (a || (b || c))
either true b c = refl
either false b c = refl

pub retired-registers : (r : ℕ) → is_retired r ≡ is_drive_sense r
unfolding is_retired is_drive_sense
retired-registers r = either (ltb r 6) (eqb r 12) (eqb r 15)
