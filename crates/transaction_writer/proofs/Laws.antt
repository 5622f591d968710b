-- The parts of a plan are the transaction.
use Prim.Native.Nat.{ℕ, ◌/◌}
use mathlib.Core.Path.{◌≡◌, refl}
use mathlib.Core.Bool.{Bool, true, false, cond}
use Rattle.std.specs.Prelude.{Some, None}
use Rattle.transaction_spec.specs.Acts.{bytes_of, acts_by}
use Rattle.transaction_spec.specs.Asked.{count_by}
use Rattle.transaction_plan.specs.declared.Plan.{Plan}
use Rattle.transaction_plan.specs.Plan.{sent_at, asked_at, data_at, act_at, part_at, parts}

abbrev planned : ℕ → ℕ → Bool → Bool → ℕ → ℕ → ℕ → Plan
planned q r z l c e d = record { outputs = q; directions = r; command = c; second = cond l (Some e) None; byte = cond z None (Some d) }

pub all-parts : (q r : ℕ) (z l : Bool) (c e d : ℕ) → parts (planned q r z l c e d) (count_by z l) ≡ bytes_of (q / 8) (r / 8) (acts_by z l c e d)
unfolding parts part_at act_at data_at asked_at sent_at
all-parts q r true true c e d = refl
all-parts q r true false c e d = refl
all-parts q r false true c e d = refl
all-parts q r false false c e d = refl
