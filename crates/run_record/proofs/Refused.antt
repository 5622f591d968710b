-- A record that is not carried out.
use Rattle.std.specs.Prelude.{ℕ, List, Err, ◌≡◌}
use mathlib.Core.Path.{refl}
use Rattle.refusal.specs.declared.Refusal.{Refusal}
use Rattle.machine_spec.specs.declared.Machine.{Machine}
use Rattle.run_record.specs.Judged.{turn_judged}

pub refused : (m : Machine) (vs : List ℕ) (r : Refusal) → turn_judged m vs (Err r) ≡ record { machine = m; answer = Err r }
unfolding turn_judged
refused m vs r = refl
