-- Refusals of the same number, one test after the other, are one refusal where any of the tests says so.
use mathlib.Core.Path.{◌≡◌, refl}
use mathlib.Core.Bool.{Bool, true, false, cond, ◌||◌}
use Rattle.std.specs.Prelude.{Result}
use Rattle.refusal.specs.declared.Refusal.{Refusal}

pub any2 : {T : Type 0} (a b : Bool) (r x : Result T Refusal) → cond a r (cond b r x) ≡ cond (a || b) r x
any2 true b r x = refl
any2 false true r x = refl
any2 false false r x = refl

pub any3 : {T : Type 0} (a b c : Bool) (r x : Result T Refusal) → cond a r (cond b r (cond c r x)) ≡ cond (a || b || c) r x
any3 true b c r x = refl
any3 false b c r x = any2 b c r x

pub any4 : {T : Type 0} (a b c d : Bool) (r x : Result T Refusal) → cond a r (cond b r (cond c r (cond d r x))) ≡ cond (a || b || c || d) r x
any4 true b c d r x = refl
any4 false b c d r x = any3 b c d r x
