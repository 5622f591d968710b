-- W-207: "runs with either give the same answers, counts and state on every list, from every accepted state of both chips".
use Rattle.std.specs.Prelude.{◌≡◌, List, ℕ}
use Rattle.run_engines.specs.declared.Reached.{Reached}

-- What two runs hand back, t with the answer memory a and p with b.
pub record Same (t p : Reached) (a b : List ℕ) : Type 0 where
  pub state : t.machine ≡ p.machine
  pub stop : t.ran.stop ≡ p.ran.stop
  pub consumed : t.ran.consumed ≡ p.ran.consumed
  pub written : t.ran.written ≡ p.ran.written
  pub answers : a ≡ b
