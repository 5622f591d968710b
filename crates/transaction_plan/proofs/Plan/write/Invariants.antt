use Rattle.std.proofs.Common.{◌≡◌, ◌++◌, length, drop}
use Rattle.transaction_plan.specs.Plan.{parts}
use Rattle.transaction_plan.proofs.Plan.write.Given as goal

-- the memory after k parts
abbrev pub invariant-loop-k : goal.invariant-loop-k
invariant-loop-k l = record {
  here : l.at ≡ length (parts l.self l.k);
  is : l.out ≡ parts l.self l.k ++ drop l.at l.initial.out;
}
