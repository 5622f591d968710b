-- What a step of a walk gave, where its item is known.
use Rattle.std.proofs.Common.{ℕ, List, ◌≡◌, Some, Ok, Err, Result, Bor}
use Rattle.refusal.specs.declared.Refusal.{Refusal}
use Rattle.capture_record.specs.declared.Records.{Records}
use Rattle.capture_record.specs.Walk.{GivesRecord}

pub given-row : (w v : Records) (x : Result (Bor (List ℕ)) Refusal) (r : Bor (List ℕ)) → x ≡ Ok r → GivesRecord w (Some x) v → GivesRecord w (Some (Ok r)) v
given-row w v x r e g = rw e at g

pub given-cut : (w v : Records) (x : Result (Bor (List ℕ)) Refusal) (e : Refusal) → x ≡ Err e → GivesRecord w (Some x) v → GivesRecord w (Some (Err e)) v
given-cut w v x e q g = rw q at g
