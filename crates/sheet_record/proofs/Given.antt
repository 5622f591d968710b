-- What a step of a walk gave, where its item is known.
use Rattle.std.proofs.Common.{◌≡◌, Some, Ok, Err, Result}
use Rattle.refusal.specs.declared.Refusal.{Refusal}
use Rattle.sheet_record.specs.declared.Record.{Record}
use Rattle.sheet_record.specs.declared.Records.{Records}
use Rattle.sheet_record.specs.Walk.{GivesRecord}

pub given-row : (w v : Records) (x : Result Record Refusal) (r : Record) → x ≡ Ok r → GivesRecord w (Some x) v → GivesRecord w (Some (Ok r)) v
given-row w v x r e g = rw e at g

pub given-broken : (w v : Records) (x : Result Record Refusal) (e : Refusal) → x ≡ Err e → GivesRecord w (Some x) v → GivesRecord w (Some (Err e)) v
given-broken w v x e q g = rw q at g
