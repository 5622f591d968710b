-- The items of a transaction by their numbers, and their bytes one after the other.
use Rattle.std.specs.Prelude.{ℕ, zero, suc, ◌-◌, ◌/◌, ◌%◌, ◌^◌, true, false, cond, List, [], ◌++◌, Option, Some, None, eqb, ltb}
use Rattle.transaction_spec.specs.declared.Act.{Act}
use Rattle.transaction_spec.specs.declared.Act.TheVariants.{Port, Side, Look}
use Rattle.transaction_spec.specs.Acts.{record_of}
use Rattle.transaction_plan.specs.declared.Plan.{Plan}

-- Item j of the sixteen that send a byte.
unfoldable pub sent_at : ℕ → ℕ → Act
sent_at x j = Port false (eqb (j % 2) 1) (eqb (x / 2 ^ (7 - j / 2) % 2) 1)

-- Item j of the three that ask for a bit.
unfoldable pub asked_at : ℕ → Act
asked_at j = cond (eqb j 0) (Port false false false) (cond (eqb j 1) Look (Port false true false))

-- Item j after the command, of a write and of a read.
unfoldable pub data_at : Option ℕ → ℕ → Act
data_at (Some d) j = cond (ltb j 16) (sent_at d j) (Port true true false)
data_at None j = cond (eqb j 0) (Side false) (cond (ltb j 25) (asked_at ((j - 1) % 3)) (Port true true false))

-- From item 19 on: where the command has a second byte, sixteen items more.
abbrev pub after_at : Option ℕ → Option ℕ → ℕ → Act
after_at (Some e) d k = cond (ltb k 35) (sent_at e (k - 19)) (data_at d (k - 35))
after_at None d k = data_at d (k - 19)

unfoldable pub act_at : Plan → ℕ → Act
act_at s k =
    cond (eqb k 0) (Port true false false)
    (cond (eqb k 1) (Side true)
    (cond (eqb k 2) (Port false false false)
    (cond (ltb k 19) (sent_at s.command (k - 3)) (after_at s.second s.byte k))))

-- Bits 3 to 7 of port B's bytes stay.
unfoldable pub part_at : Plan → ℕ → List ℕ
part_at s k = record_of (s.outputs / 8) (s.directions / 8) (act_at s k)

-- The first n parts.
unfoldable pub parts : Plan → ℕ → List ℕ
parts s zero = []
parts s (suc k) = parts s k ++ part_at s k
