-- The machine and the buffer, from record to record, are those of the run's definition.
use Rattle.std.proofs.Common.{ℕ, List, ◌≡◌, ◌∙◌, ◌<◌, ◌-◌, true, refl, sym, ap, subst, rules, length, take, drop, arith, length-drop}
use Rattle.octets.specs.Octets.{put_at}
use Rattle.item_spec.specs.Record.{answer_bytes}
use Rattle.item_spec.proofs.RecordLaws.{whole-fits}
use Rattle.machine_spec.specs.declared.Machine.{Machine}
use Rattle.run_spec.specs.Turn.{turn_of}
use Rattle.run.proofs.Loop as loop
use Rattle.run.proofs.Loop.{Head, Ret, from-on, body-long}
use Rattle.run.proofs.run_accepted.Given.{Over}
use Rattle.run.proofs.run_accepted.Goals as goal
use Rattle.run.proofs.run_accepted.Goals.{Left-records, else-records-test, then-records-test+then-answers-written-lt8, then-records-test+else-answers-written-lt8+in_default}

pub records-init : goal.records-init
records-init g c = record { head = loop.head_first c.args.list.now c.args.answers.now c.args.machine.now c.requires; running = refl }

pub slice_bounds-turn-count : goal.slice_bounds-turn-count
slice_bounds-turn-count g c = let f = whole-fits c.records.rest.now c.in-Some.n (sym c.in-Some.ensures) in omega arith

pub slice_bounds-turn-start : goal.slice_bounds-turn-start
slice_bounds-turn-start g c = let f = whole-fits c.records.rest.now c.in-Some.n (sym c.in-Some.ensures) in omega arith

pub slice_bounds-turn-end : goal.slice_bounds-turn-end
slice_bounds-turn-end g c = let f = whole-fits c.records.rest.now c.in-Some.n (sym c.in-Some.ensures) in omega arith

pub turn-answer-requires-clause-long : goal.turn-answer-requires-clause-long
turn-answer-requires-clause-long g c = body-long c.in-Some.n c.records.rest.now (sym c.in-Some.ensures)

pub slice_bounds-rest-count : goal.slice_bounds-rest-count
slice_bounds-rest-count g c = let f = whole-fits c.records.rest.now c.in-Some.n (sym c.in-Some.ensures) in omega arith

pub slice_bounds-rest-start : goal.slice_bounds-rest-start
slice_bounds-rest-start g c = let f = whole-fits c.records.rest.now c.in-Some.n (sym c.in-Some.ensures) in omega arith

pub records-smaller : goal.records-smaller
records-smaller g c =
    let s = c.records.rest.now in
    let n = c.in-Some.n in
    let f = whole-fits s n (sym c.in-Some.ensures) in
    let k : length (take (length s - n) (drop n s)) ≡ length s - n = ap length (from-on n s) ∙ length-drop n s in
    omega (arith, f, k)

pub records-preserved : goal.records-preserved
records-preserved g c =
    let l = c.records in
    let s = l.rest.now in
    let n = c.in-Some.n in
    let f = whole-fits s n (sym c.in-Some.ensures) in
    let b : c.answer_bytes.result ≡ answer_bytes (turn_of l.machine (take (n - 2) (drop 2 s))).answer =
    c.answer_bytes.ensures ∙ ap answer_bytes c.turn-answer.ensures.answer in
    let h = loop.next c.args.list.now c.args.answers.now c.args.machine.now c.requires l.answers l.machine s l.written l.invariant.head (omega (arith, f)) (omega arith) n (sym c.in-Some.ensures) _ (c.put-in-records.ensures ∙ ap (put_at l.answers l.written) b) in
    record { head = rw (from-on n s, c.turn-answer.ensures.machine_after) h; running = l.invariant.running }

-- Where the ways out of the loop meet.
left : (g : Over) (c : Left-records g)
    → Ret c.args.list.now c.args.answers.now c.args.machine.now (record { stop = c.records-test.stop; consumed = length c.args.list.now - length c.records.rest.now; written = c.records-test.written })
    c.records.machine c.records-test.answers
left g c =
    let list = c.args.list.now in
    let a = c.args.answers.now in
    let m = c.args.machine.now in
    let l = c.records in
    let h = l.invariant.head in
    elim c.records-test.branch [
      | else-records-test w ↦
          simp (w.answers-is, w.stop-is, w.written-is) (loop.ended list a m c.requires l.answers l.machine l.rest.now l.written h _ l.invariant.running (search rules))
      | then-records-test+then-answers-written-lt8 w ↦
          simp (w.answers-is, w.stop-is, w.written-is) (loop.full list a m c.requires l.answers l.machine l.rest.now l.written h (search rules) w.if-answers-written-lt8.true)
      | then-records-test+else-answers-written-lt8+in_default w ↦
          simp (w.answers-is, w.stop-is, w.written-is) (
          loop.cutoff list a m c.requires l.answers l.machine l.rest.now l.written h (search rules) (omega arith) (sym w.frame.ensures ∙ w.in_default.is) w.put.new.memory
          (w.put.ensures ∙ ap (put_at l.answers l.written) w.answer_bytes-no.ensures)
          )
    ]

pub returns-clause-value : goal.returns-clause-value
returns-clause-value g c = (left g c).0

pub returns-clause-machine_after : goal.returns-clause-machine_after
returns-clause-machine_after g c = (left g c).1

pub returns-clause-answers_after : goal.returns-clause-answers_after
returns-clause-answers_after g c = (left g c).2
