use Rattle.std.proofs.Common.{ℕ, ◌≡◌, true, MatchOption, slice_get, sym, ap, ◌∙◌, rules}
use Rattle.keyboard.specs.declared.Keyboard.{Keyboard}
use Rattle.keyboard.specs.declared.Reply.TheVariants.{Code, Null}
use Rattle.keyboard.specs.State.{codes_of, with_left, accepted_of}
use Rattle.keyboard.specs.Steps.{Stepped, answer_to, inquiry, instant, command_of}
use Rattle.keyboard.proofs.Codes.{ended-accepted}
use Rattle.keyboard.proofs.Checked.{passed, accepted, taken, untaken, unchanged, instant-leaves, instant-says}
use Rattle.keyboard.proofs.Keyboard.command.Goals as goal

-- a command that asks for the oldest code, on a keyboard in its ranges
asks : (byte n : ℕ) (k : Keyboard) → accepted_of k ≡ true → byte ≡ n → command_of byte k ≡ answer_to n (with_left k 0)
unfolding command_of
asks byte n k a e = passed k _ a ∙ ap (λ (b : ℕ). answer_to b (with_left k 0)) e

pub returns-in-Some-clause-after : goal.returns-in-Some-clause-after
unfolding answer_to inquiry
returns-in-Some-clause-after c =
    let k = c.args.self.now in
    let a = accepted k c.in_ok-check.ensures in
    c.take_oldest.ensures.left
    ∙ sym (ap (λ (s : Stepped). s.keyboard) (asks c.args.byte 16 k a c.in-16.is ∙ taken (with_left k 0) _ (codes_of (with_left k 0)) c.in-Some.code (sym c.take_oldest.ensures.oldest ∙ c.in-Some.is)))

pub returns-in-Some-clause-said : goal.returns-in-Some-clause-said
unfolding answer_to inquiry
returns-in-Some-clause-said c =
    let k = c.args.self.now in
    let a = accepted k c.in_ok-check.ensures in
    sym (ap (λ (s : Stepped). s.response) (asks c.args.byte 16 k a c.in-16.is ∙ taken (with_left k 0) _ (codes_of (with_left k 0)) c.in-Some.code (sym c.take_oldest.ensures.oldest ∙ c.in-Some.is)))

pub returns-in-None-clause-after : goal.returns-in-None-clause-after
unfolding answer_to inquiry
returns-in-None-clause-after c =
    let k = c.args.self.now in
    let a = accepted k c.in_ok-check.ensures in
    let none = sym c.take_oldest.ensures.oldest ∙ c.in-None.is in
    ap (λ (q : Keyboard). with_left q 195840) (c.take_oldest.ensures.left ∙ unchanged (with_left k 0) (search rules) (ended-accepted k a) none)
    ∙ sym (ap (λ (s : Stepped). s.keyboard) (asks c.args.byte 16 k a c.in-16.is ∙ untaken (with_left k 0) _ (codes_of (with_left k 0)) none))

pub returns-in-None-clause-said : goal.returns-in-None-clause-said
unfolding answer_to inquiry
returns-in-None-clause-said c =
    let k = c.args.self.now in
    let a = accepted k c.in_ok-check.ensures in
    sym (ap (λ (s : Stepped). s.response) (asks c.args.byte 16 k a c.in-16.is ∙ untaken (with_left k 0) _ (codes_of (with_left k 0)) (sym c.take_oldest.ensures.oldest ∙ c.in-None.is)))

pub returns-in-20-clause-after : goal.returns-in-20-clause-after
unfolding answer_to instant
returns-in-20-clause-after c =
    let k = c.args.self.now in
    let a = accepted k c.in_ok-check.ensures in
    c.take_oldest-in-20.ensures.left
    ∙ instant-leaves (with_left k 0) (search rules) (ended-accepted k a)
    ∙ sym (ap (λ (s : Stepped). s.keyboard) (asks c.args.byte 20 k a c.in-20.is))

pub returns-in-20-clause-said : goal.returns-in-20-clause-said
unfolding answer_to instant
returns-in-20-clause-said c =
    let k = c.args.self.now in
    let a = accepted k c.in_ok-check.ensures in
    let m : MatchOption (slice_get (codes_of (with_left k 0)) 0) (c.map_or.result ≡ Null) (λ (code : ℕ). c.map_or.result ≡ Code code) = rw (sym c.take_oldest-in-20.ensures.oldest) (search rules) in
    instant-says (with_left k 0) (codes_of (with_left k 0)) c.map_or.result m ∙ sym (ap (λ (s : Stepped). s.response) (asks c.args.byte 20 k a c.in-20.is))
