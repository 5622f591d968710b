use Rattle.std.proofs.Common.{◌<◌, length, ap, ◌∙◌, rules}
use Rattle.std.specs.Prelude.{Option}
use Rattle.refusal.specs.Numbers as Numbers
use Rattle.transaction_spec.specs.declared.Ask.{Ask}
use Rattle.transaction_entry.specs.Call.{request_of, result_of, output_of}
use Rattle.transaction_entry.proofs.Laws.{byte_small, dirb_small, posted, stop_is, written_is}
use Rattle.transaction_entry.proofs.transaction.Goals as goal

pub returns : goal.returns
returns c =
    let a = c.args in
    -- what the type says of the value
    let value : a.value < 256 = search rules in
    let x = c.answer-result in
    let p =
    posted a.image.now (request_of a.ask a.number a.value) a.out.now (λ e. dirb_small a.image.now c.type_inv.image) (byte_small a.ask a.number a.value value) x.result
    (x.ensures.value ∙ ap (λ (q : Option Ask). result_of a.image.now q (length a.out.now)) c.request_of.ensures) x.new.out
    (x.ensures.out_after ∙ ap (λ (q : Option Ask). output_of a.image.now q a.out.now) c.request_of.ensures) c.stop_number.result c.unwrap_or.result
    (c.stop_number.ensures ∙ ap Numbers.stop_of c.err.ensures.value ∙ stop_is x.result) (c.unwrap_or.ensures ∙ written_is x.result) in
    record { value = p.0; written_after = p.1.0; out_after = p.1.1.0; call_does = p.1.1.1 }
