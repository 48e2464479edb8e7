use Rattle.std.proofs.Common.{sym, ◌∙◌, subst}
use Rattle.std.specs.Prelude.{IsUtf8}
use Rattle.asn_convert.specs.Lines.{words}
use Rattle.asn_convert.specs.RequestView.{request_view}
use Rattle.asn_convert.proofs.Answering.{done_or_hungry}
use Rattle.asn_convert.proofs.Asking.{whole_input, answerable_text, requests_something, within_limit}
use Rattle.asn_convert.proofs.Limited.{limits_kept}
use Rattle.asn_convert.proofs.program.run.Goals as goal

pub respond-requires : goal.respond-requires
respond-requires g c = limits_kept (words c.split_request.result.0.now) c.split_request.result.1.now (request_view c.in-Some.request) c.in-Some.ensures

pub returns-in-Some-clause-answers_values : goal.returns-in-Some-clause-answers_values
returns-in-Some-clause-answers_values g c input read utf8 asks steady =
    let same = whole_input read.told c.in-Ok.ensures.read in
    let text = sym (c.in-Ok-from_utf8.ensures.0 ∙ c.deref.ensures.value) in
    done_or_hungry _ _ _ _ c.respond.ensures.answer
    (c.respond.ensures.complete (answerable_text input c.in-Ok-from_utf8.text.now _ _ (request_view c.in-Some.request) asks (same ∙ text) c.split_request.ensures.line c.split_request.ensures.text c.in-Some.ensures)) steady

pub returns-in-Some-clause-rejects : goal.returns-in-Some-clause-rejects
returns-in-Some-clause-rejects g c input read utf8 none =
    let same = whole_input read.told c.in-Ok.ensures.read in
    let text = sym (c.in-Ok-from_utf8.ensures.0 ∙ c.deref.ensures.value) in
    absurd (requests_something input c.in-Ok-from_utf8.text.now _ _ (request_view c.in-Some.request) (same ∙ text) c.split_request.ensures.line c.split_request.ensures.text c.in-Some.ensures none)

pub returns-in-Some-clause-rejects_bytes : goal.returns-in-Some-clause-rejects_bytes
returns-in-Some-clause-rejects_bytes g c input read no_text =
    let same = whole_input read.told c.in-Ok.ensures.read in
    absurd (no_text (subst IsUtf8 (c.deref.ensures.value ∙ sym same) c.in-Ok-from_utf8.ensures.1))

pub returns-in-Some-clause-stops : goal.returns-in-Some-clause-stops
returns-in-Some-clause-stops g c input told above steady =
    absurd (within_limit told c.in-Ok.ensures.read above)
