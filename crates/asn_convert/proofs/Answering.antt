-- What a status says, from what was put into the sink.
use Rattle.std.proofs.Common.{◌≡◌, ◌≢◌, refl, sym, subst, ◌++◌, ◌∷◌, [], ℕ, List, true, ◌⊎◌, inl, inr, Result, Ok, IfOk, String, Global, string_bytes}
use Rattle.std.proofs.lemmas.Result.{IfOk-at_ok}
use Rattle.asn_core.specs.declared.codec.Codec.{Codec}
use Rattle.asn_traits.specs.Shape.{Shape}
use Rattle.asn_codec.specs.Conversion.{Converts, IsMemoryRefusal, Refuses, refusal_of, is_refusal_out_of_memory}
use Rattle.asn_codec.proofs.Passing.{memory_refused}
use Rattle.asn_convert.specs.ExpectedOutput.{Answers, AnswersTo, IsAnswerTo, IsRefusalTo, Outcome, RepliesTo, refusal_line}
use Rattle.asn_streams.specs.Faults.{Increased}
use Rattle.asn_convert.specs.Made.{report}
use Rattle.asn_streams.specs.Transfer.{Transfer}
use Rattle.asn_convert.specs.Requests.{Request}
use Rattle.asn_module_reports.specs.Replies.{IsAnswered, IsReply}
use Rattle.asn_module_reports.specs.declared.reply.Reply.{Reply}
use Rattle.asn_module_reports.specs.declared.reply.Reply.TheVariants.{Answer, Refusal}
use Rattle.asn_samples.specs.Samples.{sample_shape}
use Rattle.asn_samples.specs.declared.sample.Sample.{Sample}
use Rattle.asn_codec.specs.declared.conversion.TranscodeError.{TranscodeError}
use Rattle.asn_convert.specs.declared.status.Status.{Status}
use Rattle.asn_convert.specs.declared.status.Status.TheVariants.{Done, Refused, BadRequest, ReadFault, WriteFault, WantOfMemory, TooLong, NotText}

-- a canonical text and a line feed answer the text
pub text_answers : (limit : ℕ) (from to : Codec) (s : Shape) (text output : List ℕ) (t : Transfer) (r : Status) → Converts limit from to s text output
    → Outcome (output ++ 10 ∷ []) Done t r → Answers limit from to s text t r
text_answers limit from to s text output t r h (Outcome.whole a) = record { bytes = output ++ 10 ∷ []; has = record { output = output; converts = h; is = refl }; appended = a }
text_answers limit from to s text output t r h (Outcome.cut rose front) = (rose, record { bytes = output ++ 10 ∷ []; has = inl record { output = output; converts = h; is = refl }; appended = front })
text_answers limit from to s text output t r h (Outcome.unwritten keeps) = keeps

-- the line of a fault returns the text that is refused so
pub line_answers : (limit : ℕ) (from to : Codec) (s : Shape) (text : List ℕ) (fault : TranscodeError) (t : Transfer) (r : Status)
    → IsMemoryRefusal from to (refusal_of fault) ⊎ Refuses limit from to s text (refusal_of fault)
    → (is_refusal_out_of_memory (refusal_of fault) ≡ true → r ≡ WantOfMemory)
    → Outcome (refusal_line fault) Refused t r → Answers limit from to s text t r
line_answers limit from to s text fault t r (inl m) k (Outcome.whole a) = let e = k (memory_refused from to _ m) in absurd (cc e)
line_answers limit from to s text fault t r (inr h) k (Outcome.whole a) = record { bytes = refusal_line fault; has = record { fault = fault; refuses = h; is = refl }; appended = a }
line_answers limit from to s text fault t r (inl m) k (Outcome.cut rose front) = let e = k (memory_refused from to _ m) in absurd (cc e)
line_answers limit from to s text fault t r (inr h) k (Outcome.cut rose front) = (rose, record { bytes = refusal_line fault; has = inr record { fault = fault; refuses = h; is = refl }; appended = front })
line_answers limit from to s text fault t r h k (Outcome.unwritten keeps) = keeps

-- what is put as an answer is no refusal
pub no_refusal : (due : List ℕ) (t : Transfer) (r : Status) → Outcome due Done t r → r ≢ Refused
no_refusal due t r (Outcome.whole a) e = cc e
no_refusal due t r (Outcome.cut rose front) e = cc e
no_refusal due t r (Outcome.unwritten keeps) e = cc e

-- what is said of the answer to a text is said of the request for it
pub conversion_answers : (from to : Codec) (sample : Sample) (limit : ℕ) (text : List ℕ) (t : Transfer) (r : Status) → Answers limit from to (sample_shape sample) text t r → AnswersTo (Request.conversion from to sample limit) text t r
conversion_answers from to sample limit text t Done h = h
conversion_answers from to sample limit text t Refused h = h
conversion_answers from to sample limit text t WriteFault h = h
conversion_answers from to sample limit text t WantOfMemory h = h
conversion_answers from to sample limit text t BadRequest h = h
conversion_answers from to sample limit text t ReadFault h = h
conversion_answers from to sample limit text t TooLong h = h
conversion_answers from to sample limit text t NotText h = h

-- what is put as an answer to a request answers it
pub put_as_answer : (asked : Request) (text due : List ℕ) (t : Transfer) (r : Status) → IsAnswerTo asked text due → Outcome due Done t r → AnswersTo asked text t r
put_as_answer asked text due t r h (Outcome.whole a) = record { bytes = due; has = h; appended = a }
put_as_answer asked text due t r h (Outcome.cut rose front) = (rose, record { bytes = due; has = inl h; appended = front })
put_as_answer asked text due t r h (Outcome.unwritten keeps) = keeps

-- what is put as a refusal of a request answers it
pub put_as_refusal : (asked : Request) (text due : List ℕ) (t : Transfer) (r : Status) → IsRefusalTo asked text due → Outcome due Refused t r → AnswersTo asked text t r
put_as_refusal asked text due t r h (Outcome.whole a) = record { bytes = due; has = h; appended = a }
put_as_refusal asked text due t r h (Outcome.cut rose front) = (rose, record { bytes = due; has = inr h; appended = front })
put_as_refusal asked text due t r h (Outcome.unwritten keeps) = keeps

-- so an answer that is put as one replies
pub answer_replies : {E : Type 0} (reply : Result Reply E) (text : String Global) (due : List ℕ) (t : Transfer) (r : Status) → reply ≡ Ok (Answer text) → due ≡ string_bytes text → Outcome due Done t r → RepliesTo reply t r
answer_replies reply text due t r is same o asked input h =
    put_as_answer asked input due t r (subst (IsAnswerTo asked input) (sym same) (IfOk-at_ok (IsReply (IsAnswerTo asked input) (IsRefusalTo asked input)) is h)) o

-- and a refusal that is put as one
pub refusal_replies : {E : Type 0} (reply : Result Reply E) (line : String Global) (due : List ℕ) (t : Transfer) (r : Status) → reply ≡ Ok (Refusal line) → due ≡ string_bytes line → Outcome due Refused t r → RepliesTo reply t r
refusal_replies reply line due t r is same o asked input h =
    put_as_refusal asked input due t r (subst (IsRefusalTo asked input) (sym same) (IfOk-at_ok (IsReply (IsAnswerTo asked input) (IsRefusalTo asked input)) is h)) o

-- a refusal is no answer
pub none_answered : {E : Type 0} (reply : Result Reply E) (line : String Global) → reply ≡ Ok (Refusal line) → IfOk reply IsAnswered → ⊥
none_answered reply line is h = IfOk-at_ok IsAnswered is h

-- the report on a document answers the request for it
pub report_answers : (n : ℕ) (text : List ℕ) (t : Transfer) (r : Status) → Outcome (report n) Done t r → AnswersTo (Request.document n) text t r
report_answers n text t r h = put_as_answer (Request.document n) text (report n) t r refl h

-- where no write fails and nothing is refused, the answer is written or memory runs out
pub done_or_hungry : (asked : Request) (text : List ℕ) (t : Transfer) (r : Status) → AnswersTo asked text t r
    → r ≢ Refused → (Increased t.faults_before t.faults_after → ⊥) → (r ≡ Done) ⊎ (r ≡ WantOfMemory)
done_or_hungry asked text t Done h not_refused steady = inl refl
done_or_hungry asked text t Refused h not_refused steady = absurd (not_refused refl)
done_or_hungry asked text t WriteFault h not_refused steady = absurd (steady h.0)
done_or_hungry asked text t WantOfMemory h not_refused steady = inr refl
done_or_hungry asked text t BadRequest h not_refused steady = absurd h
done_or_hungry asked text t ReadFault h not_refused steady = absurd h
done_or_hungry asked text t TooLong h not_refused steady = absurd h
done_or_hungry asked text t NotText h not_refused steady = absurd h
