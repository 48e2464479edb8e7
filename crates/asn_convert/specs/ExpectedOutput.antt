-- What is expected for an input, and when it was written.
use Rattle.std.specs.Prelude.{◌≡◌, ◌⊎◌, ℕ, List, [], ◌∷◌, ◌++◌, codes, Result, IfOk}
use Rattle.std.specs.Io.KnownBytes.{Appends, Keeps}
use Rattle.asn_core.specs.declared.codec.Codec.{Codec}
use Rattle.asn_traits.specs.Shape.{Shape}
use Rattle.asn_codec.specs.Conversion.{Converts, Refuses, refusal_of, error_text}
use Rattle.asn_streams.specs.Faults.{Increased, AppendsFront}
use Rattle.asn_convert.specs.Made.{report}
use Rattle.asn_streams.specs.Transfer.{Transfer}
use Rattle.asn_convert.specs.Requests.{Request}
use Rattle.asn_convert.specs.Reports.{IsKeeping, IsKeepingRefusal}
use Rattle.asn_module_reports.specs.Replies.{IsReply}
use Rattle.asn_module_reports.specs.Reports.{IsGrowthRefusal, IsGrowthReport, IsPrinting, IsPrintingRefusal}
use Rattle.asn_module_reports.specs.declared.reply.Reply.{Reply}
use Rattle.asn_samples.specs.Samples.{sample_shape}
use Rattle.asn_convert.specs.declared.status.Status.{Status}
use Rattle.asn_convert.specs.declared.status.Status.TheVariants.{Done, Refused, WriteFault, WantOfMemory}
use Rattle.asn_codec.specs.declared.conversion.TranscodeError.{TranscodeError}

-- the bytes are the canonical text of the value that the text decodes to by the shape, with this limit on the levels of AVN, and a line feed
pub record IsAnswer (limit : ℕ) (from to : Codec) (s : Shape) (text due : List ℕ) : Type 0 where
  pub output : List ℕ
  pub converts : Converts limit from to s text output
  pub is : due ≡ output ++ 10 ∷ []

-- the line that tells a fault
abbrev pub refusal_line : TranscodeError → List ℕ
refusal_line fault = codes "refused: " ++ error_text fault ++ 10 ∷ []

-- the bytes are the line of a fault for which the text is refused by the shape
pub record IsRefusal (limit : ℕ) (from to : Codec) (s : Shape) (text due : List ℕ) : Type 0 where
  pub fault : TranscodeError
  pub refuses : Refuses limit from to s text (refusal_of fault)
  pub is : due ≡ refusal_line fault

-- the bytes are what is expected for the text, an answer or a refusal
abbrev pub IsExpectedOutput : ℕ → Codec → Codec → Shape → List ℕ → List ℕ → Type 0
IsExpectedOutput limit from to s text due = IsAnswer limit from to s text due ⊎ IsRefusal limit from to s text due

-- bytes with P were written, where the sink tells its bytes
pub record Wrote (sink : Transfer) (P : List ℕ → Type 0) : Type 0 where
  pub bytes : List ℕ
  pub has : P bytes
  pub appended : Appends sink.bytes_before sink.bytes_after bytes

-- a front part of bytes with P was written, where the sink tells its bytes
pub record WroteFront (sink : Transfer) (P : List ℕ → Type 0) : Type 0 where
  pub bytes : List ℕ
  pub has : P bytes
  pub appended : AppendsFront sink.bytes_before sink.bytes_after bytes

-- the bytes are what is expected for the request: the answer to its text, the report on its document, the printed text of the module that its text stands for, the line on two types of that module, or the lines of a stream, all of which are kept
abbrev pub IsAnswerTo : Request → List ℕ → List ℕ → Type 0
IsAnswerTo (Request.conversion from to sample limit) text due = IsAnswer limit from to (sample_shape sample) text due
IsAnswerTo (Request.document n) text due = due ≡ report n
IsAnswerTo Request.printing text due = IsPrinting text due
IsAnswerTo (Request.growth old new) text due = IsGrowthReport old new text due
IsAnswerTo (Request.keeping from old new) text due = IsKeeping from (sample_shape old) (sample_shape new) text due

-- the bytes are the line of a fault for which the text is refused, or what is kept of a stream and why the rest isn't; a document that is made is never refused
abbrev pub IsRefusalTo : Request → List ℕ → List ℕ → Type 0
IsRefusalTo (Request.conversion from to sample limit) text due = IsRefusal limit from to (sample_shape sample) text due
IsRefusalTo (Request.document n) text due = ⊥
IsRefusalTo Request.printing text due = IsPrintingRefusal text due
IsRefusalTo (Request.growth old new) text due = IsGrowthRefusal old new text due
IsRefusalTo (Request.keeping from old new) text due = IsKeepingRefusal from (sample_shape old) (sample_shape new) text due

-- the bytes are what is expected for the request, an answer or a refusal
abbrev pub IsOutputTo : Request → List ℕ → List ℕ → Type 0
IsOutputTo asked text due = IsAnswerTo asked text due ⊎ IsRefusalTo asked text due

-- What a status says of bytes that were due: all of them were written, or a write was cut short, or memory ran out before any was.
pub data Outcome (due : List ℕ) (status : Status) (sink : Transfer) : Status → Type 0 where
  whole : Appends sink.bytes_before sink.bytes_after due → Outcome due status sink status
  cut : Increased sink.faults_before sink.faults_after → AppendsFront sink.bytes_before sink.bytes_after due → Outcome due status sink WriteFault
  unwritten : Keeps sink.bytes_before sink.bytes_after → Outcome due status sink WantOfMemory

-- What a status says of the answer to a text: what was written, and why a write was cut short.
abbrev pub Answers : ℕ → Codec → Codec → Shape → List ℕ → Transfer → Status → Type 0
Answers limit from to s text sink Done = Wrote sink (IsAnswer limit from to s text)
Answers limit from to s text sink Refused = Wrote sink (IsRefusal limit from to s text)
Answers limit from to s text sink WriteFault = Increased sink.faults_before sink.faults_after × WroteFront sink (IsExpectedOutput limit from to s text)
Answers limit from to s text sink WantOfMemory = Keeps sink.bytes_before sink.bytes_after
Answers limit from to s text sink _ = ⊥

-- what a status says of the answer to a request: what was written, and why a write was cut short
abbrev pub AnswersTo : Request → List ℕ → Transfer → Status → Type 0
AnswersTo asked text sink Done = Wrote sink (IsAnswerTo asked text)
AnswersTo asked text sink Refused = Wrote sink (IsRefusalTo asked text)
AnswersTo asked text sink WriteFault = Increased sink.faults_before sink.faults_after × WroteFront sink (IsOutputTo asked text)
AnswersTo asked text sink WantOfMemory = Keeps sink.bytes_before sink.bytes_after
AnswersTo asked text sink _ = ⊥

-- what is written of a reply answers each request that it is a reply to
abbrev pub RepliesTo : {E : Type 0} → Result Reply E → Transfer → Status → Type 0
RepliesTo reply sink status = (asked : Request) (text : List ℕ) → IfOk reply (IsReply (IsAnswerTo asked text) (IsRefusalTo asked text)) → AnswersTo asked text sink status
