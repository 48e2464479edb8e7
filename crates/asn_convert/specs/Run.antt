-- What the program reads and writes.
use Rattle.std.specs.Prelude.{◌≡◌, ◌≤◌, ℕ, List, length, Some, IsUtf8}
use Rattle.asn_streams.specs.Faults.{Increased}
use Rattle.asn_streams.specs.Input.{input_limit}
use Rattle.asn_convert.specs.Lines.{text_part}
use Rattle.asn_samples.specs.Samples.{sample_shape}
use Rattle.asn_convert.specs.Requests.{Request, request_of}
use Rattle.asn_convert.specs.Reports.{CanKeepAll}
use Rattle.asn_module_reports.specs.Reports.{AreTypesOf, IsModuleText}
use Rattle.asn_codec.specs.Conversion.{IsConvertible}
use Rattle.asn_convert.specs.ExpectedOutput.{Wrote, WroteFront, IsOutputTo}
use Rattle.asn_streams.specs.Transfer.{Transfer}

-- the input is a request, and bytes that are expected for its text in this way were written
pub record Answered (sink : Transfer) (ExpectedOutput : Request → List ℕ → List ℕ → Type 0) (input : List ℕ) : Type 0 where
  pub utf8 : IsUtf8 input
  pub asks : Request
  pub for_request : request_of input ≡ Some asks
  pub wrote : Wrote sink (ExpectedOutput asks (text_part input))

-- the input is a request, and a front part of what is expected for its text was written
pub record CutShort (sink : Transfer) (input : List ℕ) : Type 0 where
  pub utf8 : IsUtf8 input
  pub asks : Request
  pub for_request : request_of input ≡ Some asks
  pub wrote : WroteFront sink (IsOutputTo asks (text_part input))

-- the source tells this input, which is within the limit, and none of its reads fails
pub record IsRead (source : Transfer) (input : List ℕ) : Type 0 where
  pub told : source.bytes_before ≡ Some input
  pub within : length input ≤ input_limit
  pub steady : Increased source.faults_before source.faults_after → ⊥

-- the text decodes to a value that can be written as the request asks, a document is made, the text stands for a module, and both types have shapes where two are compared, or each line of a stream can be kept
abbrev pub IsAnswerable : Request → List ℕ → Type 0
IsAnswerable (Request.conversion from to sample limit) text = IsConvertible limit from to (sample_shape sample) text
IsAnswerable (Request.document n) text = Unit {0}
IsAnswerable Request.printing text = IsModuleText text
IsAnswerable (Request.growth old new) text = AreTypesOf old new text
IsAnswerable (Request.keeping from old new) text = CanKeepAll from (sample_shape old) (sample_shape new) text

-- the input is a request that is answered, and not refused
pub record RequestsValue (input : List ℕ) : Type 0 where
  pub asks : Request
  pub for_request : request_of input ≡ Some asks
  pub answerable : IsAnswerable asks (text_part input)
