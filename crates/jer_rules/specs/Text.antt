-- What a text is in JER.
use Rattle.std.specs.Prelude.{◌≡◌, ◌≤◌, ℕ, List, Some, None, true, false}
use Rattle.serde_json.specs.Data.{Data, depth}
use Rattle.serde_json.specs.Read.{read, max_depth}
use Rattle.serde_json.specs.Written.{has_float}
use Rattle.asn_core.specs.declared.codec.Codec.TheVariants.{Jer}
use Rattle.asn_fault.specs.Failure.{Failure, Cause, at_root}
use Rattle.asn_traits.specs.Canonical.{jer_data}
use Rattle.asn_traits.specs.Notation.{Notation}
use Rattle.asn_traits.specs.Shape.{Shape}
use Rattle.asn_traits.specs.FailsWith.{FailsWith}
use Rattle.asn_traits.specs.Tree.{Tree}
use Rattle.asn_traits.specs.Value.{Value}
use Rattle.asn_coding.specs.Answer.{Refuses}
use Rattle.asn_model.specs.declared.words.TheConstants.{JER_NO_JSON}

-- The text is this JSON value, in which each number is an `i64` or a `u64`.
abbrev pub IsJer : List ℕ → Data → Type 0
IsJer text d = (read text ≡ Some d) × (has_float d ≡ false)

-- The text is read as the JSON value that is written for the value, unless that nests deeper than JSON is read.
abbrev pub ReadsBack : Value → List ℕ → Type 0
ReadsBack v text = depth (jer_data v) ≤ max_depth → IsJer text (jer_data v)

-- The text is no JSON, or a number in it is a float, and the error says so, or memory ran out.
pub data NoTree (text : List ℕ) (failure : Failure) : Type 0 where
  no_json : read text ≡ None → failure ≡ at_root (Cause.parser JER_NO_JSON.now) Jer → NoTree text failure
  has_real : (d : Data) → read text ≡ Some d → has_float d ≡ true → failure ≡ at_root Cause.real_not_supported Jer → NoTree text failure
  no_memory : failure ≡ at_root Cause.out_of_memory Jer → NoTree text failure

-- The text is no JSON without floats, or its value decodes to none of the shape, and the error says why, or memory ran out.
pub data RefusesText (s : Shape) (text : List ℕ) (failure : Failure) : Type 0 where
  no_tree : NoTree text failure → RefusesText s text failure
  no_value : (d : Data) → IsJer text d → Refuses Notation.jer (FailsWith Notation.jer s (Some (Tree.json d))) failure → RefusesText s text failure
