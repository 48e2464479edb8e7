-- What a text is in a notation, and why one is not read or not written.
use Rattle.std.specs.Prelude.{◌≡◌, ◌≤◌, ℕ, List, map, Some, None, true, codes}
use Rattle.std.specs.Str.{chars}
use Rattle.serde_json.specs.Data.{Data, depth}
use Rattle.serde_json.specs.Read.{read, max_depth}
use Rattle.serde_json.specs.Written.{has_float}
use Rattle.avn_grammar.specs.Depth.{ExceedsDepth, deepest}
use Rattle.avn_grammar.specs.Tree.{Tree as AvnTree}
use Rattle.avn_grammar.specs.ParseFailure as grammar
use Rattle.asn_core.specs.declared.codec.Codec.{Codec}
use Rattle.asn_core.specs.declared.codec.Codec.TheVariants.{Jer, Avn}
use Rattle.asn_fault.specs.Failure.{Failure, Cause, at_root}
use Rattle.asn_fault.specs.EncodeCause.{EncodeCause}
use Rattle.asn_coding.specs.Answer.{OfLevels, OfPlace}
use Rattle.asn_traits.specs.Canonical as canonical
use Rattle.asn_traits.specs.Notation.{Notation, IsText, notation_of}
use Rattle.asn_traits.specs.DecodesTo.{DecodesTo}
use Rattle.asn_traits.specs.Shape.{Shape}
use Rattle.asn_traits.specs.FailsWith.{FailsWith}
use Rattle.asn_traits.specs.Tree.{Tree}
use Rattle.asn_traits.specs.Value.{Value}
use Rattle.asn_traits.specs.Writable.{FirstUnencodable}
use Rattle.jer_rules.specs.Text as jer
use Rattle.jer_rules.specs.Text.{IsJer}
use Rattle.avn_rules.specs.Text as avn
use Rattle.avn_rules.specs.Text.{IsAvn}
use Rattle.asn_model.specs.declared.words.TheConstants.{JER_NO_JSON}
use Rattle.asn_codec.specs.Refused.{no_text}

-- the text has this tree in the notation, with this limit on the levels of AVN
pub data HasTree (limit : ℕ) : Notation → List ℕ → Tree → Type 0 where
  json_tree : {text : List ℕ} {d : Data} → IsJer text d → HasTree limit Notation.jer text (Tree.json d)
  avn_tree : {text : List ℕ} {t : AvnTree} → IsAvn limit text t → HasTree limit Notation.avn text (Tree.avn t)

-- the text decodes to this value by the shape, read with this limit
pub record TextDecodesTo (limit : ℕ) (n : Notation) (s : Shape) (text : List ℕ) (value : Value) : Type 0 where
  pub tree : Tree
  pub has : HasTree limit n text tree
  pub says : DecodesTo n s (Some tree) value

-- The text of the value is read as its tree, where that nests no deeper than texts of the notation are read; and in AVN it is refused for depth where it nests deeper.
abbrev pub ReadsBack : ℕ → Notation → Value → List ℕ → Type 0
ReadsBack limit Notation.jer v text = jer.ReadsBack v text
ReadsBack limit Notation.avn v text = avn.ReadsBack limit v text
ReadsBack limit Notation.other v text = Unit {0}

-- The text decodes to the value by the shape, and no other.
pub record DecodesOnlyTo (limit : ℕ) (n : Notation) (s : Shape) (text : List ℕ) (v : Value) : Type 0 where
  pub says : TextDecodesTo limit n s text v
  pub alone : (w : Value) → TextDecodesTo limit n s text w → w ≡ v

-- The canonical text of a value that was read nests no deeper than texts are read: in AVN at most the limit, in JSON 127 levels, and always where JSON was read.
abbrev pub IsShallow : ℕ → Notation → Notation → Value → Type 0
IsShallow limit from Notation.avn v = deepest 0 (canonical.avn_tree v) ≤ limit
IsShallow limit Notation.jer Notation.jer v = Unit {0}
IsShallow limit from Notation.jer v = depth (canonical.jer_data v) ≤ max_depth
IsShallow limit from Notation.other v = ⊥

-- reading the text by the shape, with this limit, is refused so: it has no tree, or a number in it is a float, or it nests too deep, or its tree decodes to no value, or the codec is no text notation
pub data IsDecodeFailure (limit : ℕ) (codec : Codec) (s : Shape) (text : List ℕ) : Failure → Type 0 where
  no_json : codec ≡ Jer → read text ≡ None → IsDecodeFailure limit codec s text (at_root (Cause.parser JER_NO_JSON.now) Jer)
  has_real : (d : Data) → codec ≡ Jer → read text ≡ Some d → has_float d ≡ true → IsDecodeFailure limit codec s text (at_root Cause.real_not_supported Jer)
  no_avn : (found : List ℕ) → codec ≡ Avn → grammar.ParseFailure limit (chars text) found → IsDecodeFailure limit codec s text (at_root (Cause.unexpected_token found) Avn)
  too_deep : codec ≡ Avn → ExceedsDepth limit 0 (chars text) → IsDecodeFailure limit codec s text (at_root Cause.exceeds_max_parse_depth Avn)
  no_value : (t : Tree) (failure : Failure) → HasTree limit (notation_of codec) text t → FailsWith (notation_of codec) s (Some t) (map (λ l. l.name) failure.path) failure.cause
      → OfLevels (notation_of codec) failure.path → OfPlace (notation_of codec) failure.cause failure.codec → IsDecodeFailure limit codec s text failure
  not_text : notation_of codec ≡ Notation.other → IsDecodeFailure limit codec s text (at_root (Cause.custom (no_text codec (codes "decode_from_binary"))) codec)

-- writing the value is refused so: a part of it cannot be written, or the codec is no text notation
pub data IsUnencodable (codec : Codec) (v : Value) : EncodeCause → Type 0 where
  blocked : (cause : EncodeCause) → IsText (notation_of codec) → FirstUnencodable (notation_of codec) v cause → IsUnencodable codec v cause
  not_text : notation_of codec ≡ Notation.other → IsUnencodable codec v (EncodeCause.custom (no_text codec (codes "encode_to_binary")))
