-- What is returned to a whole text that is not read.
use Rattle.std.specs.Prelude.{◌≡◌, ◌≢◌, ◌⊎◌, ℕ, List, [], Result, Ok, Err}
use Rattle.std.specs.Char.{is_whitespace}
use Rattle.asn_core.specs.declared.codec.Codec.TheVariants.{Avn}
use Rattle.asn_fault.specs.Failure.{Failure, Cause, at_root, failure_of}
use Rattle.asn_fault.specs.declared.decode.DecodeError.{DecodeError}
use Rattle.avn_grammar.specs.Tree.{Tree}
use Rattle.avn_value.specs.declared.value.AvnValue.{AvnValue}
use Rattle.avn_value.specs.View.{tree_of}
use Rattle.avn_grammar.specs.Depth.{ExceedsDepth}
use Rattle.avn_grammar.specs.ParseFailure.{ParseFailure, Found}
use Rattle.avn_grammar.specs.Chars.{skip_while, utf8_of}

-- The error says why the text is not read within the limit: what was found in place of a value, or that a value is looked for too deep, or that memory ran out.
pub data Explains (limit : ℕ) (text : List ℕ) : Failure → Type 0 where
  unexpected_token : (found : List ℕ) → ParseFailure limit text found → Explains limit text (at_root (Cause.unexpected_token found) Avn)
  exceeds_depth : ExceedsDepth limit 0 text → Explains limit text (at_root Cause.exceeds_max_parse_depth Avn)
  out_of_memory : Explains limit text (at_root Cause.out_of_memory Avn)

-- The answer is seen as the tree, or it is that memory ran out.
abbrev pub IsSeenAs : {A : Type 0} → (A → Tree) → Tree → Result A DecodeError → Type 0
IsSeenAs see t (Ok v) = see v ≡ t
IsSeenAs see t (Err e) = failure_of e ≡ at_root Cause.out_of_memory Avn

-- The answer is a value of the tree, or that memory ran out.
abbrev pub IsValue : Tree → Result AvnValue DecodeError → Type 0
IsValue = IsSeenAs tree_of

-- The answer is a table of the tree, or that memory ran out.
abbrev pub IsTable : Tree → Result Tree DecodeError → Type 0
IsTable = IsSeenAs (λ t. t)

-- The answer is the error, or that memory ran out.
abbrev pub IsRefusal : {A : Type 0} → Cause → Result A DecodeError → Type 0
IsRefusal cause (Ok v) = ⊥
IsRefusal cause (Err e) = (failure_of e ≡ at_root cause Avn) ⊎ (failure_of e ≡ at_root Cause.out_of_memory Avn)

-- The error after a value is that more than white space follows, with all of it, or that memory ran out.
pub data IsMoreOrMemory (rest : List ℕ) : Failure → Type 0 where
  more : skip_while is_whitespace rest ≢ [] → IsMoreOrMemory rest (at_root (Cause.unexpected_token (utf8_of rest)) Avn)
  no_memory : IsMoreOrMemory rest (at_root Cause.out_of_memory Avn)

-- The error in place of a value is the excerpt of the text, or that memory ran out.
pub data IsFoundOrMemory (text : List ℕ) : Failure → Type 0 where
  excerpt : (found : List ℕ) → Found text found → IsFoundOrMemory text (at_root (Cause.unexpected_token (utf8_of found)) Avn)
  memory : IsFoundOrMemory text (at_root Cause.out_of_memory Avn)
