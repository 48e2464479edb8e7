-- The parts of ASN.1 that aren't read, told from the token that was met and what was expected.
use Rattle.std.specs.Prelude.{ℕ, List, Bool, true, false, codes, if◌then◌else◌, Option, Some, None}
use Rattle.std.specs.Option.{option_and_then}
use Rattle.asn_modules_grammar.specs.declared.headers.fault.Expected.{Expected}
use Rattle.asn_modules_grammar.specs.declared.headers.fault.Expected.TheVariants as expected
use Rattle.asn_lexer.specs.declared.kind.Kind.{Kind}
use Rattle.asn_lexer.specs.declared.kind.Kind.TheVariants as kind
use Rattle.asn_modules_errors.specs.declared.left_out.LeftOut.{LeftOut}
use Rattle.asn_modules_errors.specs.declared.left_out.LeftOut.TheVariants as part

-- It was expected that a type ends before it nests deeper.
abbrev pub is_too_deep : Expected → Bool
is_too_deep expected.HigherType = true
is_too_deep e = false

-- The part that a token of the kind belongs to.
abbrev pub part_of : Kind → Option LeftOut
part_of kind.Less = Some part.SelectionTypes
part_of kind.Exclamation = Some part.Exceptions
part_of k = None

-- The part that isn't read and shows where a token of the kind, or the end of the text, stands in
-- place of what was expected.
abbrev pub left_out : Option Kind → Expected → Option LeftOut
left_out met e = if is_too_deep e then Some part.DeepNesting else option_and_then part_of met

abbrev pub left_out_text : LeftOut → List ℕ
left_out_text part.SelectionTypes = codes "selection types"
left_out_text part.Exceptions = codes "exception specifications"
left_out_text part.DeepNesting = codes "types nested beyond 64 levels"
