-- The tokens of which one may stand at a place.
use Rattle.std.specs.Prelude.{Bool}
use Rattle.asn_modules_grammar.specs.headers.Fronts.{is_name}
use Rattle.asn_lexer.specs.declared.kind.Kind.{Kind}
use Rattle.asn_modules_grammar.specs.notation.Kinds.{is_word, is_component_word, is_number, is_number_or_name, is_open_paren, is_close_paren, is_open_bracket, is_close_bracket, is_colon, is_point, is_range, is_size, is_of, is_by, is_defined, is_string, is_identifier, is_pdv, is_class_word, is_open_brace, is_close_brace, is_assignment, is_ampersand, is_with, is_syntax}
use Rattle.asn_modules_grammar.specs.notation.Macros.{is_begin}
use Rattle.asn_modules_reader.specs.declared.parts.mark.Mark.{Mark}
use Rattle.asn_modules_reader.specs.declared.parts.mark.Mark.TheVariants as mark

-- A token of the kind is one of these.
abbrev pub passes : Mark → Kind → Bool
passes mark.Word k = is_word k
passes mark.ComponentWord k = is_component_word k
passes mark.Name k = is_name k
passes mark.Number k = is_number k
passes mark.NumberOrName k = is_number_or_name k
passes mark.OpenParen k = is_open_paren k
passes mark.CloseParen k = is_close_paren k
passes mark.OpenBracket k = is_open_bracket k
passes mark.CloseBracket k = is_close_bracket k
passes mark.Colon k = is_colon k
passes mark.Point k = is_point k
passes mark.Range k = is_range k
passes mark.Size k = is_size k
passes mark.Of k = is_of k
passes mark.By k = is_by k
passes mark.Defined k = is_defined k
passes mark.String k = is_string k
passes mark.Identifier k = is_identifier k
passes mark.Pdv k = is_pdv k
passes mark.ClassWord k = is_class_word k
passes mark.OpenBrace k = is_open_brace k
passes mark.CloseBrace k = is_close_brace k
passes mark.Assignment k = is_assignment k
passes mark.Ampersand k = is_ampersand k
passes mark.With k = is_with k
passes mark.Syntax k = is_syntax k
passes mark.Begin k = is_begin k
