-- A module among those of a text.
use Rattle.std.specs.Prelude.{ℕ, ◌≡◌, List, drop, Some}
use Rattle.asn_lexer.specs.declared.keyword.Keyword.TheVariants as keyword
use Rattle.asn_lexer.specs.declared.kind.Kind.TheVariants as kind
use Rattle.asn_lexer.specs.declared.token.Token.{Token}
use Rattle.asn_modules_grammar.specs.headers.Headers.{Header, HeaderParses}
use Rattle.asn_modules_grammar.specs.notation.Kinds.{first_kind}
use Rattle.asn_modules_grammar.specs.notation.Modules.{Assignment, AssignmentsParse, Module}

-- The module stands at the front of the tokens, and the rest follows it: a header, assignments and
-- END.
pub data ModuleParses (limit : ℕ) : List Token → Module → List Token → Type 0 where
  module_parses : {u v w : List Token} {h : Header} {found : List Assignment} → HeaderParses u h v
      → AssignmentsParse limit v found w → first_kind w ≡ Some (kind.Reserved keyword.End)
      → ModuleParses limit u (record { header = Some h; assignments = found }) (drop 1 w)
