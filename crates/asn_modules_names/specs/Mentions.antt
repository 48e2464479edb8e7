-- Names as they stand in texts.
use Rattle.std.specs.Prelude.{ℕ, List, map}
use Rattle.asn_lexer.specs.declared.token.Token.{Token}
use Rattle.asn_modules_errors.specs.Slices.{text_of}
use Rattle.asn_modules_names.specs.declared.mention.Mention as code
use Rattle.asn_modules_grammar.specs.notation.Modules.{Module}
use Rattle.asn_modules_grammar.specs.notation.View.{module_view}
use Rattle.asn_modules_reader.specs.declared.text.source.Source as code_source

-- A text with its name and its modules.
pub record Source : Type 0 where
  pub file : List ℕ
  pub text : List ℕ
  pub modules : List Module

abbrev pub source_view : code_source.Source → Source
source_view s =
    record { file = s.file.now; text = s.text.now; modules = map module_view s.modules.items }

-- A name that stands in a text.
pub record Mention : Type 0 where
  pub file : List ℕ
  pub text : List ℕ
  pub token : Token

abbrev pub mention_view : code.Mention → Mention
mention_view m = record { file = m.file.now; text = m.text.now; token = m.token }

-- The token in this text.
abbrev pub mention_in : Source → Token → Mention
mention_in s t = record { file = s.file; text = s.text; token = t }

-- The bytes of the name.
abbrev pub name_of : Mention → List ℕ
name_of m = text_of m.text m.token
