-- The modules of all texts.
use Rattle.std.specs.Prelude.{ℕ, List, [], ◌∷◌, ◌++◌, map}
use Rattle.asn_lexer.specs.declared.token.Token.{Token}
use Rattle.asn_modules_errors.specs.Slices.{text_of}
use Rattle.asn_modules_names.specs.declared.lookup.home.Home as code
use Rattle.asn_modules_names.specs.Mentions.{Source, source_view}
use Rattle.asn_modules_grammar.specs.notation.Modules.{Module}
use Rattle.asn_modules_grammar.specs.notation.View.{module_view}

-- A module in its text.
pub record Home : Type 0 where
  pub source : Source
  pub parsed : Module

abbrev pub home_of : Source → Module → Home
home_of s m = record { source = s; parsed = m }

abbrev pub home_view : code.Home → Home
home_view h = home_of (source_view h.source.now) (module_view h.parsed.now)

abbrev pub homes_in : Source → List Module → List Home
homes_in s ms = map (home_of s) ms

-- The modules of these texts, in order.
abbrev pub homes : List Source → List Home
homes [] = []
homes (s ∷ ss) = homes_in s s.modules ++ homes ss

-- The bytes of a token of the module.
abbrev pub bytes_in : Home → Token → List ℕ
bytes_in h t = text_of h.source.text t
