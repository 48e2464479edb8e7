-- The modules that are imported from and aren't given.
use Rattle.std.specs.Prelude.{ℕ, List, map, string_bytes}
use Rattle.asn_lexer.specs.declared.place.Place.{Place}
use Rattle.asn_modules.specs.declared.missing.MissingModule as code
use Rattle.asn_modules_errors.specs.Errors.{place_at}
use Rattle.asn_modules_names.specs.Mentions.{Mention, Source}
use Rattle.asn_modules_names.specs.Missing.{missing_modules}
use Rattle.asn_modules_types.specs.Scopes.{name_in}

-- The name of a module, with the file and the place where it stands first after FROM.
pub record MissingModule : Type 0 where
  pub file : List ℕ
  pub place : Place
  pub name : List ℕ

abbrev pub missing_view : code.MissingModule → MissingModule
missing_view m = record { file = string_bytes m.file; place = m.place; name = string_bytes m.name }

abbrev pub missing_of : Mention → MissingModule
missing_of m =
    record { file = m.file; place = place_at m.text m.token.start; name = name_in m.text m.token }

-- Those of these texts, in their order.
abbrev pub missing_in : List Source → List MissingModule
missing_in ss = map missing_of (missing_modules ss)
