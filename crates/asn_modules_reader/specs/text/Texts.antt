-- Which texts are modules, and why others are none.
use Rattle.std.specs.Prelude.{◌≡◌, ℕ, List, drop, Option}
use Rattle.asn_modules_grammar.specs.declared.headers.fault.Expected.{Expected}
use Rattle.asn_lexer.specs.Tokens.{HasTokens, StopsAt}
use Rattle.asn_lexer.specs.declared.place.Place.{Place}
use Rattle.asn_lexer.specs.declared.token.Token.{Token}
use Rattle.asn_modules_errors.specs.Errors.{IsUnexpected, place_at, start_of}
use Rattle.asn_modules_errors.specs.NoTokens.{no_token_of}
use Rattle.asn_modules_errors.specs.declared.cause.Cause.{Cause}
use Rattle.asn_modules_errors.specs.declared.cause.Cause.TheVariants as cause
use Rattle.asn_modules_errors.specs.declared.error.ModuleError.{ModuleError}
use Rattle.asn_modules_errors.specs.declared.error.ModuleError.TheVariants as error
use Rattle.asn_modules_errors.specs.declared.no_token.NoToken.{NoToken}
use Rattle.asn_modules_grammar.specs.notation.Modules.{Module, TextParses}

-- The text is these modules: it has tokens, and they stand for the modules.
pub record IsText (limit : ℕ) (text : List ℕ) (modules : List Module) : Type 0 where
  pub tokens : List Token
  pub split : HasTokens text tokens
  pub parses : TextParses limit tokens modules

-- The text has no tokens: at the place begins the first part of it that is none, for this reason.
pub record HasNoTokens (text : List ℕ) (place : Place) (why : NoToken) : Type 0 where
  pub offset : ℕ
  pub stops : StopsAt text offset
  pub here : place ≡ place_at text offset
  pub reason : why ≡ no_token_of (drop offset text)

-- The tokens of the text stand for no modules. At the place is the token, or the end of the text,
-- that was met in place of what was expected.
pub record HasNoModules (limit : ℕ) (text : List ℕ) (place : Place) (why : Cause) : Type 0 where
  pub tokens : List Token
  pub split : HasTokens text tokens
  pub none : (modules : List Module) → TextParses limit tokens modules → ⊥
  pub met : Option Token
  pub expected : Expected
  pub here : place ≡ place_at text (start_of text met)
  pub reason : IsUnexpected text met expected why

-- The text is refused at the place for the cause.
abbrev pub IsTextRefusal : ℕ → List ℕ → Place → Cause → Type 0
IsTextRefusal limit text place (cause.NoToken why) = HasNoTokens text place why
IsTextRefusal limit text place why = HasNoModules limit text place why

-- The error isn't lack of memory.
abbrev pub IsRefused : ModuleError → Type 0
IsRefused (error.Refused file place why) = Unit {0}
IsRefused error.OutOfMemory = ⊥
