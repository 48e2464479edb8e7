-- A text that is refused is none of modules.
use Rattle.std.proofs.Common.{◌≡◌, ℕ, List, drop, refl, subst, sym}
use Rattle.asn_modules_grammar.specs.declared.headers.fault.Expected.{Expected}
use Rattle.std.specs.Prelude.{Option}
use Rattle.asn_lexer.specs.Tokens.{HasTokens, StopsAt}
use Rattle.asn_lexer.specs.declared.place.Place.{Place}
use Rattle.asn_lexer.specs.declared.token.Token.{Token}
use Rattle.asn_lexer.proofs.Reading.{same_tokens, stops_without}
use Rattle.asn_modules_errors.specs.Errors.{IsUnexpected, Refuses, place_at, start_of}
use Rattle.asn_modules_errors.specs.NoTokens.{no_token_of}
use Rattle.asn_modules_errors.specs.declared.cause.Cause.{Cause}
use Rattle.asn_modules_errors.specs.declared.cause.Cause.TheVariants as cause
use Rattle.asn_modules_errors.specs.declared.error.ModuleError.{ModuleError}
use Rattle.asn_modules_errors.specs.declared.error.ModuleError.TheVariants as error
use Rattle.asn_modules_errors.proofs.Refusals.{refuses_more}
use Rattle.asn_modules_grammar.specs.notation.Modules.{Module, TextParses}
use Rattle.asn_modules_reader.specs.text.Texts.{IsText, HasNoTokens, HasNoModules, IsTextRefusal, IsRefused}

no_tokens : (limit : ℕ) (text : List ℕ) (place : Place) (why : _) (modules : List Module) → HasNoTokens text place why → IsText limit text modules → ⊥
no_tokens limit text place why modules h t = stops_without text h.offset t.tokens h.stops t.split

no_modules : (limit : ℕ) (text : List ℕ) (place : Place) (why : Cause) (modules : List Module) → HasNoModules limit text place why → IsText limit text modules → ⊥
no_modules limit text place why modules h t =
    h.none modules (subst (λ ts. TextParses limit ts modules) (same_tokens text t.tokens h.tokens t.split h.split) t.parses)

no_text : (limit : ℕ) (text : List ℕ) (place : Place) (why : Cause) (modules : List Module) → IsTextRefusal limit text place why → IsText limit text modules → ⊥
no_text limit text place (cause.NoToken why) modules h t = no_tokens limit text place why modules h t
no_text limit text place (cause.Unexpected met expected) modules h t = no_modules limit text place (cause.Unexpected met expected) modules h t
no_text limit text place (cause.LeftOut part) modules h t = no_modules limit text place (cause.LeftOut part) modules h t
no_text limit text place (cause.Name rule name) modules h t = no_modules limit text place (cause.Name rule name) modules h t

pub refused_none : (limit : ℕ) (file text : List ℕ) (e : ModuleError) → Refuses file (IsTextRefusal limit text) e → IsRefused e → (modules : List Module) → IsText limit text modules → ⊥
refused_none limit file text (error.Refused f place why) h r modules t = no_text limit text place why modules h.1 t
refused_none limit file text error.OutOfMemory h r modules t = r

unexpected_so : (limit : ℕ) (text : List ℕ) (tokens : List Token) (met : Option Token) (expected : Expected) (place : Place) (why : Cause) → HasTokens text tokens → ((modules : List Module) → TextParses limit tokens modules → ⊥)
    → (place ≡ place_at text (start_of text met)) × IsUnexpected text met expected why → IsTextRefusal limit text place why
unexpected_so limit text tokens met expected place (cause.NoToken why) split none h = absurd h.1
unexpected_so limit text tokens met expected place (cause.Unexpected m e) split none h = record { tokens = tokens; split = split; none = none; met = met; expected = expected; here = h.0; reason = h.1 }
unexpected_so limit text tokens met expected place (cause.LeftOut part) split none h = record { tokens = tokens; split = split; none = none; met = met; expected = expected; here = h.0; reason = h.1 }
unexpected_so limit text tokens met expected place (cause.Name rule name) split none h = absurd h.1

-- What the tokens of a text are refused for.
pub unexpected_refuses : (limit : ℕ) (file text : List ℕ) (tokens : List Token) (met : Option Token) (expected : Expected) (e : ModuleError) → HasTokens text tokens → ((modules : List Module) → TextParses limit tokens modules → ⊥)
    → Refuses file (λ place why. (place ≡ place_at text (start_of text met)) × IsUnexpected text met expected why) e → Refuses file (IsTextRefusal limit text) e
unexpected_refuses limit file text tokens met expected e split none h =
    refuses_more file (λ place why. (place ≡ place_at text (start_of text met)) × IsUnexpected text met expected why) (IsTextRefusal limit text) e
    (λ place why. unexpected_so limit text tokens met expected place why split none) h
