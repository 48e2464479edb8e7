-- Which texts are read together.
use Rattle.std.specs.Prelude.{◌≡◌, ℕ, List, [], ◌∷◌, ◌++◌}
use Rattle.std.specs.Borrow.{Bor}
use Rattle.asn_modules_errors.specs.Errors.{Refuses}
use Rattle.asn_modules_errors.specs.declared.error.ModuleError.{ModuleError}
use Rattle.asn_modules_errors.specs.declared.error.ModuleError.TheVariants as error
use Rattle.asn_modules_names.specs.Mentions.{Source}
use Rattle.asn_modules_reader.specs.declared.limits.TheConstants.{NESTING_LIMIT}
use Rattle.asn_modules_reader.specs.text.Texts.{IsText, IsTextRefusal}

-- A text and its name.
pub record Named : Type 0 where
  pub file : List ℕ
  pub text : List ℕ

abbrev pub named_view : Bor (List ℕ) × Bor (List ℕ) → Named
named_view t = record { file = t.0.now; text = t.1.now }

-- The text is the source: its modules.
pub record IsRead (t : Named) (s : Source) : Type 0 where
  pub file : s.file ≡ t.file
  pub text : s.text ≡ t.text
  pub modules : IsText NESTING_LIMIT t.text s.modules

-- The texts are the sources, each one of them, in order.
abbrev pub AreRead : List Named → List Source → Type 0
AreRead [] [] = Unit {0}
AreRead (t ∷ ts) (s ∷ ss) = IsRead t s × AreRead ts ss
AreRead ts ss = ⊥

-- One of the texts is refused, as the error tells, and each before it is read.
pub record RefusesFirst (texts : List Named) (e : ModuleError) : Type 0 where
  pub before : List Named
  pub refused : Named
  pub behind : List Named
  pub all : texts ≡ before ++ refused ∷ behind
  pub sources : List Source
  pub read : AreRead before sources
  pub reason : Refuses refused.file (IsTextRefusal NESTING_LIMIT refused.text) e

-- The error tells the first text that is refused, unless memory ran out.
abbrev pub IsFirstRefused : List Named → ModuleError → Type 0
IsFirstRefused texts (error.Refused file place cause) =
    RefusesFirst texts (error.Refused file place cause)
IsFirstRefused texts error.OutOfMemory = Unit {0}
