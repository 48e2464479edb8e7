-- Why a text is not read, and what is said of it.
use Rattle.std.specs.Prelude.{◌≡◌, ◌≢◌, ℕ, List, [], take}
use Rattle.std.specs.Char.{is_whitespace}
use Rattle.avn_grammar.specs.declared.chars.CharClass.TheVariants as is
use Rattle.avn_grammar.specs.declared.limits.TheConstants.{EXCERPT_LENGTH}
use Rattle.avn_grammar.specs.Tree.{Tree}
use Rattle.avn_grammar.specs.Chars.{class_of_next, tail, skip_while, skip, is_name, utf8_of}
use Rattle.avn_grammar.specs.Grammar.{Parses}
use Rattle.avn_grammar.specs.Depth.{ExceedsDepth}

-- The two reasons for which no tree stands at the front of a text.
pub data Reason : Type 0 where
  by_token : Reason
  by_depth : Reason

-- No tree that is looked for at the level stands at the front of the text, for the reason: a value is looked for too deep, or anything else.
abbrev pub FailsToParse : ℕ → ℕ → List ℕ → Reason → Type 0
FailsToParse limit level u by_token = ((t : Tree) (rest : List ℕ) → Parses limit level u t rest → ⊥) × (ExceedsDepth limit level u → ⊥)
FailsToParse limit level u by_depth = ExceedsDepth limit level u

-- The excerpt of a text: its first characters, at most `EXCERPT_LENGTH` of them, past leading white space and past each identifier, white space and colon.
pub data Found : List ℕ → List ℕ → Type 0 where
  found_here : {u : List ℕ} → (class_of_next (skip u) ≡ is.Letter → class_of_next (skip (skip_while is_name (skip u))) ≡ is.Colon → ⊥) → Found u (take EXCERPT_LENGTH (skip u))
  found_past : {u excerpt : List ℕ} → class_of_next (skip u) ≡ is.Letter → class_of_next (skip (skip_while is_name (skip u))) ≡ is.Colon
      → Found (tail (skip (skip_while is_name (skip u)))) excerpt → Found u excerpt

-- The whole text is not read, though no value is looked for too deep, and the bytes say what was found: the excerpt where no tree stands, else the whole rest after the tree, where it is more than white space.
pub data ParseFailure (limit : ℕ) : List ℕ → List ℕ → Type 0 where
  no_value : {u excerpt : List ℕ} → FailsToParse limit 0 u by_token → Found u excerpt → ParseFailure limit u (utf8_of excerpt)
  more_follows : {u rest : List ℕ} (t : Tree) → Parses limit 0 u t rest → skip_while is_whitespace rest ≢ [] → ParseFailure limit u (utf8_of rest)
