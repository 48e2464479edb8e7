-- What a text is in AVN.
use Rattle.std.specs.Prelude.{ℕ, ◌≤◌, ◌<◌, List, Some}
use Rattle.std.specs.Str.{chars}
use Rattle.asn_fault.specs.Failure.{Failure}
use Rattle.avn_grammar.specs.Depth.{ExceedsDepth, deepest}
use Rattle.avn_grammar.specs.Grammar.{ParsesWhole}
use Rattle.avn_grammar.specs.Normal.{normal}
use Rattle.avn_grammar.specs.Tree.{Tree as AvnTree}
use Rattle.avn_value.specs.Answer.{Explains}
use Rattle.asn_coding.specs.Answer.{Refuses}
use Rattle.asn_traits.specs.Canonical.{avn_tree}
use Rattle.asn_traits.specs.Notation.{Notation}
use Rattle.asn_traits.specs.Shape.{Shape}
use Rattle.asn_traits.specs.FailsWith.{FailsWith}
use Rattle.asn_traits.specs.Tree.{Tree}
use Rattle.asn_traits.specs.Value.{Value}

-- The text is this value of the notation, within the limit on levels.
abbrev pub IsAvn : ℕ → List ℕ → AvnTree → Type 0
IsAvn limit text t = ParsesWhole limit (chars text) t

-- Within the limit, the text is read as the normal form of the tree that is written for the value, unless that is deeper, where a value in it is looked for too deep.
pub record ReadsBack (limit : ℕ) (v : Value) (text : List ℕ) : Type 0 where
  pub again : deepest 0 (avn_tree v) ≤ limit → IsAvn limit text (normal (avn_tree v))
  pub deep : limit < deepest 0 (avn_tree v) → ExceedsDepth limit 0 (chars text)

-- The text is no value of the notation, or too deep, and the error says so, or memory ran out.
abbrev pub NoTree : ℕ → List ℕ → Failure → Type 0
NoTree limit text failure = Explains limit (chars text) failure

-- The text is no value of the notation, or too deep, or its value decodes to none of the shape, and the error says why, or memory ran out.
pub data RefusesText (limit : ℕ) (s : Shape) (text : List ℕ) (failure : Failure) : Type 0 where
  no_tree : NoTree limit text failure → RefusesText limit s text failure
  no_value : (t : AvnTree) → IsAvn limit text t → Refuses Notation.avn (FailsWith Notation.avn s (Some (Tree.avn t))) failure → RefusesText limit s text failure
