-- The place at which a text is no value notation (X.680, clauses 25, 26 and 29): what may stand
-- after what. A text is the list of its bytes, in UTF-8.
use Rattle.std.specs.Prelude.{◌≡◌, ◌≤◌, ℕ, List, [], ◌∷◌, ◌++◌, Bool, true, false, ◌&&◌, ◌||◌, ◌==◌, ◌-◌, if◌then◌else◌, drop, length, slice_get, take, IsCharBoundary, Option, Some, None}
use Rattle.std.specs.Str.{trim_start}
use Rattle.avn_grammar.specs.Chars.{is_letter, is_name, skip, skip_while, starts_with}
use Rattle.avn_places.specs.Braces.{behind_value, new_braces, with_item}
use Rattle.avn_places.specs.Tokens.{begins_number, past_sign, simple_value}
use Rattle.avn_places.specs.declared.braces.Braces.{Braces}
use Rattle.avn_places.specs.declared.braces.Item.{Item}
use Rattle.avn_places.specs.declared.braces.Item.TheVariants.{Named, Other, Plain}
use Rattle.avn_places.specs.declared.turn.Expected.{Expected}
use Rattle.avn_places.specs.declared.turn.Expected.TheVariants as expected
use Rattle.avn_places.specs.declared.turn.Then.{Then}
use Rattle.avn_places.specs.declared.turn.Then.TheVariants as then

-- The text begins with this character.
abbrev pub begins : ℕ → List ℕ → Bool
begins c u = starts_with (λ d. d == c) u

-- What follows the name at the front of the text.
abbrev pub past_name : List ℕ → List ℕ
past_name u = skip_while is_name u

-- What a name is, by what follows its colon, if there is one: the name of an alternative, whose
-- value follows, or a word.
abbrev pub at_name : List ℕ → Option (List ℕ) → Then × List ℕ
at_name rest None = (then.On (expected.Behind false), rest)
at_name rest (Some payload) = (then.On expected.Value, payload)

-- Braces whose opening one was read, by what follows a closing one: they are empty, or an item
-- follows.
abbrev pub at_braces : List ℕ → Option (List ℕ) → Then × List ℕ
at_braces items None = (then.Opens, items)
at_braces items (Some rest) = (then.On (expected.Behind false), rest)

-- A number, a string, or octets or bits, or what is no value.
abbrev pub at_simple : List ℕ → Option (Bool × List ℕ) → Then × List ℕ
at_simple u None = (then.Fault, u)
at_simple u (Some s) = (then.On (expected.Behind s.0), s.1)

abbrev pub at_no_name : List ℕ → Option (List ℕ) → Then × List ℕ
at_no_name u None = at_simple u (simple_value u)
at_no_name u (Some items) = at_braces items (past_sign 125 (skip items))

-- A value is expected.
abbrev pub value_turn : List ℕ → Then × List ℕ
value_turn u =
    if starts_with is_letter u then at_name (past_name u) (past_sign 58 (skip (past_name u)))
    else at_no_name u (past_sign 123 u)

-- The braces go on with an item, if they may have it.
abbrev pub holding : Option Braces → Expected → List ℕ → List ℕ → Then × List ℕ
holding None e u rest = (then.Fault, u)
holding (Some b) e u rest = (then.Holds b e, rest)

-- An item that begins with a name: that of an alternative, a word, or that of a field.
abbrev pub named_turn : Braces → List ℕ → List ℕ → Then × List ℕ
named_turn b u behind =
    if begins 58 behind then holding (with_item b Other) expected.Value u u
    else if begins 44 behind || begins 125 behind
    then holding (with_item b Other) (expected.Behind false) u (past_name u)
    else holding (with_item b Named) expected.Value u (past_name u)

-- An item of braces is expected.
abbrev pub item_turn : Braces → List ℕ → Then × List ℕ
item_turn b u =
    if starts_with is_letter u then named_turn b u (skip (past_name u))
    else holding (with_item b Plain) expected.Value u u

-- After a value in braces, by what follows a comma: another item is expected, which needs no comma
-- if it is a number after integers.
abbrev pub at_comma : Braces → List ℕ → Option (List ℕ) → Then × List ℕ
at_comma b u (Some rest) = (then.Holds b expected.Item, rest)
at_comma b u None =
    if b.are_integers && begins_number u then (then.Holds b expected.Item, u) else (then.Fault, u)

-- By what follows the closing brace.
abbrev pub at_close : Braces → List ℕ → Option (List ℕ) → Then × List ℕ
at_close b u (Some rest) = (then.Closes, rest)
at_close b u None = at_comma b u (past_sign 44 u)

-- What follows a value is expected: nothing but white space where no braces are open.
abbrev pub behind_turn : Option Braces → Bool → List ℕ → Then × List ℕ
behind_turn None i u = (then.Fault, trim_start u)
behind_turn (Some b) i u = at_close (behind_value b i) u (past_sign 125 u)

abbrev pub item_in : Option Braces → List ℕ → Then × List ℕ
item_in None u = (then.Fault, u)
item_in (Some b) u = item_turn b u

-- What stands at the front of the text, where this is expected in these innermost braces, and what
-- follows it.
abbrev pub turn : Option Braces → Expected → List ℕ → Then × List ℕ
turn b expected.Value u = value_turn u
turn b expected.Item u = item_in b u
turn b (expected.Behind i) u = behind_turn b i u

-- The innermost braces: those are last.
abbrev pub innermost : List Braces → Option Braces
innermost opened = slice_get opened (length opened - 1)

-- The others.
abbrev pub outer : List Braces → List Braces
outer opened = take (length opened - 1) opened

-- Where this is expected in these braces, what can't stand there begins with this rest of the text.
pub data Stops : List Braces → Expected → List ℕ → List ℕ → Type 0 where
  at_fault : {opened : List Braces} {e : Expected} {u rest : List ℕ}
      → turn (innermost opened) e (skip u) ≡ (then.Fault, rest) → Stops opened e u rest
  goes_on : {opened : List Braces} {e next : Expected} {u v rest : List ℕ}
      → turn (innermost opened) e (skip u) ≡ (then.On next, v) → Stops opened next v rest
      → Stops opened e u rest
  opens : {opened : List Braces} {e : Expected} {u v rest : List ℕ}
      → turn (innermost opened) e (skip u) ≡ (then.Opens, v)
      → Stops (opened ++ new_braces ∷ []) expected.Item v rest → Stops opened e u rest
  holds : {opened : List Braces} {b : Braces} {e next : Expected} {u v rest : List ℕ}
      → turn (innermost opened) e (skip u) ≡ (then.Holds b next, v)
      → Stops (outer opened ++ b ∷ []) next v rest → Stops opened e u rest
  closes : {opened : List Braces} {e : Expected} {u v rest : List ℕ}
      → turn (innermost opened) e (skip u) ≡ (then.Closes, v)
      → Stops (outer opened) (expected.Behind false) v rest → Stops opened e u rest

-- Which place of the text is at fault: a value is expected, and what can't stand there begins at
-- this offset.
pub record IsFaultPlace (text : List ℕ) (offset : ℕ) : Type 0 where
  pub within : offset ≤ length text
  pub boundary : IsCharBoundary text offset
  pub stops : Stops [] expected.Value text (drop offset text)
