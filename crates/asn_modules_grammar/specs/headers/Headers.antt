-- What stands in a module before its assignments (X.680, section 13).
use Rattle.std.specs.Prelude.{◌≡◌, List, [], ◌∷◌, drop, Bool, true, false, not, ◌&&◌, ◌||◌, if◌then◌else◌, Option, Some, None}
use Rattle.std.specs.Option.{option_map, option_and_then}
use Rattle.asn_lexer.specs.declared.keyword.Keyword.TheVariants as keyword
use Rattle.asn_lexer.specs.declared.kind.Kind.{Kind}
use Rattle.asn_lexer.specs.declared.kind.Kind.TheVariants as kind
use Rattle.asn_lexer.specs.declared.token.Token.{Token}
use Rattle.asn_modules_grammar.specs.declared.headers.tagging.Tagging.{Tagging}
use Rattle.asn_modules_grammar.specs.declared.headers.tagging.Tagging.TheVariants as tagging
use Rattle.asn_modules_grammar.specs.headers.Fronts.{first_is, is_name}
use Rattle.asn_modules_grammar.specs.declared.headers.group.Group.TheVariants.{Braces}
use Rattle.asn_modules_grammar.specs.declared.headers.opening.Opening.{Opening}
use Rattle.asn_modules_grammar.specs.headers.Groups.{opens, closes, past_optional_braces}
use Rattle.asn_modules_grammar.specs.headers.Marks.{is_mark}
use Rattle.asn_modules_grammar.specs.declared.headers.mark.Mark.TheVariants as mark

-- What follows a closing brace that stands here.
abbrev pub closed_here : List Token → Option (List Token)
closed_here [] = None
closed_here (t ∷ u) = if closes Braces t.kind then Some u else None

-- What follows optional braces that nothing stands in.
abbrev pub past_empty_braces : List Token → Option (List Token)
past_empty_braces [] = Some []
past_empty_braces (t ∷ u) = if opens Braces t.kind then closed_here u else Some (t ∷ u)

abbrev mutual
  -- Names with commas between them, and what follows them. After each, empty braces may stand.
  pub names_at : List Token → Option (List Token × List Token)
  names_at [] = None
  names_at (t ∷ u) = if is_name t.kind then names_from t u else None

  -- The names from this one on, which tokens follow.
  pub names_from : Token → List Token → Option (List Token × List Token)
  names_from t [] = Some (t ∷ [], [])
  names_from t (c ∷ u) =
      if opens Braces c.kind then names_past t u
      else if is_mark mark.Comma c.kind then option_map (λ p. (t ∷ p.0, p.1)) (names_at u)
      else Some (t ∷ [], c ∷ u)

  -- So after an opening brace.
  pub names_past : Token → List Token → Option (List Token × List Token)
  names_past t [] = None
  names_past t (c ∷ u) = if closes Braces c.kind then names_behind t u else None

  -- So after the braces.
  pub names_behind : Token → List Token → Option (List Token × List Token)
  names_behind t [] = Some (t ∷ [], [])
  names_behind t (c ∷ u) =
      if is_mark mark.Comma c.kind then option_map (λ p. (t ∷ p.0, p.1)) (names_at u)
      else Some (t ∷ [], c ∷ u)

-- The tagging that a reserved word begins.
abbrev pub tagging_of : Kind → Option Tagging
tagging_of (kind.Reserved keyword.Explicit) = Some tagging.Explicit
tagging_of (kind.Reserved keyword.Implicit) = Some tagging.Implicit
tagging_of (kind.Reserved keyword.Automatic) = Some tagging.Automatic
tagging_of k = None

abbrev pub is_tags : Kind → Bool
is_tags (kind.Reserved keyword.Tags) = true
is_tags k = false

-- TAGS after the word of a tagging, if there is one; else tags are explicit, and nothing stands
-- here.
abbrev pub tags_behind : Option Tagging → List Token → List Token → Option (Tagging × List Token)
tags_behind None tokens u = Some (tagging.Explicit, tokens)
tags_behind (Some d) tokens [] = None
tags_behind (Some d) tokens (t ∷ u) = if is_tags t.kind then Some (d, u) else None

-- The optional default of tags, and what follows it.
abbrev pub tags_at : List Token → Option (Tagging × List Token)
tags_at [] = Some (tagging.Explicit, [])
tags_at (t ∷ u) = tags_behind (tagging_of t.kind) (t ∷ u) u

abbrev pub is_extensibility : Kind → Bool
is_extensibility (kind.Reserved keyword.Extensibility) = true
is_extensibility k = false

abbrev pub is_implied : Kind → Bool
is_implied (kind.Reserved keyword.Implied) = true
is_implied k = false

abbrev pub implied_behind : List Token → Option (Bool × List Token)
implied_behind [] = None
implied_behind (t ∷ u) = if is_implied t.kind then Some (true, u) else None

-- Whether EXTENSIBILITY IMPLIED stands here, and what follows it.
abbrev pub implied_at : List Token → Option (Bool × List Token)
implied_at [] = Some (false, [])
implied_at (t ∷ u) = if is_extensibility t.kind then implied_behind u else Some (false, t ∷ u)

-- A semicolon, and what follows it.
abbrev pub ended : {A : Type 0} → A → List Token → Option (A × List Token)
ended x u = if first_is (is_mark mark.Semicolon) u then Some (x, drop 1 u) else None

abbrev pub names_ended : Option (List Token × List Token)
    → Option (Option (List Token) × List Token)
names_ended None = None
names_ended (Some p) = ended (Some p.0) p.1

-- What stands after EXPORTS, and what follows it: ALL, names or nothing, and a semicolon. All is
-- the same as no list.
abbrev pub exported_at : List Token → Option (Option (List Token) × List Token)
exported_at u =
    if first_is (is_mark mark.All) u then ended None (drop 1 u)
    else if first_is (is_mark mark.Semicolon) u then Some (Some [], drop 1 u)
    else names_ended (names_at u)

-- The names that are exported, or none where all are, and what follows them.
abbrev pub exports_at : List Token → Option (Option (List Token) × List Token)
exports_at u = if first_is (is_mark mark.Exports) u then exported_at (drop 1 u) else Some (None, u)

-- After one of the names that are imported stands a comma, FROM or a brace.
abbrev pub follows_imported : Kind → Bool
follows_imported k = is_mark mark.Comma k || (is_mark mark.From k || opens Braces k)

-- What follows the optional identifier of a module: the name of a value, which is none of the names
-- that are imported next, or a group in braces.
abbrev pub past_identifier : List Token → Option (List Token)
past_identifier u =
    if first_is is_name u && not (first_is follows_imported (drop 1 u)) then Some (drop 1 u)
    else past_optional_braces u

-- What follows WITH SUCCESSORS or WITH DESCENDANTS, if one of them stands here.
abbrev pub past_selection : List Token → Option (List Token)
past_selection u =
    if first_is (is_mark mark.With) u then
    (if first_is (is_mark mark.Successors) (drop 1 u) || first_is (is_mark mark.Descendants) (drop 1 u) then Some (drop 1 (drop 1 u)) else None)
    else Some u

-- The module that names are imported from, and what follows it.
abbrev pub from_at : List Token → List Token → Option ((List Token × Token) × List Token)
from_at names [] = None
from_at names (t ∷ u) =
    if is_name t.kind
    then option_map (λ v. ((names, t), v)) (option_and_then past_selection (past_identifier u))
    else None

abbrev pub names_from_module : Option (List Token × List Token)
    → Option ((List Token × Token) × List Token)
names_from_module None = None
names_from_module (Some p) =
    if first_is (is_mark mark.From) p.1 then from_at p.0 (drop 1 p.1) else None

-- Names and the module that they are imported from, and what follows them.
abbrev pub import_at : List Token → Option ((List Token × Token) × List Token)
import_at u = names_from_module (names_at u)

-- From u these imports stand up to v, none of which begins with a semicolon.
pub data ImportsReach : List Token → List (List Token × Token) → List Token → Type 0 where
  reaches_here : {u : List Token} → ImportsReach u [] u
  reaches_next : {u v w : List Token} {i : List Token × Token} {is : List (List Token × Token)}
      → first_is (is_mark mark.Semicolon) u ≡ false → import_at u ≡ Some (i, v)
      → ImportsReach v is w → ImportsReach u (i ∷ is) w

-- Where IMPORTS stands here, these imports do and a semicolon, which the rest follows; else there
-- are none.
pub data ImportsParse : List Token → List (List Token × Token) → List Token → Type 0 where
  no_imports : {u : List Token} → first_is (is_mark mark.Imports) u ≡ false → ImportsParse u [] u
  imports_parse : {u v : List Token} {is : List (List Token × Token)}
      → first_is (is_mark mark.Imports) u ≡ true → ImportsReach (drop 1 u) is v
      → first_is (is_mark mark.Semicolon) v ≡ true → ImportsParse u is (drop 1 v)

-- `::=` and BEGIN, and what follows them.
abbrev pub begun_at : Opening → List Token → Option (Opening × List Token)
begun_at o u =
    if first_is (is_mark mark.Assignment) u && first_is (is_mark mark.Begin) (drop 1 u)
    then Some (o, drop 1 (drop 1 u)) else None

-- What follows DEFINITIONS to BEGIN, after the name of a module.
abbrev pub defined_at : Token → List Token → Option (Opening × List Token)
defined_at name u =
    option_and_then
    (λ t. option_and_then (λ i. begun_at (record { name = name; tagging = t.0; extensible = i.0 }) i.1) (implied_at t.1))
    (tags_at u)

abbrev pub definitions_at : Token → List Token → Option (Opening × List Token)
definitions_at name u =
    if first_is (is_mark mark.Definitions) u then defined_at name (drop 1 u) else None

-- What stands in a module up to BEGIN, and what follows that.
abbrev pub opening_at : List Token → Option (Opening × List Token)
opening_at [] = None
opening_at (t ∷ u) =
    if is_name t.kind then option_and_then (definitions_at t) (past_optional_braces u) else None

-- What stands in a module before its assignments.
pub record Header : Type 0 where
  pub opening : Opening
  pub exports : Option (List Token)
  pub imports : List (List Token × Token)

-- The header stands at the front of the tokens, and the rest follows it.
pub record HeaderParses (tokens : List Token) (h : Header) (rest : List Token) : Type 0 where
  pub behind_opening : List Token
  pub behind_exports : List Token
  pub opening : opening_at tokens ≡ Some (h.opening, behind_opening)
  pub exports : exports_at behind_opening ≡ Some (h.exports, behind_exports)
  pub imports : ImportsParse behind_exports h.imports rest
