-- What stands behind the first word of a production.
use Rattle.std.specs.Prelude.{ℕ, ◌≡◌, ◌++◌, List, true, Option, Some, String}
use Rattle.std.specs.Global.{Global}
use Rattle.asn_model.specs.Shape.{SeqKind}
use Rattle.asn_notation.specs.Grammar.{NotationParses, ListParses}
use Rattle.asn_notation.specs.Notation.{Notation, Element, Assignment, members, list_of, marker, elements_of}
use Rattle.asn_notation.specs.Starts.{is_type_name}
use Rattle.asn_notation.specs.Tokens.{Token, first_token, past_token, keyword_at}
use Rattle.asn_notation.specs.View.{component_view, items_of, marked}
use Rattle.asn_notation.specs.declared.keyword.Keyword.TheVariants as keyword
use Rattle.asn_notation.specs.declared.notation.Component.{Component}
use Rattle.asn_module_reader.specs.declared.entries.Entries.{Entries}
use Rattle.std.specs.Prelude.{map}

-- Behind SEQUENCE or SET the notation goes on at the front of the text, and the rest follows it: with elements between braces, or with OF and a notation.
pub data MembersParse (limit level : ℕ) (kind : SeqKind) : List ℕ → Notation → List ℕ → Type 0 where
  in_braces : {v rest : List ℕ} {es : List Element} → first_token v ≡ Token.open_brace → ListParses limit level true (past_token v) es rest → MembersParse limit level kind v (members kind (elements_of es)) rest
  behind_of : {v rest : List ℕ} {n : Notation} → keyword_at v ≡ Some keyword.Of → NotationParses limit level (past_token v) n rest → MembersParse limit level kind v (list_of kind n) rest

-- Behind the name of a type its assignment goes on at the front of the text, and the rest follows it.
pub record AssignmentParses (limit : ℕ) (name v : List ℕ) (a : Assignment) (rest : List ℕ) : Type 0 where
  pub named : a.name ≡ name
  pub is_type : is_type_name name ≡ true
  pub sign : first_token v ≡ Token.assignment
  pub notation : NotationParses limit 0 (past_token v) a.notation rest

-- The elements that were read, in order.
abbrev pub elements_read : Entries Component → List Element
elements_read es = map component_view es.root.items ++ marked component_view marker es.added

-- The items that were read, in order.
abbrev pub items_read : Entries (String Global) → List (Option (List ℕ))
items_read es = items_of es.root.items es.added
