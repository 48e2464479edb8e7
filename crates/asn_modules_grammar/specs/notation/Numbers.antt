-- Numbers, named numbers and bits, and items (X.680, sections 19, 20 and 22).
use Rattle.std.specs.Prelude.{◌≡◌, ◌≢◌, List, [], ◌∷◌, drop, Bool, true, false, nat_le, if◌then◌else◌, Option, Some, None}
use Rattle.std.specs.List.{count_by}
use Rattle.std.specs.Option.{option_map, option_and_then}
use Rattle.asn_lexer.specs.declared.kind.Kind.{Kind}
use Rattle.asn_lexer.specs.declared.kind.Kind.TheVariants as kind
use Rattle.asn_lexer.specs.declared.token.Token.{Token}
use Rattle.asn_modules_grammar.specs.headers.Fronts.{first_is}
use Rattle.asn_modules_grammar.specs.notation.Kinds.{first_kind, past, token_at, is_number, is_open_paren, is_close_paren, is_word}
use Rattle.asn_modules_grammar.specs.notation.Lists.{Listed}
use Rattle.asn_modules_grammar.specs.declared.notation.number.SignedNumber.{SignedNumber}
use Rattle.asn_modules_grammar.specs.declared.notation.number.Constant.{Constant}
use Rattle.asn_modules_grammar.specs.declared.notation.number.Constant.TheVariants as constant
use Rattle.asn_modules_grammar.specs.declared.notation.number.NamedNumber.{NamedNumber}
use Rattle.asn_modules_grammar.specs.declared.notation.number.Item.{Item}

-- The number after a minus, and what follows it.
abbrev pub negative_at : List Token → Option (SignedNumber × List Token)
negative_at u =
    option_map (λ p. (record { negative = true; digits = p.0 }, p.1)) (token_at is_number u)

-- What a constant is, by the kind of its first token.
abbrev pub constant_by : Kind → Token → List Token → Option (Constant × List Token)
constant_by (kind.Name initial) t u = Some (constant.Name t, u)
constant_by kind.Number t u = Some (constant.Number (record { negative = false; digits = t }), u)
constant_by kind.Minus t u = option_map (λ p. (constant.Number p.0, p.1)) (negative_at u)
constant_by k t u = None

-- A number with its sign or the name of a value, and what follows it.
abbrev pub constant_at : List Token → Option (Constant × List Token)
constant_at [] = None
constant_at (t ∷ u) = constant_by t.kind t u

-- The parenthesis that closes what was read, and what follows it.
abbrev pub closed : {A : Type 0} → A × List Token → Option (A × List Token)
closed p = option_map (λ v. (p.0, v)) (past is_close_paren p.1)

-- A constant between parentheses, and what follows it.
abbrev pub constant_in_parens_at : List Token → Option (Constant × List Token)
constant_in_parens_at u =
    option_and_then (λ v. option_and_then (λ p. closed p) (constant_at v)) (past is_open_paren u)

-- A word with a constant after it, and what follows them.
abbrev pub named_number_at : List Token → Option (NamedNumber × List Token)
named_number_at u =
    option_and_then
    (λ n. option_map (λ p. (record { name = n.0; number = p.0 }, p.1)) (constant_in_parens_at n.1))
    (token_at is_word u)

-- Named numbers between braces, if a brace opens here, and what follows them.
pub data NamedNumbersParse : List Token → List NamedNumber → List Token → Type 0 where
  no_named_numbers : {u : List Token} → first_kind u ≢ Some kind.OpenBrace
      → NamedNumbersParse u [] u
  named_numbers : {u rest : List Token} {ns : List NamedNumber} → first_kind u ≡ Some kind.OpenBrace
      → Listed named_number_at (drop 1 u) ns rest → NamedNumbersParse u ns rest

-- The number of an item after its word, if it is stated, and what follows it.
abbrev pub item_number_at : Token → List Token → Option (Option Item × List Token)
item_number_at t u =
    if first_is is_open_paren u
    then option_map (λ p. (Some (record { name = t; number = Some p.0 }), p.1))
    (constant_in_parens_at u)
    else Some (Some (record { name = t; number = None }), u)

-- What an item is, by the kind of its first token.
abbrev pub item_by : Kind → Token → List Token → Option (Option Item × List Token)
item_by kind.Ellipsis t u = Some (None, u)
item_by (kind.Name initial) t u = item_number_at t u
item_by (kind.Reserved k) t u = item_number_at t u
item_by k t u = None

-- An item, or the extension marker as `None`, and what follows it.
abbrev pub item_at : List Token → Option (Option Item × List Token)
item_at [] = None
item_at (t ∷ u) = item_by t.kind t u

-- The item is the extension marker.
abbrev pub is_item_marker : Option Item → Bool
is_item_marker None = true
is_item_marker (Some i) = false

-- Items up to the brace that closes them, with at most one extension marker, and what follows them.
pub data ItemsParse : List Token → List (Option Item) → List Token → Type 0 where
  no_items : {u : List Token} → first_kind u ≡ Some kind.CloseBrace → ItemsParse u [] (drop 1 u)
  some_items : {u rest : List Token} {items : List (Option Item)} → Listed item_at u items rest
      → nat_le (count_by is_item_marker items) 1 ≡ true → ItemsParse u items rest
