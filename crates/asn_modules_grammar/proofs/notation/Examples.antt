-- Texts by example, each computed from its tokens: which type stands there, and what follows it.
use Rattle.std.proofs.Common.{◌≡◌, ◌≤◌, ℕ, suc, List, [], ◌∷◌, true, false, Some, None, refl, arith}
use Rattle.asn_core.specs.declared.tag.Class.TheVariants.{Context}
use Rattle.asn_lexer.specs.declared.keyword.Keyword.{Keyword}
use Rattle.asn_lexer.specs.declared.keyword.Keyword.TheVariants as keyword
use Rattle.asn_lexer.specs.declared.kind.Initial.TheVariants.{Capital, Small}
use Rattle.asn_lexer.specs.declared.kind.Kind.{Kind}
use Rattle.asn_lexer.specs.declared.kind.Kind.TheVariants as kind
use Rattle.asn_lexer.specs.declared.token.Token.{Token}
use Rattle.asn_modules_grammar.specs.headers.Headers.{no_imports}
use Rattle.asn_modules_grammar.specs.declared.headers.tagging.Tagging.TheVariants as tagging
use Rattle.asn_model.specs.Shape.{SeqKind}
use Rattle.asn_modules_grammar.specs.notation.Grammar.{NotationParses, notation_parses, leaf_parses, reference_parses, bit_string_parses, enumerated_parses, members_parse, list_parses, instance_parses, last_argument, other_arguments, component_parses, components_of_parses, marker_parses, group_parses, last_member, next_member, some_members_parse}
use Rattle.asn_modules_grammar.specs.notation.Lists.{no_more, one_more, last_entry, next_entry}
use Rattle.asn_modules_grammar.specs.notation.Modules.{Assignment, type_assignment, value_assignment, BodyParses, TextParses, modules_parse, assignments_parse, no_modules, next_module, no_assignments, next_assignment, assignment_parses, plain_parses, type_parses, macro_parses, value_parses, template_assignment}
use Rattle.asn_modules_grammar.specs.notation.Notation.{notation, leaf, bit_string, enumerated, members, list_of, reference, instance_of, notations_of, component, components_of, group, marker, members_of}
use Rattle.asn_modules_grammar.specs.notation.Numbers.{no_named_numbers, some_items}
use Rattle.asn_modules_grammar.specs.notation.Sizes.{of_at}
use Rattle.asn_modules_grammar.specs.notation.Starts.{Start, start_at, begins_type}
use Rattle.asn_modules_grammar.specs.notation.Values.{value_at}
use Rattle.asn_modules_grammar.specs.declared.notation.leaf.Closed.TheVariants.{ClassField, Parameterized}
use Rattle.asn_modules_grammar.specs.declared.notation.leaf.Leaf.TheVariants.{Boolean, Closed}
use Rattle.asn_modules_grammar.specs.declared.notation.notation.Presence.TheVariants.{Optional, Default}
use Rattle.asn_modules_grammar.specs.declared.notation.number.Constant.TheVariants as constant
use Rattle.asn_modules_grammar.specs.declared.notation.tag.TagMode.TheVariants.{Implicit}
use Rattle.asn_modules_grammar.specs.declared.notation.value.Value.TheVariants as value

-- The token of the kind at the place.
abbrev at : Kind → ℕ → Token
at k n = record { kind = k; start = n; end = suc n }

abbrev word : Keyword → ℕ → Token
word k n = at (kind.Reserved k) n

abbrev capital : ℕ → Token
capital n = at (kind.Name Capital) n

abbrev small : ℕ → Token
small n = at (kind.Name Small) n

fits : (level : ℕ) → level ≡ 0 → level ≤ 64
fits level e = omega (arith, e)

fits_one : 1 ≤ 64
fits_one = omega arith

-- BIT STRING (SIZE (8)) has this size.
sized : NotationParses 64 0
    (word keyword.Bit 0 ∷ word keyword.String 1 ∷ at kind.OpenParen 2 ∷ word keyword.Size 3 ∷ at kind.OpenParen 4 ∷ at kind.Number 5 ∷ at kind.CloseParen 6 ∷ at kind.CloseParen 7 ∷ [])
    (notation [] (bit_string []) (record { low = at kind.Number 5; high = at kind.Number 5 } ∷ [])) []
sized = notation_parses (fits 0 refl) (no_more refl) refl (bit_string_parses (no_named_numbers (λ e. cc))) (one_more refl refl (no_more refl))

-- BIT STRING (SIZE (8, ...)) has none.
extensible : NotationParses 64 0
    (word keyword.Bit 0 ∷ word keyword.String 1 ∷ at kind.OpenParen 2 ∷ word keyword.Size 3 ∷ at kind.OpenParen 4 ∷ at kind.Number 5 ∷ at kind.Comma 6 ∷ at kind.Ellipsis 7 ∷ at kind.CloseParen 8 ∷ at kind.CloseParen 9 ∷ [])
    (notation [] (bit_string []) []) []
extensible = notation_parses (fits 0 refl) (no_more refl) refl (bit_string_parses (no_named_numbers (λ e. cc))) (one_more refl refl (no_more refl))

-- [3] IMPLICIT SEQUENCE SIZE (1..a) OF M.T
tagged : NotationParses 64 0
    (at kind.OpenBracket 0 ∷ at kind.Number 1 ∷ at kind.CloseBracket 2 ∷ word keyword.Implicit 3 ∷ word keyword.Sequence 4 ∷ word keyword.Size 5 ∷ at kind.OpenParen 6 ∷ at kind.Number 7 ∷ at kind.Range 8 ∷ small 9 ∷ at kind.CloseParen 10
    ∷ word keyword.Of 11 ∷ capital 12 ∷ at kind.Point 13 ∷ capital 14 ∷ [])
    (notation (record { class = Context; number = at kind.Number 1; mode = Some Implicit } ∷ []) (list_of SeqKind.sequence (notation [] (reference (Some (capital 12)) (capital 14)) [])) []) []
tagged = notation_parses (fits 0 refl) (one_more refl refl (no_more refl)) refl
    (list_parses refl (notation_parses fits_one (no_more refl) refl (reference_parses (λ e. cc)) (no_more refl))) (no_more refl)

-- ENUMERATED { a, b (-1), ... }
items : NotationParses 64 0
    (word keyword.Enumerated 0 ∷ at kind.OpenBrace 1 ∷ small 2 ∷ at kind.Comma 3 ∷ small 4 ∷ at kind.OpenParen 5 ∷ at kind.Minus 6 ∷ at kind.Number 7 ∷ at kind.CloseParen 8 ∷ at kind.Comma 9 ∷ at kind.Ellipsis 10 ∷ at kind.CloseBrace 11 ∷ [])
    (notation [] (enumerated (Some (record { name = small 2; number = None }) ∷ Some (record { name = small 4; number = Some (constant.Number (record { negative = true; digits = at kind.Number 7 })) }) ∷ None ∷ [])) []) []
items = notation_parses (fits 0 refl) (no_more refl) refl (enumerated_parses refl (some_items (next_entry refl refl (next_entry refl refl (last_entry refl refl))) refl)) (no_more refl)

-- { a BOOLEAN DEFAULT x, ..., [[ 2: b BOOLEAN OPTIONAL ]], ..., COMPONENTS OF T } after SEQUENCE
fields : NotationParses 64 0
    (word keyword.Sequence 0 ∷ at kind.OpenBrace 1 ∷ small 2 ∷ word keyword.Boolean 3 ∷ word keyword.Default 4 ∷ small 5 ∷ at kind.Comma 6 ∷ at kind.Ellipsis 7 ∷ at kind.Comma 8
    ∷ at kind.OpenVersion 9 ∷ at kind.Number 10 ∷ at kind.Colon 11 ∷ small 12 ∷ word keyword.Boolean 13 ∷ word keyword.Optional 14 ∷ at kind.CloseVersion 15 ∷ at kind.Comma 16
    ∷ at kind.Ellipsis 17 ∷ at kind.Comma 18 ∷ word keyword.Components 19 ∷ word keyword.Of 20 ∷ capital 21 ∷ at kind.CloseBrace 22 ∷ [])
    (notation [] (members SeqKind.sequence (members_of (
    component (small 2) (notation [] (leaf Boolean) []) (Default (value.Word (small 5))) ∷ marker
    ∷ group (members_of (component (small 12) (notation [] (leaf Boolean) []) Optional ∷ [])) ∷ marker ∷ components_of (notation [] (reference None (capital 21)) []) ∷ []))) []) []
fields =
    notation_parses (fits 0 refl) (no_more refl) refl
    (members_parse refl (some_members_parse
    (next_member (component_parses refl (notation_parses fits_one (no_more refl) refl leaf_parses (no_more refl)) refl) refl
    (next_member (marker_parses refl) refl
    (next_member (group_parses refl (last_member (component_parses refl (notation_parses fits_one (no_more refl) refl leaf_parses (no_more refl)) refl) refl)) refl
    (next_member (marker_parses refl) refl
    (last_member (components_of_parses refl refl (notation_parses fits_one (no_more refl) refl (reference_parses (λ e. cc)) (no_more refl)) refl) refl))))) refl)) (no_more refl)

-- The value of an alternative is kept by its first token alone: a : b : -1
chosen : value_at (small 0 ∷ at kind.Colon 1 ∷ small 2 ∷ at kind.Colon 3 ∷ at kind.Minus 4 ∷ at kind.Number 5 ∷ []) ≡ Some (value.Other (small 0), [])
chosen = refl

-- M DEFINITIONS ::= BEGIN T ::= BOOLEAN x T ::= TRUE END
whole_text : TextParses 64
    (capital 0 ∷ word keyword.Definitions 1 ∷ at kind.Assignment 2 ∷ word keyword.Begin 3 ∷ capital 4 ∷ at kind.Assignment 5 ∷ word keyword.Boolean 6 ∷ small 7 ∷ capital 8 ∷ at kind.Assignment 9 ∷ capital 10 ∷ word keyword.End 11 ∷ [])
    (record {
      header = Some (record { opening = record { name = capital 0; tagging = tagging.Explicit; extensible = false }; exports = None; imports = [] });
      assignments = type_assignment (capital 4) (notation [] (leaf Boolean) []) ∷ value_assignment (small 7) (notation [] (reference None (capital 8)) []) (value.Word (capital 10)) ∷ [];
    } ∷ [])
whole_text = modules_parse refl (next_module (record { behind_opening = _; behind_exports = _; opening = refl; exports = refl; imports = no_imports refl })
    (next_assignment (assignment_parses refl refl (type_parses refl refl (plain_parses refl (notation_parses (fits 0 refl) (no_more refl) refl leaf_parses (no_more refl)))))
    (next_assignment (assignment_parses refl refl (value_parses (λ e. cc) refl (notation_parses (fits 0 refl) (no_more refl) refl (reference_parses (λ e. cc)) (no_more refl)) refl refl)) (no_assignments refl))) refl no_modules)

-- S {T} ::= BOOLEAN has a parameter, and U ::= S {BOOLEAN} one in its place.
with_parameters : TextParses 64
    (capital 0 ∷ at kind.OpenBrace 1 ∷ capital 2 ∷ at kind.CloseBrace 3 ∷ at kind.Assignment 4 ∷ word keyword.Boolean 5
    ∷ capital 6 ∷ at kind.Assignment 7 ∷ capital 8 ∷ at kind.OpenBrace 9 ∷ word keyword.Boolean 10 ∷ at kind.CloseBrace 11 ∷ [])
    (record {
      header = None;
      assignments = template_assignment (capital 0) (capital 2 ∷ []) (notation [] (leaf Boolean) [])
          ∷ type_assignment (capital 6) (notation [] (instance_of None (capital 8) (notations_of (notation [] (leaf Boolean) [] ∷ []))) []) ∷ [];
    } ∷ [])
with_parameters = assignments_parse refl
    (next_assignment (assignment_parses refl refl (type_parses refl refl (plain_parses refl (notation_parses (fits 0 refl) (no_more refl) refl leaf_parses (no_more refl)))))
    (next_assignment (assignment_parses refl refl (type_parses refl refl (plain_parses refl (notation_parses (fits 0 refl) (no_more refl) refl
    (instance_parses refl (last_argument refl (notation_parses fits_one (no_more refl) refl leaf_parses (no_more refl)) refl)) (no_more refl))))) (no_assignments refl)))

-- S {1} has an actual parameter that is no type.
with_number : NotationParses 64 0 (capital 0 ∷ at kind.OpenBrace 1 ∷ at kind.Number 2 ∷ at kind.CloseBrace 3 ∷ []) (notation [] (leaf (Closed Parameterized)) []) []
with_number = notation_parses (fits 0 refl) (no_more refl) refl (instance_parses refl (other_arguments refl refl)) (no_more refl)

-- sequence { a INTEGER } is no type, since the name of one begins with a capital letter. So is m.T.
no_sequence : start_at (small 0 ∷ at kind.OpenBrace 1 ∷ small 2 ∷ word keyword.Integer 3 ∷ at kind.CloseBrace 4 ∷ []) ≡ None
no_sequence = refl

no_module : start_at (small 0 ∷ at kind.Point 1 ∷ capital 2 ∷ []) ≡ None
no_module = refl

-- a.&T is the type of a field of an object.
object_field : start_at (small 0 ∷ at kind.Point 1 ∷ at kind.Ampersand 2 ∷ capital 3 ∷ []) ≡ Some (Start.leaf (Closed ClassField), [])
object_field = refl

-- The name of a value is no type among actual parameters: S {a} and S {M.a}, but not S {a.&T}.
value_named : begins_type (small 0 ∷ at kind.CloseBrace 1 ∷ []) ≡ false
value_named = refl

module_value_named : begins_type (capital 0 ∷ at kind.Point 1 ∷ small 2 ∷ at kind.CloseBrace 3 ∷ []) ≡ false
module_value_named = refl

field_begins : begins_type (small 0 ∷ at kind.Point 1 ∷ at kind.Ampersand 2 ∷ capital 3 ∷ []) ≡ true
field_begins = refl

-- Nothing is assigned by a ::= BOOLEAN.
no_small : {a : Assignment} {rest : List Token} → BodyParses 64 (small 0) (at kind.Assignment 1 ∷ word keyword.Boolean 2 ∷ []) a rest → ⊥
no_small (type_parses h k d) = let e : true ≡ false = k in let y : ⊥ = cc in y
no_small (macro_parses m) = let y : ⊥ = cc in y
no_small (value_parses h m d k x) = h refl

-- SET SIZE (1..4) OF a BOOLEAN has named elements, whose name means nothing.
named_elements : NotationParses 64 0
    (word keyword.Set 0 ∷ word keyword.Size 1 ∷ at kind.OpenParen 2 ∷ at kind.Number 3 ∷ at kind.Range 4 ∷ at kind.Number 5 ∷ at kind.CloseParen 6 ∷ word keyword.Of 7 ∷ small 8 ∷ word keyword.Boolean 9 ∷ [])
    (notation [] (list_of SeqKind.set (notation [] (leaf Boolean) [])) []) []
named_elements = notation_parses (fits 0 refl) (no_more refl) refl (list_parses refl (notation_parses fits_one (no_more refl) refl leaf_parses (no_more refl))) (no_more refl)

-- The elements of SEQUENCE OF a.&T are of the type of a field.
element_field : of_at (word keyword.Of 0 ∷ small 1 ∷ at kind.Point 2 ∷ at kind.Ampersand 3 ∷ capital 4 ∷ []) ≡ Some (small 1 ∷ at kind.Point 2 ∷ at kind.Ampersand 3 ∷ capital 4 ∷ [])
element_field = refl

-- 1.5 and -1.5 are values, kept by their first tokens.
real : value_at (at kind.RealNumber 0 ∷ at kind.Comma 1 ∷ []) ≡ Some (value.Other (at kind.RealNumber 0), at kind.Comma 1 ∷ [])
real = refl

negative_real : value_at (at kind.Minus 0 ∷ at kind.RealNumber 1 ∷ []) ≡ Some (value.Other (at kind.Minus 0), [])
negative_real = refl
