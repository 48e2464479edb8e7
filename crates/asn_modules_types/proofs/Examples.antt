-- Types by example, each computed from its notation.
use Rattle.std.proofs.Common.{◌≡◌, ℕ, pos, suc, List, [], ◌∷◌, ◌++◌, codes, Bool, true, false, if◌then◌else◌, Some, None, refl}
use Rattle.std.specs.Str.{chars, is_utf8}
use Rattle.asn_expansion.specs.Expansion.{context_tag}
use Rattle.asn_lexer.specs.declared.kind.Initial.TheVariants.{Small}
use Rattle.asn_lexer.specs.declared.kind.Kind.{Kind}
use Rattle.asn_lexer.specs.declared.kind.Kind.TheVariants as kind
use Rattle.asn_lexer.specs.declared.token.Token.{Token}
use Rattle.asn_linked_types.specs.Expansion.{no_values}
use Rattle.asn_model.specs.Shape.{Alphabet, Alternatives, AlternativeAdditions, Fields, FieldAdditions, Plain, Presence, SeqKind, Shape}
use Rattle.asn_model.specs.declared.shape_type.Alphabet.TheVariants as alphabet
use Rattle.asn_modules_grammar.specs.notation.Notation.{Base, Member, Notation, bit_string, choice, component, components_of, enumerated, group, instance_of, integer, leaf, marker, members, members_of, no_members, no_notations, notation, reference}
use Rattle.asn_modules_grammar.specs.declared.notation.leaf.Leaf.TheVariants.{Boolean, Null, OctetString, Text}
use Rattle.asn_modules_grammar.specs.declared.notation.notation.Presence.TheVariants.{Default, Optional, Required}
use Rattle.asn_modules_grammar.specs.declared.notation.number.Constant.TheVariants as constant
use Rattle.asn_modules_grammar.specs.declared.notation.size.Size.{Size}
use Rattle.asn_modules_grammar.specs.declared.notation.value.Value.{Value}
use Rattle.asn_modules_grammar.specs.declared.notation.value.Value.TheVariants as value
use Rattle.asn_modules_types.specs.Leaves.{integer_shape}
use Rattle.asn_modules_types.specs.Linked.{no_roots}
use Rattle.asn_modules_types.specs.Lists.{added_of, root_of}
use Rattle.asn_modules_types.specs.Scopes.{Scope}
use Rattle.asn_modules_types.specs.Templates.{Bindings, bound_find}
use Rattle.asn_modules_types.specs.Types.{Roots, notation_shape}

-- The text of these examples, in which each token is one character.
abbrev letters : List ℕ
letters = codes "abcdefgh0123456789"

-- The number at place 11, which is 3.
abbrev number_three : Value
number_three = value.Number (record { negative = false; digits = record { kind = kind.Number; start = 11; end = 12 } })

-- A module of this text, where names of types stand for the type of number 7, which is copied as an ENUMERATED of b and c, words for the number 5, and each value leads to that number.
abbrev example : Bool → Scope
example extensible = record {
  text = letters;
  extensible = extensible;
  type_named = λ home name. Shape.back 7;
  copied = λ n. Shape.enum (codes "b" ∷ codes "c" ∷ []) None;
  number_named = λ home name word. Some (Some (pos 5));
  values = λ numeric v. (letters, v) ∷ (letters, number_three) ∷ [];
}

-- One of the text `a"en"a"a""a"`.
abbrev strings : List ℕ
strings = codes "a" ++ 34 ∷ codes "en" ++ 34 ∷ codes "a" ++ 34 ∷ codes "a" ++ 34 ∷ 34 ∷ codes "a" ++ 34 ∷ []

abbrev quoting : Scope
quoting = record {
  text = strings;
  extensible = false;
  type_named = λ home name. Shape.back 7;
  copied = λ n. Shape.back n;
  number_named = λ home name word. None;
  values = λ numeric v. (strings, v) ∷ [];
}

-- The token of the kind at the place.
abbrev at : Kind → ℕ → Token
at k n = record { kind = k; start = n; end = suc n }

abbrev word : ℕ → Token
word n = at (kind.Name Small) n

-- A type without tags and constraints.
abbrev plain : Base → Notation
plain b = notation [] b []

-- Entries before the first marker and after the second one are the root.
roots : root_of {A = ℕ} (Some 1 ∷ Some 2 ∷ None ∷ Some 3 ∷ None ∷ Some 4 ∷ []) ≡ 1 ∷ 2 ∷ 4 ∷ []
roots = refl

additions : added_of {A = ℕ} (Some 1 ∷ Some 2 ∷ None ∷ Some 3 ∷ None ∷ Some 4 ∷ []) ≡ Some (3 ∷ [])
additions = refl

-- BIT STRING (SIZE (8)) has that size, and BIT STRING (SIZE (a..3)) that of the value of a.
eight : notation_shape no_roots (example false) (notation [] (bit_string []) (record { low = at kind.Number 16; high = at kind.Number 16 } ∷ [])) ≡ Shape.bits (Some 8)
eight = refl

three : notation_shape no_roots (example false) (notation [] (bit_string []) (record { low = word 0; high = at kind.Number 11 } ∷ [])) ≡ Shape.bits (Some 3)
three = refl

-- BIT STRING (SIZE (3..8)) has none, and around BIT STRING (SIZE (3)) it changes none.
many : notation_shape no_roots (example false) (notation [] (bit_string []) (record { low = at kind.Number 11; high = at kind.Number 16 } ∷ [])) ≡ Shape.bits None
many = refl

within : notation_shape no_roots (example false) (notation [] (bit_string []) (record { low = at kind.Number 11; high = at kind.Number 11 } ∷ record { low = at kind.Number 11; high = at kind.Number 16 } ∷ [])) ≡ Shape.bits (Some 3)
within = refl

-- BIT STRING (SIZE (c)) and BIT STRING (SIZE (c)) (SIZE (c)) have no values where c leads to no number, and OCTET STRING (SIZE (c)) has them.
abbrev by_unknown : Size
by_unknown = record { low = word 2; high = word 2 }

unknown_end : notation_shape no_roots quoting (notation [] (bit_string []) (by_unknown ∷ [])) ≡ no_values
unknown_end = refl

unknown_within : notation_shape no_roots quoting (notation [] (bit_string []) (by_unknown ∷ by_unknown ∷ [])) ≡ no_values
unknown_within = refl

unknown_octets : notation_shape no_roots quoting (notation [] (leaf OctetString) (by_unknown ∷ [])) ≡ Shape.octets
unknown_octets = refl

-- SEQUENCE { ..., a BOOLEAN } may lack it, since a sender of an older version does.
older : notation_shape no_roots (example false) (plain (members SeqKind.sequence (members_of (marker ∷ component (word 0) (plain (leaf Boolean)) Required ∷ []))))
    ≡ Shape.seq SeqKind.sequence Fields.no_fields (FieldAdditions.extended_fields (Fields.field (codes "a") (context_tag 0) Presence.optional Shape.boolean Fields.no_fields))
older = refl

-- SEQUENCE { a BOOLEAN, ..., [[ b NULL ]], ..., c T OPTIONAL }
abbrev both_markers : List Member
both_markers = component (word 0) (plain (leaf Boolean)) Required ∷ marker ∷ group (members_of (component (word 1) (plain (leaf Null)) Required ∷ [])) ∷ marker ∷ component (word 2) (plain (reference None (word 7))) Optional ∷ []

sequence : notation_shape no_roots (example false) (plain (members SeqKind.sequence (members_of both_markers)))
    ≡ Shape.seq SeqKind.sequence
    (Fields.field (codes "a") (context_tag 0) Presence.required Shape.boolean (Fields.field (codes "c") (context_tag 1) Presence.optional (Shape.back 7) Fields.no_fields))
    (FieldAdditions.extended_fields (Fields.field (codes "b") (context_tag 2) Presence.optional Shape.null Fields.no_fields))
sequence = refl

-- CHOICE { a BOOLEAN } where EXTENSIBILITY IMPLIED stands.
extended : notation_shape no_roots (example true) (plain (choice (members_of (component (word 0) (plain (leaf Boolean)) Required ∷ []))))
    ≡ Shape.choice (Alternatives.alternative (codes "a") (context_tag 0) Shape.boolean Alternatives.no_alternatives) (AlternativeAdditions.extended_alternatives Alternatives.no_alternatives)
extended = refl

-- SEQUENCE { a INTEGER { b (4) } DEFAULT b } and SEQUENCE { a INTEGER DEFAULT c }, where c is the number 3.
abbrev defaulted : Base → Value → Notation
defaulted b v = plain (members SeqKind.sequence (members_of (component (word 0) (plain b) (Default v) ∷ [])))

abbrev by_default : Plain → Shape → Shape
by_default p s = Shape.seq SeqKind.sequence (Fields.field (codes "a") (context_tag 0) (Presence.default p) s Fields.no_fields) FieldAdditions.closed_fields

named : notation_shape no_roots (example false) (defaulted (integer (record { name = word 1; number = constant.Number (record { negative = false; digits = at kind.Number 12 }) } ∷ [])) (value.Word (word 1))) ≡ by_default (Plain.int (pos 4)) integer_shape
named = refl

assigned : notation_shape no_roots (example false) (defaulted (integer []) (value.Word (word 2))) ≡ by_default (Plain.int (pos 3)) integer_shape
assigned = refl

-- ENUMERATED { b, c, ... } with DEFAULT c
item : notation_shape no_roots (example false) (defaulted (enumerated (Some (record { name = word 1; number = None }) ∷ Some (record { name = word 2; number = None }) ∷ None ∷ [])) (value.Word (word 2)))
    ≡ by_default (Plain.item (codes "c")) (Shape.enum (codes "b" ∷ codes "c" ∷ []) (Some []))
item = refl

-- A type that is named, with DEFAULT c, is a copy; a component without DEFAULT is its number, as above.
item_by_name : notation_shape no_roots (example false) (defaulted (reference None (word 7)) (value.Word (word 2))) ≡ by_default (Plain.item (codes "c")) (Shape.enum (codes "b" ∷ codes "c" ∷ []) None)
item_by_name = refl

-- Where it isn't copied, its DEFAULT isn't understood.
item_unknown : notation_shape no_roots quoting (defaulted (reference None (word 7)) (value.Word (word 2))) ≡ no_values
item_unknown = refl

-- IA5String DEFAULT "en", and DEFAULT "a""a", which isn't understood.
abbrev quoted : ℕ → ℕ → Value
quoted first past = value.Cstring (record { kind = kind.Cstring; start = first; end = past })

string : notation_shape no_roots quoting (defaulted (leaf (Text alphabet.Ia5)) (quoted 1 5)) ≡ by_default (Plain.text (codes "en")) (Shape.text Alphabet.ia5)
unfolding is_utf8 chars lib.Utf8.encode
string = refl

doubled : notation_shape no_roots quoting (defaulted (leaf (Text alphabet.Ia5)) (quoted 6 12)) ≡ no_values
doubled = refl

-- A DEFAULT that isn't understood leaves no values.
unsuited : notation_shape no_roots (example false) (defaulted (leaf Null) (value.Word (word 2))) ≡ no_values
unsuited = refl

-- SET { COMPONENTS OF T, a BOOLEAN }, where T has a component h.
abbrev one_root : Roots
one_root = record {
  components = λ place home name. Some (record { name = codes "h"; presence = if place.grouped then Presence.optional else Presence.required; shape = Shape.null } ∷ []);
  instance = λ home name ns. Shape.boolean;
}

abbrev named_root : Member
named_root = components_of (plain (reference None (word 7)))

included : notation_shape one_root (example false) (plain (members SeqKind.set (members_of (named_root ∷ component (word 0) (plain (leaf Boolean)) Required ∷ []))))
    ≡ Shape.seq SeqKind.set (Fields.field (codes "h") (context_tag 0) Presence.required Shape.null (Fields.field (codes "a") (context_tag 1) Presence.required Shape.boolean Fields.no_fields)) FieldAdditions.closed_fields
included = refl

-- SEQUENCE { COMPONENTS OF SEQUENCE { a BOOLEAN, ..., [[ b NULL ]], ..., c T OPTIONAL } } has the root of that alone.
written : notation_shape no_roots (example false) (plain (members SeqKind.sequence (members_of (components_of (plain (members SeqKind.sequence (members_of both_markers))) ∷ []))))
    ≡ Shape.seq SeqKind.sequence (Fields.field (codes "a") (context_tag 0) Presence.required Shape.boolean (Fields.field (codes "c") (context_tag 1) Presence.optional (Shape.back 7) Fields.no_fields)) FieldAdditions.closed_fields
written = refl

-- SEQUENCE { ..., [[ COMPONENTS OF T ]] }
between : notation_shape one_root (example false) (plain (members SeqKind.sequence (members_of (marker ∷ group (members_of (named_root ∷ [])) ∷ []))))
    ≡ Shape.seq SeqKind.sequence Fields.no_fields (FieldAdditions.extended_fields (Fields.field (codes "h") (context_tag 0) Presence.optional Shape.null Fields.no_fields))
between = refl

-- COMPONENTS OF a SET in a SEQUENCE, or of a SEQUENCE in a SET, or of what is neither, leaves no values.
other_kind : notation_shape no_roots (example false) (plain (members SeqKind.sequence (members_of (components_of (plain (members SeqKind.set no_members)) ∷ [])))) ≡ no_values
other_kind = refl

another_kind : notation_shape no_roots (example false) (plain (members SeqKind.set (members_of (components_of (plain (members SeqKind.sequence no_members)) ∷ [])))) ≡ no_values
another_kind = refl

no_kind : notation_shape one_root (example false) (plain (members SeqKind.set (members_of (components_of (plain (leaf Null)) ∷ [])))) ≡ no_values
no_kind = refl

unnamed : notation_shape no_roots (example false) (plain (members SeqKind.set (members_of (named_root ∷ [])))) ≡ no_values
unnamed = refl

-- SEQUENCE { a T {U} OPTIONAL }, where T {U} is BOOLEAN.
instance : notation_shape one_root (example false) (plain (members SeqKind.sequence (members_of (component (word 0) (plain (instance_of None (word 7) no_notations)) Optional ∷ []))))
    ≡ Shape.seq SeqKind.sequence (Fields.field (codes "a") (context_tag 0) Presence.optional Shape.boolean Fields.no_fields) FieldAdditions.closed_fields
instance = refl

-- In the text, c is a parameter with type 7 in its place, and d is none; names stand for type 2 elsewhere.
abbrev one_bound : Bindings
one_bound = (word 2, Some 7) ∷ []

parameter : bound_find letters one_bound (λ home name. Some 2) None (word 2) ≡ Some 7
parameter = refl

no_parameter : bound_find letters one_bound (λ home name. Some 2) None (word 3) ≡ Some 2
no_parameter = refl

-- One without a known type in its place stands for none, even where its name is that of a type.
no_type : bound_find letters ((word 2, None) ∷ []) (λ home name. Some 2) None (word 2) ≡ None
no_type = refl

-- After the name of a module stands no parameter.
behind_module : bound_find letters one_bound (λ home name. Some 2) (Some (word 0)) (word 2) ≡ Some 2
behind_module = refl
