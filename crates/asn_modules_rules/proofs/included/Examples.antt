-- What COMPONENTS OF includes by example, each computed from its notation.
use Rattle.std.proofs.Common.{◌≡◌, ℕ, suc, ◌+◌, ◌*◌, List, [], ◌∷◌, map, codes, nat_lt, if◌then◌else◌, true, Option, Some, None, refl}
use Rattle.asn_lexer.specs.declared.kind.Initial.{Initial}
use Rattle.asn_lexer.specs.declared.kind.Initial.TheVariants.{Capital, Small}
use Rattle.asn_lexer.specs.declared.kind.Kind.TheVariants as kind
use Rattle.asn_lexer.specs.declared.token.Token.{Token}
use Rattle.asn_model.specs.Shape.{SeqKind}
use Rattle.asn_modules_errors.specs.declared.cause.NameRule.TheVariants.{TooLarge}
use Rattle.asn_modules_rules.specs.included.Behind.{behind}
use Rattle.asn_modules_rules.specs.included.Extents.{Extent, Inclusions, included_extent, left_behind, member_extent, nothing, type_extent}
use Rattle.asn_modules_rules.specs.included.TooLarge.{counted_of, first_too_large, included, too_large_from}
use Rattle.asn_modules_rules.specs.included.Types.{AssignedType, stands_for, types_of}
use Rattle.asn_modules_rules.specs.declared.included.names.TypeName.{TypeName}
use Rattle.asn_modules_names.specs.lookup.Homes.{homes}
use Rattle.asn_modules_names.specs.Faults.{fault_of}
use Rattle.asn_modules_names.specs.Mentions.{Source}
use Rattle.asn_modules_grammar.specs.notation.Modules.{Assignment, type_assignment}
use Rattle.asn_modules_grammar.specs.notation.Notation.{Base, Member, Notation, bit_string, choice, component, components_of, enumerated, group, integer, leaf, list_of, marker, members, members_of, notation, reference}
use Rattle.asn_modules_grammar.specs.declared.notation.leaf.Leaf.TheVariants.{Boolean, Null}
use Rattle.asn_modules_grammar.specs.declared.notation.notation.Presence.TheVariants.{Default, Required}
use Rattle.asn_modules_grammar.specs.declared.notation.number.Constant.TheVariants as constant
use Rattle.asn_modules_grammar.specs.declared.notation.number.Item.{Item}
use Rattle.asn_modules_grammar.specs.declared.notation.number.NamedNumber.{NamedNumber}
use Rattle.asn_modules_grammar.specs.declared.notation.value.Value.TheVariants as value

-- The text of these examples, in which each token is one character.
abbrev letters : List ℕ
letters = codes "ABCDabcd"

-- The first four are capital letters.
abbrev initial_at : ℕ → Initial
initial_at n = if nat_lt n 4 then Capital else Small

abbrev word : ℕ → Token
word n = record { kind = kind.Name (initial_at n); start = n; end = suc n }

-- A type without tags and constraints, and a name.
abbrev plain : Base → Notation
plain b = notation [] b []

abbrev named : ℕ → Notation
named n = plain (reference None (word n))

abbrev sequence : List Member → Notation
sequence ms = plain (members SeqKind.sequence (members_of ms))

abbrev part : ℕ → Notation → Member
part n t = component (word n) t Required

abbrev null : Notation
null = plain (leaf Null)

abbrev extent : ℕ → ℕ → Extent
extent size levels = record { size = size; levels = levels }

-- Names include a thousand bytes on seven levels.
abbrev thousand : Inclusions
thousand home name = extent 1000 7

-- SEQUENCE { a BOOLEAN, ..., [[ b NULL ]], ..., c SEQUENCE OF NULL } is five types with three names of a byte, and its root with it is four with two.
abbrev both_markers : Notation
both_markers = sequence (part 4 (plain (leaf Boolean)) ∷ marker ∷ group (members_of (part 5 null ∷ [])) ∷ marker ∷ part 6 (plain (list_of SeqKind.sequence null)) ∷ [])

five : type_extent thousand both_markers ≡ extent (5 * 64 + 3) 3
five = refl

four : included_extent thousand both_markers ≡ extent (4 * 64 + 2) 3
four = refl

-- SEQUENCE { a NULL, ..., c SEQUENCE OF NULL } has no root after its only marker.
one_marker : included_extent thousand (sequence (part 4 null ∷ marker ∷ part 6 (plain (list_of SeqKind.sequence null)) ∷ [])) ≡ extent (2 * 64 + 1) 2
one_marker = refl

-- A name is one type where it stands for a component, and with what it includes after COMPONENTS OF.
component_named : type_extent thousand (sequence (part 4 (named 1) ∷ [])) ≡ extent (2 * 64 + 2) 2
component_named = refl

components_named : type_extent thousand (sequence (components_of (named 1) ∷ part 4 null ∷ [])) ≡ extent (3 * 64 + 2 + 1000) 9
components_named = refl

-- COMPONENTS OF a CHOICE includes nothing.
chosen : included_extent thousand (plain (choice (members_of (part 4 null ∷ [])))) ≡ extent 64 1
chosen = refl

-- ENUMERATED { a, b, ..., c } has three items and INTEGER { a(-5) } a number, of 64 bytes each with their names.
abbrev item : ℕ → Option Item
item n = Some (record { name = word n; number = None })

enumerated_sized : type_extent thousand (plain (enumerated (item 4 ∷ item 5 ∷ None ∷ item 6 ∷ []))) ≡ extent (64 + 3 * 65) 1
enumerated_sized = refl

abbrev five_less : NamedNumber
five_less = record { name = word 4; number = constant.Number (record { negative = true; digits = word 5 }) }

integer_sized : type_extent thousand (plain (integer (five_less ∷ []))) ≡ extent (64 + 65) 1
integer_sized = refl

bits_unsized : type_extent thousand (plain (bit_string (five_less ∷ []))) ≡ extent 64 1
bits_unsized = refl

-- NULL (SIZE (1..2)) has a size with two ends, and a b.c DEFAULT d four names.
sized : type_extent thousand (notation [] (leaf Null) (record { low = word 4; high = word 5 } ∷ [])) ≡ extent (64 + 64 + 2) 1
sized = refl

four_names : member_extent thousand (component (word 4) (plain (reference (Some (word 5)) (word 6))) (Default (value.Word (word 7)))) ≡ extent (64 + 4) 1
four_names = refl

-- A name may be long.
long_named : member_extent thousand (component (record { kind = kind.Name Small; start = 100; end = 900 }) null Required) ≡ extent (800 + 64) 1
long_named = refl

-- Four bytes on three levels leave none of four, and are too many for three, or too deep for two levels.
exact : left_behind (extent 4 3) 4 3 ≡ Some 0
exact = refl

many : left_behind (extent 4 3) 3 3 ≡ None
many = refl

deep : left_behind (extent 4 3) 4 2 ≡ None
deep = refl

-- CHOICE { a SEQUENCE { ..., COMPONENTS OF B }, b SEQUENCE OF SEQUENCE { COMPONENTS OF SEQUENCE { COMPONENTS OF C }, c D } } has these names.
abbrev name : ℕ → TypeName
name n = record { home = None; name = word n }

within : behind (plain (choice (members_of (part 4 (sequence (marker ∷ components_of (named 1) ∷ [])) ∷ part 5 (plain (list_of SeqKind.sequence (sequence (components_of (sequence (components_of (named 2) ∷ [])) ∷ part 6 (named 3) ∷ [])))) ∷ []))))
    ≡ name 1 ∷ name 2 ∷ []
within = refl

-- A ::= SEQUENCE { COMPONENTS OF B }, B ::= C, C ::= SEQUENCE { a NULL, COMPONENTS OF D } and D ::= A
abbrev assigned : List Assignment
assigned =
    type_assignment (word 0) (sequence (components_of (named 1) ∷ [])) ∷ type_assignment (word 1) (named 2) ∷ type_assignment (word 2) (sequence (part 4 null ∷ components_of (named 3) ∷ [])) ∷ type_assignment (word 3) (named 0) ∷ []

abbrev source : Source
source = record { file = codes "f"; text = letters; modules = record { header = None; assignments = assigned } ∷ [] }

abbrev texts : List Source
texts = source ∷ []

abbrev types : List AssignedType
types = types_of texts 0 (homes texts)

-- C is B, and A is D, so A's name after COMPONENTS OF stands in A and in D, and C's in C and in B.
places : map (λ x. x.name) (counted_of types types) ≡ name 1 ∷ name 3 ∷ name 3 ∷ name 1 ∷ []
unfolding stands_for
places = refl

-- Past no names, B includes nothing; past one itself, and past two the root of C.
past_none : included texts types 0 1 ≡ nothing
unfolding included
past_none = refl

past_one : included texts types 1 1 ≡ extent (64 + 1) 1
unfolding included
past_one = refl

past_two : included texts types 2 1 ≡ extent (4 * 64 + 3) 3
unfolding included
past_two = refl

-- A ::= SEQUENCE { COMPONENTS OF B } and B ::= SEQUENCE { a NULL }: the name comes to three types with two names of a byte, on three levels.
abbrev two_types : List Assignment
two_types = type_assignment (word 0) (sequence (components_of (named 1) ∷ [])) ∷ type_assignment (word 1) (sequence (part 4 null ∷ [])) ∷ []

abbrev short : List Source
short = record { file = codes "f"; text = letters; modules = record { header = None; assignments = two_types } ∷ [] } ∷ []

abbrev both : List AssignedType
both = types_of short 0 (homes short)

fits : too_large_from short both 194 (counted_of both both) ≡ None
unfolding included stands_for
fits = refl

-- It is too large where a byte less is left, and is reported where it stands after COMPONENTS OF.
told : too_large_from short both 193 (counted_of both both) ≡ Some (fault_of TooLarge (record { file = codes "f"; text = letters; token = word 1 }))
unfolding included stands_for
told = refl

none_told : first_too_large short ≡ None
unfolding included stands_for
none_told = refl
