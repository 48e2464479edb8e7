-- What the words that begin a type stand for.
use Rattle.std.specs.Prelude.{List, [], ◌∷◌, drop, Bool, true, false, not, ◌&&◌, ◌||◌, if◌then◌else◌, Option, Some, None}
use Rattle.std.specs.Option.{option_map, option_and_then}
use Rattle.asn_lexer.specs.declared.keyword.Keyword.{Keyword}
use Rattle.asn_lexer.specs.declared.keyword.Keyword.TheVariants as keyword
use Rattle.asn_lexer.specs.declared.kind.Kind.{Kind}
use Rattle.asn_lexer.specs.declared.kind.Kind.TheVariants as kind
use Rattle.asn_lexer.specs.declared.token.Token.{Token}
use Rattle.asn_modules_grammar.specs.headers.Fronts.{first_is, is_name}
use Rattle.asn_model.specs.Shape.{SeqKind}
use Rattle.asn_model.specs.declared.shape_type.Alphabet.TheVariants as alphabet
use Rattle.asn_modules_grammar.specs.notation.Classes.{begins_field, names_value, past_fields, past_class, past_instance}
use Rattle.asn_modules_grammar.specs.notation.Kinds.{past, name_at, is_small, is_by, is_defined, is_identifier, is_pdv, is_point, is_string}
use Rattle.asn_modules_grammar.specs.declared.notation.leaf.Closed.TheVariants as closed
use Rattle.asn_modules_grammar.specs.declared.notation.leaf.Leaf.{Leaf}
use Rattle.asn_modules_grammar.specs.declared.notation.leaf.Leaf.TheVariants.{Boolean, Null, OctetString, ObjectIdentifier, Text, Bmp, Teletex, UtcTime, GeneralizedTime, Date, Closed}

-- What the words that begin a type stand for.
pub data Start : Type 0 where
  leaf : Leaf → Start
  integer : Start
  bit_string : Start
  enumerated : Start
  -- SEQUENCE or SET.
  members : SeqKind → Start
  choice : Start
  -- The name of a type, after that of its module where it is stated.
  reference : Option Token → Token → Start

-- What a reserved word is, where a type may begin.
pub data Opening : Type 0 where
  -- It stands for this alone.
  whole : Start → Opening
  -- It stands for this with a word after it that passes.
  pair : (Kind → Bool) → Start → Opening
  -- It is ANY.
  any : Opening
  -- It is CLASS.
  class_body : Opening
  -- It is INSTANCE.
  instance_of : Opening
  -- It is the name of a class.
  named_class : Opening
  -- No type begins with it.
  nothing : Opening

-- What a reserved word is, where a type may begin.
abbrev pub opening_of : Keyword → Opening
opening_of keyword.Boolean = whole (leaf Boolean)
opening_of keyword.Null = whole (leaf Null)
opening_of keyword.Integer = whole integer
opening_of keyword.Octet = pair is_string (leaf OctetString)
opening_of keyword.Bit = pair is_string bit_string
opening_of keyword.Object = pair is_identifier (leaf ObjectIdentifier)
opening_of keyword.Enumerated = whole enumerated
opening_of keyword.Sequence = whole (members SeqKind.sequence)
opening_of keyword.Set = whole (members SeqKind.set)
opening_of keyword.Choice = whole choice
opening_of keyword.Any = any
opening_of keyword.Real = whole (leaf (Closed closed.Real))
opening_of keyword.External = whole (leaf (Closed closed.External))
opening_of keyword.Embedded = pair is_pdv (leaf (Closed closed.EmbeddedPdv))
opening_of keyword.Character = pair is_string (leaf (Closed closed.CharacterString))
opening_of keyword.RelativeOid = whole (leaf (Closed closed.RelativeOid))
opening_of keyword.ObjectDescriptor = whole (leaf (Closed closed.ObjectDescriptor))
opening_of keyword.Utf8String = whole (leaf (Text alphabet.Utf8))
opening_of keyword.NumericString = whole (leaf (Text alphabet.Numeric))
opening_of keyword.PrintableString = whole (leaf (Text alphabet.Printable))
opening_of keyword.VisibleString = whole (leaf (Text alphabet.Visible))
opening_of keyword.Iso646String = whole (leaf (Text alphabet.Visible))
opening_of keyword.Ia5String = whole (leaf (Text alphabet.Ia5))
opening_of keyword.UniversalString = whole (leaf (Text alphabet.Universal))
opening_of keyword.GeneralString = whole (leaf (Text alphabet.General))
opening_of keyword.GraphicString = whole (leaf (Text alphabet.Graphic))
opening_of keyword.BmpString = whole (leaf Bmp)
opening_of keyword.TeletexString = whole (leaf Teletex)
opening_of keyword.T61String = whole (leaf Teletex)
opening_of keyword.VideotexString = whole (leaf (Closed closed.Videotex))
opening_of keyword.UtcTime = whole (leaf UtcTime)
opening_of keyword.GeneralizedTime = whole (leaf GeneralizedTime)
opening_of keyword.Date = whole (leaf Date)
opening_of keyword.Time = whole (leaf (Closed closed.Time))
opening_of keyword.TimeOfDay = whole (leaf (Closed closed.TimeOfDay))
opening_of keyword.DateTime = whole (leaf (Closed closed.DateTime))
opening_of keyword.Duration = whole (leaf (Closed closed.Duration))
opening_of keyword.Class = class_body
opening_of keyword.Instance = instance_of
opening_of keyword.TypeIdentifier = named_class
opening_of keyword.AbstractSyntax = named_class
opening_of k = nothing

-- ANY after its word, and what follows it: DEFINED BY and a name may.
abbrev pub any_at : List Token → Option (Start × List Token)
any_at u =
    if first_is is_defined u
    then option_map (λ p. (leaf (Closed closed.Any), p.1))
    (option_and_then (λ v. name_at v) (past is_by (drop 1 u)))
    else Some (leaf (Closed closed.Any), u)

-- A type without parts, and what follows it.
abbrev pub leaf_at : Leaf → Option (List Token) → Option (Start × List Token)
leaf_at l = option_map (λ v. (leaf l, v))

-- A class that a reserved word names, or the type that its fields name, and what follows.
abbrev pub named_class_at : List Token → Option (Start × List Token)
named_class_at u =
    if begins_field u then leaf_at (Closed closed.ClassField) (past_fields u)
    else Some (leaf (Closed closed.ObjectClass), u)

-- What a reserved word begins, and what follows it.
abbrev pub opened_at : Opening → List Token → Option (Start × List Token)
opened_at (whole s) u = Some (s, u)
opened_at (pair p s) u = option_map (λ v. (s, v)) (past p u)
opened_at any u = any_at u
opened_at class_body u = leaf_at (Closed closed.ObjectClass) (past_class u)
opened_at instance_of u = leaf_at (Closed closed.InstanceOf) (past_instance u)
opened_at named_class u = named_class_at u
opened_at nothing u = None

-- The type of this name, or that which the fields of a class, an object or a set of them of this
-- name are, and what follows. The name of a type begins with a capital letter (X.680, section
-- 12.2).
abbrev pub named_at : Option Token → Token → List Token → Option (Start × List Token)
named_at home t u =
    if begins_field u then leaf_at (Closed closed.ClassField) (past_fields u)
    else if is_small t.kind then None else Some (reference home t, u)

-- A reference that the name begins, and what follows it. The name of a module begins with a capital
-- letter (X.680, section 12.5).
abbrev pub reference_at : Token → List Token → Option (Start × List Token)
reference_at t u =
    if is_small t.kind || begins_field u then named_at None t u
    else if first_is is_point u
    then option_and_then (λ p. named_at (Some t) p.0 p.1) (name_at (drop 1 u))
    else named_at None t u

-- What the first token begins, by its kind, and what follows it.
abbrev pub start_by : Kind → Token → List Token → Option (Start × List Token)
start_by (kind.Name initial) t u = reference_at t u
start_by (kind.Reserved k) t u = opened_at (opening_of k) u
start_by k t u = None

-- What begins a type, and what follows it.
abbrev pub start_at : List Token → Option (Start × List Token)
start_at [] = None
start_at (t ∷ u) = start_by t.kind t u

-- A type begins with a word that this is.
abbrev pub is_opening : Opening → Bool
is_opening nothing = false
is_opening o = true

-- A type begins with a token of the kind.
abbrev pub opens_type : Kind → Bool
opens_type (kind.Name initial) = true
opens_type kind.OpenBracket = true
opens_type (kind.Reserved k) = is_opening (opening_of k)
opens_type k = false

-- So after the name of a module.
abbrev pub names_module_value : List Token → Bool
names_module_value (m ∷ p ∷ u) = is_name m.kind && (is_point p.kind && names_value u)
names_module_value u = false

-- A type begins here.
abbrev pub begins_type : List Token → Bool
begins_type u = first_is opens_type u && not (names_value u || names_module_value u)
