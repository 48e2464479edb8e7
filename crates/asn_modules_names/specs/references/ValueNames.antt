-- The names of values that values are.
use Rattle.std.specs.Prelude.{List, [], ◌∷◌, Bool, true, false, if◌then◌else◌, Option, Some, None}
use Rattle.asn_lexer.specs.declared.kind.Kind.{Kind}
use Rattle.asn_lexer.specs.declared.kind.Kind.TheVariants as kind
use Rattle.asn_lexer.specs.declared.token.Token.{Token}
use Rattle.asn_modules_grammar.specs.notation.Modules.{Assignment, type_assignment, value_assignment, template_assignment}
use Rattle.asn_modules_grammar.specs.notation.Notation.{Notation, Base, notation, leaf, integer, enumerated, reference, instance_of}
use Rattle.asn_modules_grammar.specs.declared.notation.leaf.Leaf.{Leaf}
use Rattle.asn_modules_grammar.specs.declared.notation.leaf.Leaf.TheVariants.{Boolean, Closed}
use Rattle.asn_modules_grammar.specs.declared.notation.number.NamedNumber.{NamedNumber}
use Rattle.asn_modules_grammar.specs.declared.notation.value.Value.{Value}
use Rattle.asn_modules_grammar.specs.declared.notation.value.Value.TheVariants as value

abbrev pub has_named : List NamedNumber → Bool
has_named [] = false
has_named (n ∷ ns) = true

-- Values of BOOLEAN have names, and values of types that aren't read may.
abbrev pub leaf_names : Leaf → Bool
leaf_names Boolean = true
leaf_names (Closed c) = true
leaf_names l = false

-- The type may give names to values: it has named numbers or items, its values have names, or it is
-- a name itself.
abbrev pub base_names : Base → Bool
base_names (leaf l) = leaf_names l
base_names (integer ns) = has_named ns
base_names (enumerated items) = true
base_names (reference home name) = true
base_names (instance_of home name ns) = true
base_names base = false

abbrev pub names_values : Notation → Bool
names_values (notation tags base sizes) = base_names base

-- The token, where it is a name: NULL is none.
abbrev pub if_name : Kind → Token → Option Token
if_name (kind.Name initial) t = Some t
if_name k t = None

-- The name that the value is.
abbrev pub name_in : Value → Option Token
name_in (value.Word t) = if_name t.kind t
name_in v = None

-- The name of a value that is assigned as a value, where it is the name of nothing else.
abbrev pub value_name : Assignment → Option Token
value_name (type_assignment name n) = None
value_name (template_assignment name ps n) = None
value_name (value_assignment name n v) = if names_values n then None else name_in v
