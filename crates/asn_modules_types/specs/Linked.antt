-- The types that modules assign, each as one shape, in which `back` of a number means the type of
-- that number.
use Rattle.std.specs.Prelude.{ℕ, ℤ, zero, suc, nat_eq, nat_le, List, [], ◌∷◌, length, Bool, true, false, not, ◌&&◌, if◌then◌else◌, Option, Some, None}
use Rattle.std.specs.List.{slice_get}
use Rattle.std.specs.Option.{option_and_then}
use Rattle.asn_modules_grammar.specs.headers.Headers.{Header}
use Rattle.asn_linked_types.specs.Expansion.{no_values}
use Rattle.asn_model.specs.Readable.{is_readable_in}
use Rattle.asn_model.specs.Shape.{Shape}
use Rattle.asn_lexer.specs.declared.token.Token.{Token}
use Rattle.asn_modules_rules.specs.included.TooLarge.{is_small}
use Rattle.asn_modules_names.specs.lookup.Homes.{Home}
use Rattle.asn_modules_names.specs.declared.lookup.sort.Sort.TheVariants.{Templates, Types}
use Rattle.asn_modules_names.specs.Mentions.{Source}
use Rattle.asn_modules_grammar.specs.notation.Notation.{Base, Notation, Notations, choice, enumerated, instance_of, list_of, members, notation}
use Rattle.asn_modules_rules.specs.sizes.Sizes.{items_size}
use Rattle.asn_modules_types.specs.Assigned.{Assigned, assigned, notation_of, parameters_of}
use Rattle.asn_modules_types.specs.Leaves.{enumerated_shape}
use Rattle.asn_modules_types.specs.Scopes.{Scope}
use Rattle.asn_modules_types.specs.Templates.{Bindings, Finder, bindings, bound_find, is_named, listed}
use Rattle.asn_modules_types.specs.Types.{Part, Place, Roots, notation_roots, notation_shape, number_in_type}
use Rattle.asn_modules_types.specs.Values.{found_in, value_in, values_from}
use Rattle.asn_modules_types.specs.declared.limits.TheConstants.{DEFAULT_ITEMS_LIMIT, NAME_LIMIT}

-- EXTENSIBILITY IMPLIED stands in the header, if there is one.
abbrev pub is_extensible : Option Header → Bool
is_extensible None = false
is_extensible (Some h) = h.opening.extensible

-- The shape of the type of the number, if there is one.
abbrev pub shape_or : (ℕ → Shape) → Option ℕ → Shape
shape_or shapes None = no_values
shape_or shapes (Some n) = shapes n

abbrev pub base_of : Notation → Base
base_of (notation tags base sizes) = base

-- A copy of the type in its module, if it is an ENUMERATED whose items take few bytes; else its
-- number.
abbrev pub copied_base : ℕ → Home → Base → Shape
copied_base n h (enumerated items) =
    if nat_le (items_size items) DEFAULT_ITEMS_LIMIT
    then enumerated_shape h.source.text (is_extensible h.parsed.header) items else Shape.back n
copied_base n h base = Shape.back n

-- That of the type of number n, by its assignment.
abbrev pub copied_by : ℕ → Option Assigned → Shape
copied_by n None = Shape.back n
copied_by n (Some t) = copied_base n t.home (base_of (notation_of t.assignment))

abbrev pub copied_type : List Source → ℕ → Shape
copied_type ss n = copied_by n (slice_get (assigned Types ss) n)

-- The scope of a module in which names of types stand for these numbers, and types of these numbers
-- have these shapes and named numbers.
abbrev pub scope_in : List Source → ℕ → Home → Finder → (ℕ → Shape)
    → (ℕ → List ℕ → Option (Option ℤ)) → Scope
scope_in ss k h find shapes numbers = record {
  text = h.source.text;
  extensible = is_extensible h.parsed.header;
  type_named = λ home name. shape_or shapes (find home name);
  copied = copied_type ss;
  number_named = λ home name word. option_and_then (λ n. numbers n word) (find home name);
  values = λ numeric v. values_from ss numeric NAME_LIMIT (value_in k h v);
}

-- That of a module outside types with parameters.
abbrev pub plain_scope : List Source → ℕ → Home → (ℕ → Shape) → (ℕ → List ℕ → Option (Option ℤ))
    → Scope
plain_scope ss k h shapes numbers = scope_in ss k h (found_in Types ss k h) shapes numbers

-- The type has parts or items, and is named by its number.
abbrev pub is_numbered : Base → Bool
is_numbered (enumerated items) = true
is_numbered (members kind ms) = true
is_numbered (list_of kind n) = true
is_numbered (choice ms) = true
is_numbered (instance_of home name ns) = true
is_numbered b = false

-- Names that stand for no type.
abbrev pub no_roots : Roots
no_roots = record { components = λ place home name. None; instance = λ home name ns. no_values }

-- What the name of the type of number n stands for, by its assignment: the number, where it has
-- parts or items; else its shape, where names in it have these shapes and numbers.
abbrev pub named_by : List Source → (ℕ → Shape) → (ℕ → List ℕ → Option (Option ℤ)) → ℕ
    → Option Assigned → Shape
named_by ss shapes numbers n None = no_values
named_by ss shapes numbers n (Some t) =
    if is_numbered (base_of (notation_of t.assignment)) then Shape.back n
    else notation_shape no_roots (plain_scope ss t.number t.home shapes numbers)
    (notation_of t.assignment)

abbrev pub number_by : List Source → (ℕ → List ℕ → Option (Option ℤ)) → Option Assigned → List ℕ
    → Option (Option ℤ)
number_by ss numbers None word = None
number_by ss numbers (Some t) word =
    number_in_type (plain_scope ss t.number t.home (λ n. no_values) numbers)
    (notation_of t.assignment) word

-- The number that a word names in the type of number n, past at most so many names that stand for
-- it.
unfoldable pub number_word : List Source → ℕ → ℕ → List ℕ → Option (Option ℤ)
number_word ss zero n word = None
number_word ss (suc more) n word =
    number_by ss (number_word ss more) (slice_get (assigned Types ss) n) word

-- What the name of the type of number n stands for, past at most so many names that stand for it.
-- Names that stand for each other have no values.
unfoldable pub named_type : List Source → ℕ → ℕ → Shape
named_type ss zero n = no_values
named_type ss (suc more) n =
    named_by ss (named_type ss more) (number_word ss more) n (slice_get (assigned Types ss) n)

-- The scope of a module, where names of types are followed past at most this number of others.
abbrev pub scope_of : List Source → ℕ → ℕ → Home → Scope
scope_of ss limit k h = plain_scope ss k h (named_type ss limit) (number_word ss limit)

-- The scope of a type with parameters, which have these in their places.
abbrev pub template_scope : List Source → Assigned → Bindings → Scope
template_scope ss t bs =
    scope_in ss t.number t.home
    (bound_find t.home.source.text bs (found_in Types ss t.number t.home))
    (named_type ss NAME_LIMIT) (number_word ss NAME_LIMIT)

-- The type takes so many actual parameters: it has as many parameters, is no name, and counts as
-- little as an actual type may.
abbrev pub takes : List Source → ℕ → Assigned → Bool
takes ss count t =
    nat_eq (length (parameters_of t.assignment)) count
    && (not (is_named (notation_of t.assignment)) && is_small ss t.number t.home (notation_of t.assignment))

-- The shape of a type with parameters where these stand in their places, if it takes them. Neither
-- one with actual parameters nor COMPONENTS OF a name is understood in it.
abbrev pub instance_by : List Source → Finder → Notations → Option Assigned → Shape
instance_by ss find ns None = no_values
instance_by ss find ns (Some t) =
    if takes ss (length (listed ns)) t
    then notation_shape no_roots
    (template_scope ss t (bindings find (parameters_of t.assignment) (listed ns)))
    (notation_of t.assignment)
    else no_values

-- The type with parameters that a name stands for in the module of number k.
abbrev pub template_named : List Source → ℕ → Home → Option Token → Token → Option Assigned
template_named ss k h home name =
    option_and_then (slice_get (assigned Templates ss)) (found_in Templates ss k h home name)

-- The shapes of types with actual parameters there.
abbrev pub instance_in : List Source → ℕ → Home → Option Token → Token → Notations → Shape
instance_in ss k h home name ns =
    instance_by ss (found_in Types ss k h) ns (template_named ss k h home name)

-- What is known of types that stand in others there, where types of these numbers have these root
-- components.
abbrev pub roots_in : List Source → ℕ → Home → (ℕ → Place → Option (List Part)) → Roots
roots_in ss k h roots =
    record { components = λ place home name. option_and_then (λ n. roots n place) (found_in Types ss k h home name); instance = instance_in ss k h }

-- The root components of a type, by its assignment, where types of these numbers have these.
abbrev pub roots_by : List Source → (ℕ → Place → Option (List Part)) → Place → Option Assigned
    → Option (List Part)
roots_by ss roots place None = None
roots_by ss roots place (Some t) =
    notation_roots (roots_in ss t.number t.home roots)
    (scope_of ss NAME_LIMIT t.number t.home) place (notation_of t.assignment)

-- The root components of the type of number n, past at most so many names after COMPONENTS OF or
-- that stand for it. Names that stand for each other have none, and so has a type that includes its
-- own.
unfoldable pub type_roots : List Source → ℕ → ℕ → Place → Option (List Part)
type_roots ss zero n place = None
type_roots ss (suc more) n place =
    roots_by ss (type_roots ss more) place (slice_get (assigned Types ss) n)

-- What is known of the types that a module names, with root components past at most so many names.
abbrev pub roots_of : List Source → ℕ → ℕ → Home → Roots
roots_of ss limit k h = roots_in ss k h (type_roots ss limit)

-- The shape of a type that is named by its number, by its assignment.
abbrev pub numbered_shape : List Source → Option Assigned → Shape
numbered_shape ss None = no_values
numbered_shape ss (Some t) =
    notation_shape (roots_of ss NAME_LIMIT t.number t.home) (scope_of ss NAME_LIMIT t.number t.home)
    (notation_of t.assignment)

-- What a name stands for, opened: a number is the shape of the type of that number.
abbrev pub opened_type : List Source → Shape → Shape
opened_type ss (Shape.back n) = numbered_shape ss (slice_get (assigned Types ss) n)
opened_type ss s = s

-- The shape, if it can be read where so many types are named; else one without values.
abbrev pub readable_or_none : ℕ → Shape → Shape
readable_or_none count s = if is_readable_in count count s then s else no_values

-- The shape of the type of number n, of so many.
abbrev pub linked_type : List Source → ℕ → ℕ → Shape
linked_type ss count n = readable_or_none count (opened_type ss (named_type ss NAME_LIMIT n))

-- The shapes of types, from number n on, of so many.
abbrev pub linked_from : List Source → ℕ → ℕ → List Assigned → List Shape
linked_from ss count n [] = []
linked_from ss count n (t ∷ ts) = linked_type ss count n ∷ linked_from ss count (suc n) ts

-- The shapes of all types, each at the place of its number.
abbrev pub linked_types : List Source → List Shape
linked_types ss = linked_from ss (length (assigned Types ss)) 0 (assigned Types ss)
