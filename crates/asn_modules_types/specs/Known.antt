-- What contracts see of types and values and of where they stand.
use Rattle.std.specs.Prelude.{◌≡◌, ◌<◌, ℕ, List, [], length, map, string_bytes, Bool, true, false, Option, Some, None}
use Rattle.std.specs.Global.{Vec}
use Rattle.std.specs.Option.{option_map}
use Rattle.asn_lexer.specs.declared.token.Token.{Token}
use Rattle.asn_linked_types.specs.declared.limits.TheConstants.{TYPE_LIMIT}
use Rattle.asn_model.specs.ShapeView.{kind_view, presence_view, shape_view}
use Rattle.asn_modules_names.specs.lookup.Homes.{Home, home_view}
use Rattle.asn_modules_names.specs.lookup.Indexes.{IsIndexOf}
use Rattle.asn_modules_names.specs.declared.lookup.sort.Sort.TheVariants.{Templates, Types, Values}
use Rattle.asn_modules_types.specs.named_numbers.Numbers.{AreNumbersOf}
use Rattle.asn_modules_names.specs.Mentions.{Source, source_view}
use Rattle.asn_modules_grammar.specs.notation.Notation as notation
use Rattle.asn_modules_grammar.specs.notation.Notation.{members_of}
use Rattle.asn_modules_grammar.specs.notation.View.{assignment_view}
use Rattle.asn_modules_grammar.specs.declared.notation.notation.Extension.{Extension, out-Extension}
use Rattle.asn_modules_grammar.specs.declared.notation.notation.Member.{Member}
use Rattle.asn_modules_types.specs.Assigned as spec
use Rattle.asn_modules_types.specs.Linked.{named_type, no_roots, number_word, roots_of, scope_in}
use Rattle.asn_modules_types.specs.Lists.{all_known, front}
use Rattle.asn_modules_types.specs.Scopes as scopes
use Rattle.asn_modules_types.specs.Templates.{Bindings, Finder, bound_find}
use Rattle.asn_modules_types.specs.Types as types
use Rattle.asn_modules_types.specs.Values as values
use Rattle.asn_modules_types.specs.Values.{found_in}
use Rattle.asn_modules_types.specs.declared.assigned.Assigned.{Assigned}
use Rattle.asn_modules_types.specs.declared.names.Names.{Names}
use Rattle.asn_modules_types.specs.declared.parts.Lists.{Lists}
use Rattle.asn_modules_types.specs.declared.parts.Part.{Part}
use Rattle.asn_modules_types.specs.declared.parts.Place.{Place}
use Rattle.asn_modules_types.specs.declared.scope.Binding.{Binding}
use Rattle.asn_modules_types.specs.declared.scope.Scope.{Scope}
use Rattle.asn_modules_types.specs.declared.values.StatedValue.{StatedValue}

abbrev pub assigned_view : Assigned → spec.Assigned
assigned_view a =
    record { number = a.number; home = home_view a.home; assignment = assignment_view a.assignment.now }

abbrev pub stated_view : StatedValue → values.StatedValue
stated_view v = record { number = v.number; home = home_view v.home; value = v.value }

-- The texts that the names stand in.
abbrev pub sources_of : Names → List Source
sources_of names = map source_view names.sources.now

-- The tables are those of the texts, and so are the types and values, and the named numbers are
-- those of the types; there are fewer types than the limit.
pub record KnowsNames (names : Names) : Type 0 where
  pub type_index : IsIndexOf Types (sources_of names) names.type_index.now
  pub value_index : IsIndexOf Values (sources_of names) names.value_index.now
  pub types : map assigned_view names.types.now ≡ spec.assigned Types (sources_of names)
  pub values : map assigned_view names.values.now ≡ spec.assigned Values (sources_of names)
  pub template_index : IsIndexOf Templates (sources_of names) names.template_index.now
  pub templates : map assigned_view names.templates.now ≡ spec.assigned Templates (sources_of names)
  pub numbers : AreNumbersOf
      (map spec.stated_type (spec.assigned Types (sources_of names))) names.numbers.now
  pub few : length names.types.now < TYPE_LIMIT

abbrev pub binding_view : Binding → Token × Option ℕ
binding_view b = (b.name, b.number)

-- The number of the type that a name stands for in the module of number k: within a type with
-- parameters, these have those in their places.
abbrev pub finder : List Source → ℕ → Home → Bool → Bindings → Finder
finder ss k h false bs = found_in Types ss k h
finder ss k h true bs = bound_find h.source.text bs (found_in Types ss k h)

-- Where a type stands, with names of types followed past at most this number of others.
abbrev pub scope_view : ℕ → Scope → scopes.Scope
scope_view limit s =
    scope_in (sources_of s.names.now) s.number (home_view s.home)
    (finder (sources_of s.names.now) s.number (home_view s.home) s.within (map binding_view s.bindings.now))
    (named_type (sources_of s.names.now) limit) (number_word (sources_of s.names.now) limit)

-- What is known of types that stand in others in the module of number k, within a type with
-- parameters or outside.
abbrev pub roots_where : List Source → ℕ → ℕ → Home → Bool → types.Roots
roots_where ss limit k h false = roots_of ss limit k h
roots_where ss limit k h true = no_roots

-- The number of the type of a name after COMPONENTS OF there, if it is understood.
abbrev pub included_number : List Source → ℕ → Home → Bool → Option Token → Token → Option ℕ
included_number ss k h false home name = found_in Types ss k h home name
included_number ss k h true home name = None

-- What is known of types that stand in others there, past at most so many names.
abbrev pub roots_view : ℕ → Scope → types.Roots
roots_view limit s = roots_where (sources_of s.names.now) limit s.number (home_view s.home) s.within

abbrev pub place_view : Place → types.Place
place_view p = record { kind = kind_view p.kind; grouped = p.grouped }

abbrev pub part_view : Part → types.Part
part_view p =
    record { name = string_bytes p.name; presence = presence_view p.presence; shape = shape_view p.shape }

abbrev pub parts_view : Vec Part → List types.Part
parts_view ps = map part_view ps.items

-- The root, and the extension additions if there is a marker.
abbrev pub lists_view : Lists → List types.Part × Option (List types.Part)
lists_view l = (parts_view l.root, option_map parts_view l.added)

-- What entries without a marker among them are, if each of their parts is understood.
abbrev pub known_parts : types.Roots → scopes.Scope → types.Place → List notation.Member
    → Option (List types.Part)
known_parts roots s place ms = all_known (front (types.parts roots s place (members_of ms)))

abbrev pub items_of : Option (Vec Member) → List Member
items_of None = []
items_of (Some ms) = ms.items

-- The entries after the second extension marker, if there is one.
abbrev pub tail_of : Option Extension → List Member
tail_of None = []
tail_of (Some e) = items_of (out-Extension e).tail
