-- What contracts see of types and modules.
use Rattle.std.specs.Prelude.{List, [], ◌∷◌, ◌++◌, map, Option, Some, None}
use Rattle.std.specs.Global.{Vec}
use Rattle.std.specs.Option.{option_map}
use Rattle.asn_modules_grammar.specs.headers.Views.{header_view}
use Rattle.asn_model.specs.Shape.{SeqKind}
use Rattle.asn_modules_grammar.specs.notation.Modules as modules
use Rattle.asn_modules_grammar.specs.notation.Notation as spec
use Rattle.asn_modules_grammar.specs.declared.notation.module.Assignment.{Assignment}
use Rattle.asn_modules_grammar.specs.declared.notation.module.Assignment.TheVariants as assignment
use Rattle.asn_modules_grammar.specs.declared.notation.module.Module.{Module}
use Rattle.asn_modules_grammar.specs.declared.notation.notation.Base.{Base}
use Rattle.asn_modules_grammar.specs.declared.notation.notation.Base.TheOpen.{Base-F, Component-F, Extension-F, Member-F, Members-F, Notation-F, Leaf, Integer, BitString, Enumerated, Sequence, Set, SequenceOf, SetOf, Choice, Reference, Instance, One, Group, Named, ComponentsOf}
use Rattle.asn_modules_grammar.specs.declared.notation.notation.Base.TheFolds.{fold-Base, fold-Component, fold-Member, fold-Members, fold-Notation}
use Rattle.asn_modules_grammar.specs.declared.notation.notation.Component.{Component}
use Rattle.asn_modules_grammar.specs.declared.notation.notation.Member.{Member}
use Rattle.asn_modules_grammar.specs.declared.notation.notation.Members.{Members}
use Rattle.asn_modules_grammar.specs.declared.notation.notation.Notation.{Notation}
use Rattle.asn_modules_grammar.specs.declared.notation.number.Item.{Item}

-- The items of an ENUMERATED, of which `None` is the extension marker.
abbrev pub items_view : Vec Item → Option (Vec Item) → List (Option Item)
items_view items None = map (λ i. Some i) items.items
items_view items (Some added) =
    map (λ i. Some i) items.items ++ None ∷ map (λ i. Some i) added.items

-- Entries after the second extension marker, with it.
abbrev pub tail_view : Option (Vec spec.Member) → List spec.Member
tail_view None = []
tail_view (Some tail) = spec.marker ∷ tail.items

-- Entries after the first extension marker, with it.
abbrev pub behind_root : Option (List spec.Member) → List spec.Member
behind_root None = []
behind_root (Some ms) = spec.marker ∷ ms

-- One level of each type, with the views of its parts in their places.
abbrev pub base_step : {C M E : Type 0} → Base-F spec.Base C M E (List spec.Member) spec.Notation
    → spec.Base
base_step (Leaf l) = spec.leaf l
base_step (Integer ns) = spec.integer ns.items
base_step (BitString ns) = spec.bit_string ns.items
base_step (Enumerated items added) = spec.enumerated (items_view items added)
base_step (Sequence ms) = spec.members SeqKind.sequence (spec.members_of ms)
base_step (Set ms) = spec.members SeqKind.set (spec.members_of ms)
base_step (SequenceOf n) = spec.list_of SeqKind.sequence n.value
base_step (SetOf n) = spec.list_of SeqKind.set n.value
base_step (Choice ms) = spec.choice (spec.members_of ms)
base_step (Reference home name) = spec.reference home name
base_step (Instance home name ns) = spec.instance_of home name (spec.notations_of ns.items)

abbrev pub component_step : {B C M E L : Type 0} → Component-F B C M E L spec.Notation → spec.Member
component_step (Named name n presence) = spec.component name n presence
component_step (ComponentsOf n) = spec.components_of n

abbrev pub member_step : {B M E L N : Type 0} → Member-F B spec.Member M E L N → spec.Member
member_step (One c) = c
member_step (Group cs) = spec.group (spec.members_of cs.items)

abbrev pub extension_step : {B C E L N : Type 0} → Extension-F B C spec.Member E L N
    → List spec.Member
extension_step e = e.additions.items ++ tail_view e.tail

abbrev pub members_step : {B C L N : Type 0} → Members-F B C spec.Member (List spec.Member) L N
    → List spec.Member
members_step ms = ms.root.items ++ behind_root ms.extension

abbrev pub notation_step : {C M E L N : Type 0} → Notation-F spec.Base C M E L N → spec.Notation
notation_step n = spec.notation n.tags.items n.base n.sizes.items

-- The type that a `Notation` is.
abbrev pub notation_view : Notation → spec.Notation
notation_view =
    fold-Notation spec.Base spec.Member spec.Member (List spec.Member)
    (List spec.Member) spec.Notation base_step component_step member_step extension_step members_step notation_step

-- The entry that a `Component` is.
abbrev pub component_view : Component → spec.Member
component_view =
    fold-Component spec.Base spec.Member spec.Member (List spec.Member)
    (List spec.Member) spec.Notation base_step component_step member_step extension_step members_step notation_step

-- The entries that `Members` are, with the extension markers among them.
abbrev pub members_view : Members → List spec.Member
members_view =
    fold-Members spec.Base spec.Member spec.Member (List spec.Member)
    (List spec.Member) spec.Notation base_step component_step member_step extension_step members_step notation_step

-- The assignment that an `Assignment` is.
abbrev pub assignment_view : Assignment → modules.Assignment
assignment_view (assignment.Type name n) = modules.type_assignment name (notation_view n)
assignment_view (assignment.Value name n value) =
    modules.value_assignment name (notation_view n) value
assignment_view (assignment.Template name parameters n) =
    modules.template_assignment name parameters.items (notation_view n)

-- The module that a `Module` is.
abbrev pub module_view : Module → modules.Module
module_view m =
    record { header = option_map header_view m.header; assignments = map assignment_view m.assignments.items }
