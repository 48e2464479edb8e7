-- What types are, by what their parts are.
use Rattle.std.proofs.Common.{◌≡◌, refl, ap, sym, ◌∙◌, List, [], ◌∷◌, ◌++◌, map, false, Option, Some, None}
use Rattle.std.specs.Global.{Box, Vec}
use Rattle.asn_lexer.specs.declared.token.Token.{Token}
use Rattle.asn_model.specs.Shape.{SeqKind}
use Rattle.asn_modules_grammar.specs.notation.Notation as spec
use Rattle.asn_modules_grammar.specs.notation.View.{items_view, base_step, component_step, member_step, extension_step, members_step, notation_step, notation_view, component_view, members_view}
use Rattle.asn_modules_grammar.specs.declared.notation.leaf.Leaf as declared_leaf
use Rattle.asn_modules_grammar.specs.declared.notation.notation.Base.{Base}
use Rattle.asn_modules_grammar.specs.declared.notation.notation.Base.TheOpen as layer
use Rattle.asn_modules_grammar.specs.declared.notation.notation.Base.TheOpen.{Component-F, Member-F}
use Rattle.asn_modules_grammar.specs.declared.notation.notation.Base.TheViews.{out-Component, out-Member, roll-Component, roll-Member}
use Rattle.asn_modules_grammar.specs.declared.notation.notation.Base.TheVariants.{Leaf, Integer, BitString, Enumerated, Sequence, Set, SequenceOf, SetOf, Choice, Reference, Instance, rolls-Leaf, rolls-Integer, rolls-BitString, rolls-Enumerated, rolls-Sequence, rolls-Set, rolls-SequenceOf, rolls-SetOf, rolls-Choice, rolls-Reference, rolls-Instance}
use Rattle.asn_modules_grammar.specs.declared.notation.notation.Base.TheFolds.{fold-Extension, fold_out-Component, fold_out-Member, fold-roll-Base, fold-roll-Component, fold-roll-Member, fold-roll-Extension, fold-roll-Members, fold-roll-Notation}
use Rattle.asn_modules_grammar.specs.declared.notation.notation.Component.{Component}
use Rattle.asn_modules_grammar.specs.declared.notation.notation.Component.TheVariants.{Named, ComponentsOf, rolls-Named, rolls-ComponentsOf}
use Rattle.asn_modules_grammar.specs.declared.notation.notation.Extension.{Extension, roll-Extension}
use Rattle.asn_modules_grammar.specs.declared.notation.notation.Member.{Member}
use Rattle.asn_modules_grammar.specs.declared.notation.notation.Member.TheVariants.{One, Group, rolls-One, rolls-Group}
use Rattle.asn_modules_grammar.specs.declared.notation.notation.Members.{Members, roll-Members}
use Rattle.asn_modules_grammar.specs.declared.notation.notation.Notation.{Notation, roll-Notation}
use Rattle.asn_modules_grammar.specs.declared.notation.notation.Presence.{Presence}
use Rattle.asn_modules_grammar.specs.declared.notation.number.Item.{Item}
use Rattle.asn_modules_grammar.specs.declared.notation.number.NamedNumber.{NamedNumber}
use Rattle.asn_modules_grammar.specs.declared.notation.size.Size.{Size}
use Rattle.asn_modules_grammar.specs.declared.notation.tag.TagNotation.{TagNotation}
use Rattle.asn_modules_reader.specs.parts.EntryLists.{behind_first, behind_second}
use Rattle.asn_modules_reader.specs.Views.{base_view, member_view, member_seen}

pub leaf_viewed : (l : declared_leaf.Leaf) → base_view (Leaf l) ≡ spec.leaf l
leaf_viewed l = ap base_view (sym (rolls-Leaf l)) ∙ fold-roll-Base spec.Base spec.Member spec.Member (List spec.Member) (List spec.Member) spec.Notation base_step component_step member_step extension_step members_step notation_step (layer.Leaf l)

pub integer_viewed : (ns : Vec NamedNumber) → base_view (Integer ns) ≡ spec.integer ns.items
integer_viewed ns = ap base_view (sym (rolls-Integer ns)) ∙ fold-roll-Base spec.Base spec.Member spec.Member (List spec.Member) (List spec.Member) spec.Notation base_step component_step member_step extension_step members_step notation_step (layer.Integer ns)

pub bit_string_viewed : (ns : Vec NamedNumber) → base_view (BitString ns) ≡ spec.bit_string ns.items
bit_string_viewed ns = ap base_view (sym (rolls-BitString ns)) ∙ fold-roll-Base spec.Base spec.Member spec.Member (List spec.Member) (List spec.Member) spec.Notation base_step component_step member_step extension_step members_step notation_step (layer.BitString ns)

pub enumerated_viewed : (items : Vec Item) (added : Option (Vec Item)) → base_view (Enumerated items added) ≡ spec.enumerated (items_view items added)
enumerated_viewed items added = ap base_view (sym (rolls-Enumerated items added)) ∙ fold-roll-Base spec.Base spec.Member spec.Member (List spec.Member) (List spec.Member) spec.Notation base_step component_step member_step extension_step members_step notation_step (layer.Enumerated items added)

pub sequence_viewed : (ms : Members) → base_view (Sequence ms) ≡ spec.members SeqKind.sequence (spec.members_of (members_view ms))
sequence_viewed ms = ap base_view (sym (rolls-Sequence ms)) ∙ fold-roll-Base spec.Base spec.Member spec.Member (List spec.Member) (List spec.Member) spec.Notation base_step component_step member_step extension_step members_step notation_step (layer.Sequence ms)

pub set_viewed : (ms : Members) → base_view (Set ms) ≡ spec.members SeqKind.set (spec.members_of (members_view ms))
set_viewed ms = ap base_view (sym (rolls-Set ms)) ∙ fold-roll-Base spec.Base spec.Member spec.Member (List spec.Member) (List spec.Member) spec.Notation base_step component_step member_step extension_step members_step notation_step (layer.Set ms)

pub sequence_of_viewed : (n : Box Notation) → base_view (SequenceOf n) ≡ spec.list_of SeqKind.sequence (notation_view n.value)
sequence_of_viewed n = ap base_view (sym (rolls-SequenceOf n)) ∙ fold-roll-Base spec.Base spec.Member spec.Member (List spec.Member) (List spec.Member) spec.Notation base_step component_step member_step extension_step members_step notation_step (layer.SequenceOf n)

pub set_of_viewed : (n : Box Notation) → base_view (SetOf n) ≡ spec.list_of SeqKind.set (notation_view n.value)
set_of_viewed n = ap base_view (sym (rolls-SetOf n)) ∙ fold-roll-Base spec.Base spec.Member spec.Member (List spec.Member) (List spec.Member) spec.Notation base_step component_step member_step extension_step members_step notation_step (layer.SetOf n)

pub choice_viewed : (ms : Members) → base_view (Choice ms) ≡ spec.choice (spec.members_of (members_view ms))
choice_viewed ms = ap base_view (sym (rolls-Choice ms)) ∙ fold-roll-Base spec.Base spec.Member spec.Member (List spec.Member) (List spec.Member) spec.Notation base_step component_step member_step extension_step members_step notation_step (layer.Choice ms)

pub reference_viewed : (home : Option Token) (name : Token) → base_view (Reference home name) ≡ spec.reference home name
reference_viewed home name = ap base_view (sym (rolls-Reference home name)) ∙ fold-roll-Base spec.Base spec.Member spec.Member (List spec.Member) (List spec.Member) spec.Notation base_step component_step member_step extension_step members_step notation_step (layer.Reference home name)

pub instance_viewed : (home : Option Token) (name : Token) (ns : Vec Notation) → base_view (Instance home name ns) ≡ spec.instance_of home name (spec.notations_of (map notation_view ns.items))
instance_viewed home name ns = ap base_view (sym (rolls-Instance home name ns)) ∙ fold-roll-Base spec.Base spec.Member spec.Member (List spec.Member) (List spec.Member) spec.Notation base_step component_step member_step extension_step members_step notation_step (layer.Instance home name ns)

pub named_viewed : (name : Token) (n : Notation) (presence : Presence) → component_view (Named name n presence) ≡ spec.component name (notation_view n) presence
named_viewed name n presence = ap component_view (sym (rolls-Named name n presence)) ∙ fold-roll-Component spec.Base spec.Member spec.Member (List spec.Member) (List spec.Member) spec.Notation base_step component_step member_step extension_step members_step notation_step (layer.Named name n presence)

pub components_of_viewed : (n : Notation) → component_view (ComponentsOf n) ≡ spec.components_of (notation_view n)
components_of_viewed n = ap component_view (sym (rolls-ComponentsOf n)) ∙ fold-roll-Component spec.Base spec.Member spec.Member (List spec.Member) (List spec.Member) spec.Notation base_step component_step member_step extension_step members_step notation_step (layer.ComponentsOf n)

pub one_viewed : (c : Component) → member_view (One c) ≡ component_view c
one_viewed c = ap member_view (sym (rolls-One c)) ∙ fold-roll-Member spec.Base spec.Member spec.Member (List spec.Member) (List spec.Member) spec.Notation base_step component_step member_step extension_step members_step notation_step (layer.One c)

pub group_viewed : (cs : Vec Component) → member_view (Group cs) ≡ spec.group (spec.members_of (map component_view cs.items))
group_viewed cs = ap member_view (sym (rolls-Group cs)) ∙ fold-roll-Member spec.Base spec.Member spec.Member (List spec.Member) (List spec.Member) spec.Notation base_step component_step member_step extension_step members_step notation_step (layer.Group cs)

pub notation_viewed : (tags : Vec TagNotation) (base : Base) (sizes : Vec Size) → notation_view (roll-Notation (record { tags = tags; base = base; sizes = sizes })) ≡ spec.notation tags.items (base_view base) sizes.items
notation_viewed tags base sizes = fold-roll-Notation spec.Base spec.Member spec.Member (List spec.Member) (List spec.Member) spec.Notation base_step component_step member_step extension_step members_step notation_step (record { tags = tags; base = base; sizes = sizes })

abbrev extension_view : Extension → List spec.Member
extension_view = fold-Extension spec.Base spec.Member spec.Member (List spec.Member) (List spec.Member) spec.Notation base_step component_step member_step extension_step members_step notation_step

-- What stands after the second marker, with it.
abbrev tail_seen : Option (Vec Member) → List spec.Member
tail_seen None = []
tail_seen (Some ms) = spec.marker ∷ map member_view ms.items

extension_viewed : (additions : Vec Member) (tail : Option (Vec Member)) → extension_view (roll-Extension (record { additions = additions; tail = tail })) ≡ map member_view additions.items ++ tail_seen tail
extension_viewed additions None = fold-roll-Extension spec.Base spec.Member spec.Member (List spec.Member) (List spec.Member) spec.Notation base_step component_step member_step extension_step members_step notation_step (record { additions = additions; tail = None })
extension_viewed additions (Some ms) = fold-roll-Extension spec.Base spec.Member spec.Member (List spec.Member) (List spec.Member) spec.Notation base_step component_step member_step extension_step members_step notation_step (record { additions = additions; tail = Some ms })

root_viewed : (root : Vec Member) → members_view (roll-Members (record { root = root; extension = None })) ≡ map member_view root.items ++ []
root_viewed root = fold-roll-Members spec.Base spec.Member spec.Member (List spec.Member) (List spec.Member) spec.Notation base_step component_step member_step extension_step members_step notation_step (record { root = root; extension = None })

extended_viewed : (root : Vec Member) (e : Extension) → members_view (roll-Members (record { root = root; extension = Some e })) ≡ map member_view root.items ++ spec.marker ∷ extension_view e
extended_viewed root e = fold-roll-Members spec.Base spec.Member spec.Member (List spec.Member) (List spec.Member) spec.Notation base_step component_step member_step extension_step members_step notation_step (record { root = root; extension = Some e })

map_join : {A B : Type 0} (f : A → B) (xs ys : List A) → map f (xs ++ ys) ≡ map f xs ++ map f ys
map_join f [] ys = refl
map_join f (x ∷ xs) ys = ap (λ l. f x ∷ l) (map_join f xs ys)

some_seen : (ms : List Member) → map member_seen (map (λ x. Some x) ms) ≡ map member_view ms
some_seen [] = refl
some_seen (m ∷ ms) = ap (λ l. member_view m ∷ l) (some_seen ms)

second_seen : (tail : Option (Vec Member)) → map member_seen (behind_second tail) ≡ tail_seen tail
second_seen None = refl
second_seen (Some ms) = ap (λ l. spec.marker ∷ l) (some_seen ms.items)

-- The members of entries without a marker, and with one or two.
pub plain_members : (root : Vec Member) (added tail : Option (Vec Member)) → added ≡ None
    → members_view (roll-Members (record { root = root; extension = None })) ≡ map member_seen (map (λ x. Some x) root.items ++ behind_first added tail)
plain_members root added tail e = root_viewed root
    ∙ sym (ap (λ a. map member_seen (map (λ x. Some x) root.items ++ behind_first a tail)) e ∙ map_join member_seen (map (λ x. Some x) root.items) [] ∙ ap (λ l. l ++ []) (some_seen root.items))

pub extended_members : (root additions : Vec Member) (added tail : Option (Vec Member)) → added ≡ Some additions
    → members_view (roll-Members (record { root = root; extension = Some (roll-Extension (record { additions = additions; tail = tail })) })) ≡ map member_seen (map (λ x. Some x) root.items ++ behind_first added tail)
extended_members root additions added tail e = extended_viewed root (roll-Extension (record { additions = additions; tail = tail })) ∙ ap (λ l. map member_view root.items ++ spec.marker ∷ l) (extension_viewed additions tail)
    ∙ sym (ap (λ a. map member_seen (map (λ x. Some x) root.items ++ behind_first a tail)) e
    ∙ map_join member_seen (map (λ x. Some x) root.items) (None ∷ (map (λ x. Some x) additions.items ++ behind_second tail))
    ∙ ap (λ l. l ++ spec.marker ∷ map member_seen (map (λ x. Some x) additions.items ++ behind_second tail)) (some_seen root.items)
    ∙ ap (λ l. map member_view root.items ++ spec.marker ∷ l) (map_join member_seen (map (λ x. Some x) additions.items) (behind_second tail)
    ∙ ap (λ l. l ++ map member_seen (behind_second tail)) (some_seen additions.items) ∙ ap (λ l. map member_view additions.items ++ l) (second_seen tail)))

-- Neither a component nor a group is an extension marker.
rolled_component : (l : Component-F Base Component Member Extension Members Notation) → spec.is_marker (component_view (roll-Component l)) ≡ false
rolled_component (layer.Named name n presence) = ap spec.is_marker (fold-roll-Component spec.Base spec.Member spec.Member (List spec.Member) (List spec.Member) spec.Notation base_step component_step member_step extension_step members_step notation_step (layer.Named name n presence))
rolled_component (layer.ComponentsOf n) = ap spec.is_marker (fold-roll-Component spec.Base spec.Member spec.Member (List spec.Member) (List spec.Member) spec.Notation base_step component_step member_step extension_step members_step notation_step (layer.ComponentsOf n))

component_unmarked : (c : Component) → spec.is_marker (component_view c) ≡ false
component_unmarked c = ap spec.is_marker (fold_out-Component spec.Base spec.Member spec.Member (List spec.Member) (List spec.Member) spec.Notation base_step component_step member_step extension_step members_step notation_step c ∙ sym (fold-roll-Component spec.Base spec.Member spec.Member (List spec.Member) (List spec.Member) spec.Notation base_step component_step member_step extension_step members_step notation_step (out-Component c))) ∙ rolled_component (out-Component c)

rolled_member : (l : Member-F Base Component Member Extension Members Notation) → spec.is_marker (member_view (roll-Member l)) ≡ false
rolled_member (layer.One c) = ap spec.is_marker (fold-roll-Member spec.Base spec.Member spec.Member (List spec.Member) (List spec.Member) spec.Notation base_step component_step member_step extension_step members_step notation_step (layer.One c)) ∙ component_unmarked c
rolled_member (layer.Group cs) = ap spec.is_marker (fold-roll-Member spec.Base spec.Member spec.Member (List spec.Member) (List spec.Member) spec.Notation base_step component_step member_step extension_step members_step notation_step (layer.Group cs))

pub member_unmarked : (m : Member) → spec.is_marker (member_view m) ≡ false
member_unmarked m = ap spec.is_marker (fold_out-Member spec.Base spec.Member spec.Member (List spec.Member) (List spec.Member) spec.Notation base_step component_step member_step extension_step members_step notation_step m ∙ sym (fold-roll-Member spec.Base spec.Member spec.Member (List spec.Member) (List spec.Member) spec.Notation base_step component_step member_step extension_step members_step notation_step (out-Member m))) ∙ rolled_member (out-Member m)
