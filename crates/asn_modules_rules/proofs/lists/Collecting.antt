-- What is collected of parts.
use Rattle.std.proofs.Common.{◌≡◌, refl, ap, sym, ◌∙◌, List, [], ◌∷◌, ◌++◌, map, Option, Some, None, append_assoc}
use Rattle.std.proofs.lemmas.List.{map-append}
use Rattle.std.specs.Global.{Vec}
use Rattle.asn_lexer.specs.declared.token.Token.{Token}
use Rattle.asn_modules_rules.specs.lists.Listed.{item_names, members_names}
use Rattle.asn_modules_rules.specs.lists.Written.{Written, all_written, assignments_written, member_bases, members_bases, modules_written, written_in}
use Rattle.asn_modules_names.specs.Mentions.{Source, source_view}
use Rattle.asn_modules_grammar.specs.notation.Notation.{Member, Members, member, members_of}
use Rattle.asn_modules_grammar.specs.notation.View.{assignment_view, component_view, items_view, module_view}
use Rattle.asn_modules_grammar.specs.declared.notation.module.Assignment as code_assignment
use Rattle.asn_modules_grammar.specs.declared.notation.module.Module as code_module
use Rattle.asn_modules_grammar.specs.declared.notation.notation.Component as code_component
use Rattle.asn_modules_grammar.specs.declared.notation.number.Item.{Item}
use Rattle.asn_modules_reader.specs.declared.text.source.Source as code_source

-- The types that stand in these, in the text.
module _ (s : Source) where
  abbrev pub member_written : Member → List Written
  member_written m = map (written_in s) (member_bases m)

  abbrev pub members_written : Members → List Written
  members_written ms = map (written_in s) (members_bases ms)

  pub written_more : (m : Member) (ms : Members) → members_written (member m ms) ≡ member_written m ++ members_written ms
  written_more m ms = map-append (written_in s) (member_bases m) (members_bases ms)

  abbrev pub components_written : List code_component.Component → List Written
  components_written cs = members_written (members_of (map component_view cs))

  abbrev pub written_by : List code_assignment.Assignment → List Written
  written_by xs = assignments_written s (map assignment_view xs)

  abbrev pub written_in_modules : List code_module.Module → List Written
  written_in_modules ms = modules_written s (map module_view ms)

abbrev pub written_in_texts : List code_source.Source → List Written
written_in_texts ss = all_written (map source_view ss)

-- The names of components.
abbrev pub components_names : List code_component.Component → List Token
components_names cs = members_names (members_of (map component_view cs))

-- The names of items.
abbrev pub names_of_items : List Item → List Token
names_of_items items = item_names (map (λ i. Some i) items)

items_joined : (xs ys : List (Option Item)) → item_names (xs ++ ys) ≡ item_names xs ++ item_names ys
items_joined [] ys = refl
items_joined (None ∷ xs) ys = items_joined xs ys
items_joined (Some x ∷ xs) ys = ap (λ l. x.name ∷ l) (items_joined xs ys)

-- Those of the root and then of the extension additions.
pub enumerated_added : (items added : Vec Item) (o : Option (Vec Item)) (old between new : List Token) → between ≡ old ++ names_of_items items.items → o ≡ Some added → new ≡ between ++ names_of_items added.items → new ≡ old ++ item_names (items_view items o)
enumerated_added items added o old between new b s n =
    n ∙ ap (λ l. l ++ names_of_items added.items) b ∙ append_assoc old (names_of_items items.items) (names_of_items added.items)
    ∙ ap (λ l. old ++ l) (sym (items_joined (map (λ i. Some i) items.items) (None ∷ map (λ i. Some i) added.items))) ∙ ap (λ p. old ++ item_names (items_view items p)) (sym s)
