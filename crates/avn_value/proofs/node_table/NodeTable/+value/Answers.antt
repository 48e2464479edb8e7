use Rattle.std.proofs.Common.{◌≡◌, ◌∙◌, ap, sym, subst, arith, string_bytes}
use Rattle.std.specs.Prelude.{option_map}
use Rattle.std.proofs.lemmas.Grind.{common_steps}
use Rattle.avn_grammar.specs.Tree.{tree}
use Rattle.avn_value.specs.View.{tree_of, list_trees, fields_trees}
use Rattle.avn_nodes.proofs.JoinedFields.{join}
use Rattle.avn_nodes.proofs.Walks.{Fielding, fielding_begun, fielding_first, fielding_more, fielding_done, Listing, listing_begun, listing_first, listing_more, listing_done, chained, join-push, chained-push, entry, kind_absent, kind_present, some_is}
use Rattle.avn_nodes.specs.NodeViews.{kind_of}
use Rattle.avn_nodes.specs.Preorder.{NamedSlot, tree_at}
use Rattle.avn_value.proofs.node_table.NodeTable.+value.Goals.{to_fields-in-Absent, to_fields-in_default+in_ok-to_value-in_default}
use Rattle.avn_value.proofs.node_table.NodeTable.+value.Goals as goal

pub to_fields-children-init : goal.to_fields-children-init
to_fields-children-init t c =
    subst (Fielding c.args.self.now c.args.node _ c.end-end.result) (sym (ap (λ x. fields_trees x) c.new-fields.ensures.items)) (fielding_begun c.args.self.now c.args.node c.end-end.result c.requires.below c.requires.sequence c.end-end.ensures)

pub to_fields-children-preserved : goal.to_fields-children-preserved
to_fields-children-preserved t c =
    let root = c.args.self.now in
    let i = c.children.child in
    let g = c.children.invariant in
    let f = fielding_first root c.args.node i c.end-end.result (fields_trees c.children.fields.items) g c.children-test.true in
    let named : string_bytes c.in_ok-name.name ≡ f.id = c.in_ok-name.ensures.ok ∙ c.name.ensures ∙ ap (λ (s : NamedSlot). s.0) f.here in
    let slot : option_map tree_of c.match-kind.slot ≡ f.slot = elim c.match-kind.branch [
      | to_fields-in-Absent w ↦ ap (option_map tree_of) w.slot-is ∙ sym (kind_absent (tree_at root i) (sym c.kind.ensures ∙ w.in-Absent.is)) ∙ ap (λ (s : NamedSlot). s.1) f.here
      | to_fields-in_default+in_ok-to_value-in_default w ↦ ap (option_map tree_of) w.slot-is ∙ sym w.in_ok-to_value-in_default.ensures ∙ ap (λ (s : NamedSlot). s.1) f.here
    ] in
    fielding_more root c.args.node i c.end-end.result c.end-child.result (fields_trees c.children.fields.items) (fields_trees c.push.new.self.items) g f c.end-child.ensures
    (ap (λ x. join (fields_trees x) f.others) c.in_ok-push.ensures.items ∙ join-push tree_of c.children.fields.items c.in_ok-name.name c.match-kind.slot f.others
    ∙ ap (λ x. join (fields_trees c.children.fields.items) (entry x (option_map tree_of c.match-kind.slot) f.others)) named ∙ ap (λ x. join (fields_trees c.children.fields.items) (entry f.id x f.others)) slot)

pub to_fields-returns : goal.to_fields-returns
to_fields-returns t c = fielding_done c.args.self.now c.args.node c.children.child c.end-end.result (fields_trees c.children.fields.items) c.children.invariant c.children-test.false

pub to_list-children-init : goal.to_list-children-init
to_list-children-init t c =
    subst (Listing c.args.self.now c.args.node _ c.end-end.result) (sym (ap (λ x. list_trees x) c.new-list.ensures.items)) (listing_begun c.args.self.now c.args.node c.end-end.result c.requires.below c.requires.list c.end-end.ensures)

pub to_list-to_value-requires : goal.to_list-to_value-requires
to_list-to_value-requires t c =
    let f = listing_first c.args.self.now c.args.node c.children.child c.end-end.result (list_trees c.children.list.items) c.children.invariant c.children-test.true in
    (grind (arith, common_steps), (f.below, λ e. kind_present f.item (sym (ap (λ (s : NamedSlot). kind_of s.1) f.here) ∙ e)))

pub to_list-children-preserved : goal.to_list-children-preserved
to_list-children-preserved t c =
    let root = c.args.self.now in
    let i = c.children.child in
    let g = c.children.invariant in
    let f = listing_first root c.args.node i c.end-end.result (list_trees c.children.list.items) g c.children-test.true in
    let item : tree_of c.in_ok-value.value ≡ f.item = some_is _ _ (sym c.in_ok-value.ensures ∙ ap (λ (s : NamedSlot). s.1) f.here) in
    listing_more root c.args.node i c.end-end.result c.end-child.result (list_trees c.children.list.items) (list_trees c.push.new.self.items) g f c.end-child.ensures
    (ap (λ x. chained (list_trees x) f.others) c.in_ok-push.ensures.items ∙ chained-push tree_of c.children.list.items c.in_ok-value.value f.others ∙ ap (λ x. chained (list_trees c.children.list.items) (tree x f.others)) item)

pub to_list-returns : goal.to_list-returns
to_list-returns t c = listing_done c.args.self.now c.args.node c.children.child c.end-end.result (list_trees c.children.list.items) c.children.invariant c.children-test.false
