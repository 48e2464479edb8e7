use Rattle.std.proofs.Common.{◌≡◌, ◌∙◌, ap, map, string_bytes, sym}
use Rattle.std.specs.Option.{option_map}
use Rattle.asn_linked_types.proofs.Within.{enum-viewed}
use Rattle.asn_model.specs.Shape.{Shape}
use Rattle.asn_modules_names.specs.lookup.Homes.{home_view}
use Rattle.asn_modules_grammar.specs.notation.View.{items_view}
use Rattle.asn_modules_types.specs.Leaves.{item_names}
use Rattle.asn_modules_types.specs.Linked.{is_extensible}
use Rattle.asn_modules_types.specs.Lists.{root_of}
use Rattle.asn_modules_types.proofs.Naming.{added_items, items_ended, items_extended, items_implied}
use Rattle.asn_modules_types.proofs.Separated.{items_root}
use Rattle.asn_modules_types.proofs.leaves.enumerated_shape.Goals as goal
use Rattle.asn_modules_types.proofs.leaves.enumerated_shape.Goals.{in-Some+in_ok-item_names-in-Some, in-None+then-is_extensible, in-None+else-is_extensible}

pub returns : goal.returns
returns c =
    let h = home_view c.args.scope.now.home in
    let text = h.source.text in
    let extensible = is_extensible h.parsed.header in
    let items = c.args.items.now in
    let o = c.args.added.now in
    let made = c.match-added.added in
    let root : map string_bytes c.in_ok-items.items.items ≡ item_names text (root_of (items_view items o)) = c.in_ok-items.ensures ∙ ap (item_names text) (c.deref.ensures.value ∙ sym (items_root items o)) in
    let behind : option_map (λ v. map string_bytes v.items) made ≡ added_items text extensible items o made = elim c.match-added.branch [
      | in-Some+in_ok-item_names-in-Some w ↦ items_extended text extensible items o made w.in-Some.added w.in_ok-item_names-in-Some.field-0 w.in-Some.is w.added-is (w.in_ok-item_names-in-Some.ensures ∙ ap (item_names text) w.deref-in-Some.ensures.value)
      | in-None+then-is_extensible w ↦ items_implied text extensible items o made w.new.result w.in-None.is w.added-is w.new.ensures.items (sym w.is_extensible.ensures ∙ w.if-is_extensible.true)
      | in-None+else-is_extensible w ↦ items_ended text extensible items o made w.in-None.is w.added-is (sym w.is_extensible.ensures ∙ w.if-is_extensible.false)
    ] in
    enum-viewed c.in_ok-items.items made ∙ ap (λ l. Shape.enum l (option_map (λ v. map string_bytes v.items) made)) root ∙ ap (Shape.enum (item_names text (root_of (items_view items o)))) behind
