use Rattle.std.proofs.Common.{ap, ◌∙◌, arith, ◌++◌, refl}
use Rattle.std.specs.Prelude.{option_map}
use Rattle.std.proofs.lemmas.List.{map-append}
use Rattle.serde_json.specs.View.{items_view}
use Rattle.asn_slots.specs.Trees.{trees_of}
use Rattle.asn_coding.specs.Opening.{IsList}
use Rattle.asn_traits.specs.Tree.{item_slots}
use Rattle.asn_traits.specs.ShapeView.{kind_view}
use Rattle.jer_rules.specs.Pending.{tree_of, pending_of}
use Rattle.jer_rules.proofs.Readings.{list-none, no_list_of}
use Rattle.jer_rules.proofs.Taken.{present_slots, length-item_slots, items_below}
use Rattle.jer_rules.proofs.jer.de.DecoderDecoder.open_list.Goals as goal

pub returns-in-Ok-put_present : goal.returns-in-Ok-put_present
returns-in-Ok-put_present c =
    let vs = c.in-Ok.items.items in (
      _,
      item_slots (items_view vs),
      pending_of c.take.new.self,
      rw c.in-Ok.ensures at c.in_ok-take.ensures,
      ap (trees_of tree_of) c.in-Ok-put_present.ensures.put ∙ map-append (option_map tree_of) _ _ ∙ ap (λ l. l ++ pending_of c.take.new.self) (present_slots vs),
      omega (arith, length-item_slots vs, c.len-count.ensures, c.in-Ok.items.ok.0),
      items_below (items_view vs) _ (omega arith),
      IsList.is_list _ _ refl,
    )

pub returns-in-Err : goal.returns-in-Err
returns-in-Err c =
    let h = c.in-Err.ensures in
    λ s. no_list_of (kind_view c.args.kind) s _ _ _ _ c.in_ok-take.ensures (list-none _ h.1) (rw h.0 at c.mismatch.ensures)
