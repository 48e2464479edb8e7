use Rattle.std.proofs.Common.{◌≡◌, ◌∷◌, [], sym, ap, ◌∙◌, string_bytes, String, Option, Global}
use Rattle.avn_grammar.specs.Tree.{sequence}
use Rattle.avn_value.specs.declared.value.AvnValue.{AvnValue}
use Rattle.avn_value.specs.View.{tree_of, fields_trees}
use Rattle.avn_value.proofs.Views.{view-Sequence}
use Rattle.avn_value.proofs.Joins.{copy-some, copy-none, copy-next}
use Rattle.avn_value.proofs.clone.+copy.Goals.{copy_fields-in-Some+in_ok-copy_value-in-Some, copy_fields-in-None}
use Rattle.avn_value.proofs.clone.+copy.Goals as goal

pub copy_value-returns-in_ok-copy_fields-in-Sequence : goal.copy_value-returns-in_ok-copy_fields-in-Sequence
copy_value-returns-in_ok-copy_fields-in-Sequence t c =
    let k = c.in_ok-copy_fields-in-Sequence in
    view-Sequence k.field-0 ∙ ap sequence k.ensures ∙ sym (ap tree_of c.in-Sequence.is ∙ view-Sequence c.in-Sequence.fields)

pub copy_fields-loop-name-preserved : goal.copy_fields-loop-name-preserved
copy_fields-loop-name-preserved t c =
    let xs = c.deref-name-items.result.now in
    let x = c.loop-name-item.result in
    let g : String Global × Option AvnValue = (c.in_ok-name.name, c.match-slot.slot) in
    let named : string_bytes c.in_ok-name.name ≡ string_bytes (x.0) = c.in_ok-name.ensures in
    let same : fields_trees (g ∷ []) ≡ fields_trees (x ∷ []) = elim c.match-slot.branch [
      | copy_fields-in-Some+in_ok-copy_value-in-Some w ↦ copy-some tree_of x g w.in-Some.value w.in_ok-copy_value-in-Some.field-0 named w.in-Some.is w.slot-is w.in_ok-copy_value-in-Some.ensures
      | copy_fields-in-None w ↦ copy-none tree_of x g named w.in-None.is w.slot-is
    ] in
    copy-next tree_of xs c.loop-name.copies.items c.push.new.self.items c.loop-name.name-index x g c.loop-name-test.true c.loop-name-item.is c.loop-name.invariant c.in_ok-push.ensures.items same
