use Rattle.std.proofs.Common.{None, Some, ◌++◌, true, sym, ap, ◌∙◌, string_bytes}
use Rattle.asn_notation.specs.Printed.{closed, item_run, opened}
use Rattle.asn_notation.specs.View.{marked}
use Rattle.asn_module_text.proofs.Printing.{seen, items_then}
use Rattle.asn_module_text.proofs.write.write_items.Goals as goal

pub returns : goal.returns
returns c = λ rest.
    let items = c.args.items.now in
    let added = marked (λ i. Some (string_bytes i)) None c.args.added.now in
    c.in_ok-write_closing.ensures rest ∙ c.in_ok-write_added_items.ensures (closed rest) ∙ c.in_ok-write_item_run.ensures (item_run c.is_empty.result added (closed rest))
    ∙ c.in_ok-write_opening.ensures (item_run true (seen items) (item_run c.is_empty.result added (closed rest)))
    ∙ ap (λ t. string_bytes c.args.out.now ++ opened t) (ap (λ b. item_run true (seen items) (item_run b added (closed rest))) c.is_empty.ensures ∙ sym (items_then items added (closed rest)))
