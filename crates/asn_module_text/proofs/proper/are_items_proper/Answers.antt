use Rattle.std.proofs.Common.{None, Some, sym, ◌∙◌, string_bytes}
use Rattle.asn_notation.specs.Proper.{are_items_proper}
use Rattle.asn_notation.specs.View.{marked}
use Rattle.asn_module_text.proofs.Printing.{seen}
use Rattle.asn_module_text.proofs.Properness.{items_proper, passes, fails}
use Rattle.asn_module_text.proofs.proper.are_items_proper.Goals as goal

pub returns-then-are_words : goal.returns-then-are_words
returns-then-are_words c =
    let added = are_items_proper (marked (λ i. Some (string_bytes i)) None c.args.added.now) in
    c.are_added_words.ensures ∙ sym (items_proper c.args.items.now c.args.added.now ∙ passes (are_items_proper (seen c.args.items.now)) added (sym c.are_words.ensures ∙ c.if-are_words.true))

pub returns-else-are_words : goal.returns-else-are_words
returns-else-are_words c =
    let added = are_items_proper (marked (λ i. Some (string_bytes i)) None c.args.added.now) in
    c.if-are_words.false ∙ sym (items_proper c.args.items.now c.args.added.now ∙ fails (are_items_proper (seen c.args.items.now)) added (sym c.are_words.ensures ∙ c.if-are_words.false))
