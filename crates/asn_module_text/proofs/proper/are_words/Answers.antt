use Rattle.std.proofs.Common.{refl, sym, ap, ◌∙◌, string_bytes, arith}
use Rattle.std.proofs.lemmas.List.{drop_all}
use Rattle.avn_grammar.specs.WellFormed.{is_identifier}
use Rattle.asn_notation.specs.Proper.{are_items_proper}
use Rattle.asn_module_text.proofs.Printing.{seen}
use Rattle.asn_module_text.proofs.Properness.{entry_fails, entry_passes}
use Rattle.asn_module_text.proofs.proper.are_words.Goals as goal

pub loop-item-init : goal.loop-item-init
loop-item-init c = refl

pub returns-then-not-is_identifier : goal.returns-then-not-is_identifier
returns-then-not-is_identifier c =
    sym (c.loop-item.invariant ∙ entry_fails (λ xs. are_items_proper (seen xs)) (λ x. is_identifier (string_bytes x)) (λ x xs. refl) c.args.items.now c.loop-item.item-index c.item-item.result c.loop-item-test.true c.item-item.is
    (ap is_identifier (sym c.as_str.ensures.value) ∙ sym c.is_identifier.ensures ∙ c.if-not-is_identifier.true))

pub loop-item-preserved : goal.loop-item-preserved
loop-item-preserved c =
    c.loop-item.invariant ∙ entry_passes (λ xs. are_items_proper (seen xs)) (λ x. is_identifier (string_bytes x)) (λ x xs. refl) c.args.items.now c.loop-item.item-index c.item-item.result c.loop-item-test.true c.item-item.is
    (ap is_identifier (sym c.as_str.ensures.value) ∙ sym c.is_identifier.ensures ∙ c.if-not-is_identifier.false)

pub returns : goal.returns
returns c = sym (c.loop-item.invariant ∙ ap (λ xs. are_items_proper (seen xs)) (drop_all c.loop-item.item-index c.args.items.now (omega (arith, c.loop-item-test.false))))
