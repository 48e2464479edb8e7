use Rattle.std.proofs.Common.{Some, None, refl, sym, ap, ◌∙◌, string_bytes}
use Rattle.asn_notation.specs.Notation.{is_item_marker}
use Rattle.asn_module_reader.specs.Productions.{items_read}
use Rattle.asn_module_reader.specs.TokenView.{token_view}
use Rattle.asn_module_reader.proofs.EntriesSeen.{entry_seen, marker_seen}
use Rattle.asn_module_reader.proofs.ItemsRead.{item_repeated}
use Rattle.asn_module_reader.proofs.Results.{taken, named_result, marked_result}
use Rattle.asn_module_reader.proofs.read.read_item.Goals as goal

pub returns-in_ok-push-in-Word-clause-ok : goal.returns-in_ok-push-in-Word-clause-ok
returns-in_ok-push-in-Word-clause-ok c =
    let word = ap token_view (sym c.in-Word.is) ∙ c.in_ok-name.ensures.found in
    named_result c.args.cursor.now.rest c.take_token.new.cursor.rest _ _ (items_read c.args.items.now) _ c.take_separator.result word (taken _ _ c.in-Word.is tt c.in_ok-name.ensures.moves)
    (entry_seen (λ i. Some (string_bytes i)) None c.args.items.now c.push.new.self _ c.in_ok-push-in-Word.ensures) c.take_separator.ensures.ok c.take_separator.ensures.moves

pub returns-then-is_extensible-clause-none : goal.returns-then-is_extensible-clause-none
returns-then-is_extensible-clause-none c = λ e i more rest p allows.
    let sign = ap token_view (sym c.in-Ellipsis.is) ∙ c.in_ok-name.ensures.found in
    item_repeated c.args.cursor.now.rest (items_read c.args.items.now) sign (marker_seen is_item_marker (λ i. Some (string_bytes i)) None refl (λ y. refl) c.args.items.now ∙ sym c.is_extensible.ensures ∙ c.if-is_extensible.true) i more rest p allows

pub returns-else-is_extensible-clause-ok : goal.returns-else-is_extensible-clause-ok
returns-else-is_extensible-clause-ok c =
    let sign = ap token_view (sym c.in-Ellipsis.is) ∙ c.in_ok-name.ensures.found in
    marked_result c.args.cursor.now.rest c.take_token.new.cursor.rest _ (items_read c.args.items.now) _ c.take_separator-in-Ellipsis.result sign (taken _ _ c.in-Ellipsis.is tt c.in_ok-name.ensures.moves)
    (marker_seen is_item_marker (λ i. Some (string_bytes i)) None refl (λ y. refl) c.args.items.now ∙ sym c.is_extensible.ensures ∙ c.if-is_extensible.false)
    (entry_seen (λ i. Some (string_bytes i)) None c.args.items.now c.mark.new.self _ c.mark.ensures) c.take_separator-in-Ellipsis.ensures.ok c.take_separator-in-Ellipsis.ensures.moves
