use Rattle.std.proofs.Common.{Some, None, refl, sym, string_bytes, subst, arith}
use Rattle.std.proofs.lemmas.Grind.{common_steps}
use Rattle.asn_notation.specs.Grammar.{ItemParses, ItemsParse}
use Rattle.asn_notation.specs.Notation.{is_item_marker}
use Rattle.asn_module_reader.specs.Productions.{items_read}
use Rattle.asn_module_reader.proofs.EntriesSeen.{no_entries_seen}
use Rattle.asn_module_reader.proofs.ItemsRead.{items_run, no_item_list, empty_item_list, item_list}
use Rattle.asn_module_reader.proofs.Runs.{Going, going_start, going_next}
use Rattle.asn_module_reader.proofs.read.read_items.Goals as goal

pub returns-then-take_closing_brace-clause-ok : goal.returns-then-take_closing_brace-clause-ok
returns-then-take_closing_brace-clause-ok c =
    empty_item_list _ _ (items_read c.new-items.result) (c.take_closing_brace.ensures.yes c.if-take_closing_brace.true) (c.take_closing_brace.ensures.moves c.if-take_closing_brace.true)
    (no_entries_seen (λ i. Some (string_bytes i)) None c.new-items.result c.new-items.ensures)

pub items-init : goal.items-init
items-init c = (going_start is_item_marker ItemsParse _ _ (items_read c.new-items.result) refl (no_entries_seen (λ i. Some (string_bytes i)) None c.new-items.result c.new-items.ensures), omega arith)

pub returns-in_err-read_item-clause-none : goal.returns-in_err-read_item-clause-none
returns-in_err-read_item-clause-none c = λ e items rest p.
    let stays = c.take_closing_brace.ensures.stays c.if-take_closing_brace.false in
    no_item_list (c.take_closing_brace.ensures.no c.if-take_closing_brace.false) stays c.items.invariant.0 (c.read_item.ensures.none (grind (arith, common_steps))) items rest p

pub items-preserved : goal.items-preserved
items-preserved c =
    let x = c.in_ok-read_item.ensures.ok in (
      subst (λ z. Going is_item_marker ItemsParse c.take_closing_brace.new.cursor.rest c.read_item.new.cursor.rest z) (sym x.3)
          (going_next items_run c.items.invariant.0 (subst (λ y. ItemParses c.items.cursor.rest x.0 y c.read_item.new.cursor.rest) c.if-branch.true x.1) x.2),
      omega (arith, c.items.invariant.1, c.in_ok-read_item.ensures.shorter),
    )

pub returns-clause-ok : goal.returns-clause-ok
returns-clause-ok c =
    let x = c.in_ok-read_item.ensures.ok in
    item_list x.0 (c.take_closing_brace.ensures.stays c.if-take_closing_brace.false) c.items.invariant.0 x.1 c.if-branch.false x.2 x.3
