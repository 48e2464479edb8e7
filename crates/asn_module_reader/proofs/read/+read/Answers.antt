use Rattle.std.proofs.Common.{◌≡◌, ◌+◌, Some, refl, sym, ap, subst, ◌∙◌, arith, string_bytes, add-one}
use Rattle.std.proofs.lemmas.Grind.{common_steps}
use Rattle.asn_model.specs.Shape.{SeqKind}
use Rattle.asn_model.specs.ShapeView.{kind_view}
use Rattle.asn_notation.specs.Grammar.{NotationParses, ElementParses, ElementsParse}
use Rattle.asn_notation.specs.Keywords.{keyword_named}
use Rattle.asn_notation.specs.Notation.{component, marker, is_marker, list_of}
use Rattle.asn_notation.specs.Tokens.{keyword_of, word_of, keyword_at}
use Rattle.asn_notation.specs.View.{notation_view, component_view}
use Rattle.asn_notation.specs.declared.keyword.Keyword.TheVariants as keyword
use Rattle.asn_notation.proofs.Viewing.{components_viewed, sequence_viewed, set_viewed, choice_viewed, enumerated_viewed, sequence_of_viewed, set_of_viewed}
use Rattle.asn_module_reader.specs.Productions.{elements_read}
use Rattle.asn_module_reader.specs.StartView.{start_view}
use Rattle.asn_module_reader.specs.TokenView.{token_view}
use Rattle.asn_module_reader.proofs.EntriesSeen.{entry_seen, marker_seen, no_entries_seen}
use Rattle.asn_module_reader.proofs.Runs.{Going, going_start, going_next}
use Rattle.asn_module_reader.proofs.ElementsRead.{elements_run, element_named, element_unended, element_repeated, no_list, empty_list, element_list}
use Rattle.asn_module_reader.proofs.NotationsRead.{notation_whole, notation_pair, pair_none, members_none, notation_choice, notation_enumerated}
use Rattle.asn_module_reader.proofs.Results.{taken, started, marker_result, members_result, braced_as, listed_as}
use Rattle.asn_module_reader.proofs.read.+read.Goals as goal

pub read_element-returns-in_ok-push-in-Word-clause-ok : goal.read_element-returns-in_ok-push-in-Word-clause-ok
read_element-returns-in_ok-push-in-Word-clause-ok t c =
    let word = ap token_view (sym c.in-Word.is) ∙ c.in_ok-name.ensures.found in
    let end = c.in_ok-optional-in-Word.ensures in (
      component (string_bytes c.in-Word.name) (notation_view c.in_ok-notation-in-Word.notation) c.in_ok-optional-in-Word.optional,
      element_named _ _ _ c.args.cursor.now.rest c.take_token.new.cursor.rest c.read_notation.new.cursor.rest _ _ _ _ _ word (taken _ _ c.in-Word.is tt c.in_ok-name.ensures.moves) c.in_ok-notation-in-Word.ensures.ok end.optional end.ok end.moves,
      (λ h. let x : ⊥ = cc in absurd x),
      entry_seen component_view marker c.args.elements.now c.push.new.self _ c.in_ok-push-in-Word.ensures,
    )

pub read_element-returns-in_err-optional-in-Word-clause-none : goal.read_element-returns-in_err-optional-in-Word-clause-none
read_element-returns-in_err-optional-in-Word-clause-none t c = λ e x more rest p allows.
    let word = ap token_view (sym c.in-Word.is) ∙ c.in_ok-name.ensures.found in
    element_unended _ _ _ c.args.cursor.now.rest c.take_token.new.cursor.rest c.read_notation.new.cursor.rest _ _ word (taken _ _ c.in-Word.is tt c.in_ok-name.ensures.moves) c.in_ok-notation-in-Word.ensures.ok
    (c.take_component_end.ensures.none (grind (arith, common_steps))) x more rest p

pub read_element-returns-then-is_extensible-clause-none : goal.read_element-returns-then-is_extensible-clause-none
read_element-returns-then-is_extensible-clause-none t c = λ e x more rest p allows.
    let sign = ap token_view (sym c.in-Ellipsis.is) ∙ c.in_ok-name.ensures.found in
    element_repeated _ _ _ c.args.cursor.now.rest (elements_read c.args.elements.now) sign (marker_seen is_marker component_view marker refl (λ y. refl) c.args.elements.now ∙ sym c.is_extensible.ensures ∙ c.if-is_extensible.true) x more rest p allows

pub read_element-returns-else-is_extensible-clause-ok : goal.read_element-returns-else-is_extensible-clause-ok
read_element-returns-else-is_extensible-clause-ok t c =
    let sign = ap token_view (sym c.in-Ellipsis.is) ∙ c.in_ok-name.ensures.found in
    marker_result _ _ _ c.args.cursor.now.rest c.take_token.new.cursor.rest _ (elements_read c.args.elements.now) _ c.take_separator.result sign (taken _ _ c.in-Ellipsis.is tt c.in_ok-name.ensures.moves)
    (marker_seen is_marker component_view marker refl (λ y. refl) c.args.elements.now ∙ sym c.is_extensible.ensures ∙ c.if-is_extensible.false)
    (entry_seen component_view marker c.args.elements.now c.mark.new.self _ c.mark.ensures) c.take_separator.ensures.ok c.take_separator.ensures.moves

pub read_members-returns-in-Sequence-clause-ok : goal.read_members-returns-in-Sequence-clause-ok
read_members-returns-in-Sequence-clause-ok t c =
    let sign = ap token_view (sym c.in-OpenBrace.is) ∙ c.in_ok-take_token.ensures.found in
    braced_as _ _ (kind_view c.args.kind) SeqKind.sequence c.args.cursor.now.rest c.take_token.new.cursor.rest _ _ _ (ap kind_view c.in-Sequence.is) (sequence_viewed c.in_ok-components-in-OpenBrace.components) sign
    (taken _ _ c.in-OpenBrace.is tt c.in_ok-take_token.ensures.moves) c.in_ok-components-in-OpenBrace.ensures.ok

pub read_members-returns-in-OpenBrace-clause-ok : goal.read_members-returns-in-OpenBrace-clause-ok
read_members-returns-in-OpenBrace-clause-ok t c =
    let sign = ap token_view (sym c.in-OpenBrace.is) ∙ c.in_ok-take_token.ensures.found in
    braced_as _ _ (kind_view c.args.kind) SeqKind.set c.args.cursor.now.rest c.take_token.new.cursor.rest _ _ _ (ap kind_view c.in-Set.is) (set_viewed c.in_ok-components-in-OpenBrace.components) sign
    (taken _ _ c.in-OpenBrace.is tt c.in_ok-take_token.ensures.moves) c.in_ok-components-in-OpenBrace.ensures.ok

pub read_members-returns-in-Sequence-kind-clause-ok : goal.read_members-returns-in-Sequence-kind-clause-ok
read_members-returns-in-Sequence-kind-clause-ok t c =
    let word = ap token_view (sym c.in-Word.is) ∙ c.in_ok-take_token.ensures.found in
    let of_word : keyword_at c.args.cursor.now.rest ≡ Some keyword.Of =
    ap (λ x. keyword_of (word_of x)) (sym word) ∙ ap keyword_named (sym c.deref.ensures) ∙ sym c.named.ensures ∙ c.in-Some-Of.is ∙ ap (λ x. Some x) c.in-Some-Of.field-0-is in
    listed_as _ _ (kind_view c.args.kind) SeqKind.sequence c.args.cursor.now.rest c.take_token.new.cursor.rest _ (notation_view c.in_ok-read_notation-in-Some-Of.field-0) _ (ap kind_view c.in-Sequence-kind.is)
    (sequence_of_viewed c.in_ok-element-in-Some-Of.element ∙ ap (λ x. list_of SeqKind.sequence (notation_view x)) c.in_ok-element-in-Some-Of.ensures.ok) of_word (taken _ _ c.in-Word.is tt c.in_ok-take_token.ensures.moves) c.in_ok-read_notation-in-Some-Of.ensures.ok

pub read_members-returns-in-Some-Of-clause-ok : goal.read_members-returns-in-Some-Of-clause-ok
read_members-returns-in-Some-Of-clause-ok t c =
    let word = ap token_view (sym c.in-Word.is) ∙ c.in_ok-take_token.ensures.found in
    let of_word : keyword_at c.args.cursor.now.rest ≡ Some keyword.Of =
    ap (λ x. keyword_of (word_of x)) (sym word) ∙ ap keyword_named (sym c.deref.ensures) ∙ sym c.named.ensures ∙ c.in-Some-Of.is ∙ ap (λ x. Some x) c.in-Some-Of.field-0-is in
    listed_as _ _ (kind_view c.args.kind) SeqKind.set c.args.cursor.now.rest c.take_token.new.cursor.rest _ (notation_view c.in_ok-read_notation-in-Some-Of.field-0) _ (ap kind_view c.in-Set-kind.is)
    (set_of_viewed c.in_ok-element-in-Some-Of.element ∙ ap (λ x. list_of SeqKind.set (notation_view x)) c.in_ok-element-in-Some-Of.ensures.ok) of_word (taken _ _ c.in-Word.is tt c.in_ok-take_token.ensures.moves) c.in_ok-read_notation-in-Some-Of.ensures.ok

pub read_notation-returns-in-Whole-clause-ok : goal.read_notation-returns-in-Whole-clause-ok
read_notation-returns-in-Whole-clause-ok t c =
    let first = ap start_view (sym c.in-Whole.is) ∙ c.in_ok-notation.ensures.found in
    notation_whole _ _ c.args.cursor.now.rest _ _ (omega arith) first (started _ _ c.in-Whole.is (λ h. cc) c.in_ok-notation.ensures.moves)

pub read_notation-returns-then-branch-clause-ok : goal.read_notation-returns-then-branch-clause-ok
read_notation-returns-then-branch-clause-ok t c =
    let first = ap start_view (sym c.in-Pair.is) ∙ c.in_ok-notation.ensures.found in
    notation_pair _ _ c.args.cursor.now.rest c.take_start.new.cursor.rest _ c.in-Pair.second _ (omega arith) first (started _ _ c.in-Pair.is (λ h. cc) c.in_ok-notation.ensures.moves)
    (c.takes_keyword.ensures.yes (grind (arith, common_steps))) (c.takes_keyword.ensures.moves (grind (arith, common_steps)))

pub read_notation-returns-else-branch-clause-none : goal.read_notation-returns-else-branch-clause-none
read_notation-returns-else-branch-clause-none t c = λ e n rest p.
    let first = ap start_view (sym c.in-Pair.is) ∙ c.in_ok-notation.ensures.found in
    pair_none _ _ c.args.cursor.now.rest c.take_start.new.cursor.rest c.in-Pair.second _ first (started _ _ c.in-Pair.is (λ h. cc) c.in_ok-notation.ensures.moves)
    (c.takes_keyword.ensures.no (grind (arith, common_steps))) n rest p

pub read_notation-returns-in-Members-clause-ok : goal.read_notation-returns-in-Members-clause-ok
read_notation-returns-in-Members-clause-ok t c =
    let first = ap start_view (sym c.in-Members.is) ∙ c.in_ok-notation.ensures.found in
    members_result _ _ (c.args.level + 1) c.args.cursor.now.rest c.take_start.new.cursor.rest _ (kind_view c.in-Members.kind) c.read_members.result (omega arith) (add-one c.args.level) first
    (started _ _ c.in-Members.is (λ h. cc) c.in_ok-notation.ensures.moves) c.read_members.ensures.ok

pub read_notation-returns-in-Members-clause-none : goal.read_notation-returns-in-Members-clause-none
read_notation-returns-in-Members-clause-none t c = λ e n rest p.
    let first = ap start_view (sym c.in-Members.is) ∙ c.in_ok-notation.ensures.found in
    members_none _ _ (c.args.level + 1) c.args.cursor.now.rest c.take_start.new.cursor.rest (kind_view c.in-Members.kind) (add-one c.args.level) first
    (started _ _ c.in-Members.is (λ h. cc) c.in_ok-notation.ensures.moves) (c.read_members.ensures.none e) n rest p

pub read_notation-returns-in_ok-alternatives-in-Choice-clause-ok : goal.read_notation-returns-in_ok-alternatives-in-Choice-clause-ok
read_notation-returns-in_ok-alternatives-in-Choice-clause-ok t c =
    let first = ap start_view (sym c.in-Choice.is) ∙ c.in_ok-notation.ensures.found in
    subst (λ x. NotationParses 64 c.args.level c.args.cursor.now.rest x c.read_components.new.cursor.rest) (sym (choice_viewed c.in_ok-alternatives-in-Choice.alternatives))
    (notation_choice _ _ (c.args.level + 1) c.args.cursor.now.rest c.take_start.new.cursor.rest c.take_opening_brace.new.cursor.rest _ _ (omega arith) (add-one c.args.level) first
    (started _ _ c.in-Choice.is (λ h. cc) c.in_ok-notation.ensures.moves) c.in_ok-take_opening_brace-in-Choice.ensures.ok c.in_ok-take_opening_brace-in-Choice.ensures.moves c.in_ok-alternatives-in-Choice.ensures.ok)

pub read_notation-returns-in_ok-root-in-Enumerated-clause-ok : goal.read_notation-returns-in_ok-root-in-Enumerated-clause-ok
read_notation-returns-in_ok-root-in-Enumerated-clause-ok t c =
    let first = ap start_view (sym c.in-Enumerated.is) ∙ c.in_ok-notation.ensures.found in
    let items = c.in_ok-root-in-Enumerated.field-0 in
    subst (λ x. NotationParses 64 c.args.level c.args.cursor.now.rest x c.read_items.new.cursor.rest) (sym (enumerated_viewed items.root items.added))
    (notation_enumerated _ _ c.args.cursor.now.rest c.take_start.new.cursor.rest c.take_opening_brace-in-Enumerated.new.cursor.rest _ _ (omega arith) first
    (started _ _ c.in-Enumerated.is (λ h. cc) c.in_ok-notation.ensures.moves) c.in_ok-take_opening_brace-in-Enumerated.ensures.ok c.in_ok-take_opening_brace-in-Enumerated.ensures.moves c.in_ok-root-in-Enumerated.ensures.ok)

pub read_components-returns-then-take_closing_brace-clause-ok : goal.read_components-returns-then-take_closing_brace-clause-ok
read_components-returns-then-take_closing_brace-clause-ok t c =
    let es = c.new-elements.result in
    empty_list _ _ _ _ _ _ (c.take_closing_brace.ensures.yes c.if-take_closing_brace.true) (c.take_closing_brace.ensures.moves c.if-take_closing_brace.true)
    (components_viewed es.root es.added ∙ no_entries_seen component_view marker es c.new-elements.ensures)

pub read_components-elements-init : goal.read_components-elements-init
read_components-elements-init t c =
    (going_start is_marker (ElementsParse 64 c.args.level c.args.allowed) _ _ (elements_read c.new-elements.result) refl (no_entries_seen component_view marker c.new-elements.result c.new-elements.ensures), omega arith)

pub read_components-returns-in_err-read_element-clause-none : goal.read_components-returns-in_err-read_element-clause-none
read_components-returns-in_err-read_element-clause-none t c = λ e es rest p.
    let stays = c.take_closing_brace.ensures.stays c.if-take_closing_brace.false in
    no_list (c.take_closing_brace.ensures.no c.if-take_closing_brace.false) stays c.elements.invariant.0 (c.read_element.ensures.none (grind (arith, common_steps))) es rest p

pub read_components-elements-preserved : goal.read_components-elements-preserved
read_components-elements-preserved t c =
    let x = c.in_ok-read_element.ensures.ok in (
      subst (λ z. Going is_marker (ElementsParse 64 c.args.level c.args.allowed) c.take_closing_brace.new.cursor.rest c.read_element.new.cursor.rest z) (sym x.3)
          (going_next (elements_run 64 c.args.level c.args.allowed) c.elements.invariant.0
          (subst (λ y. ElementParses 64 c.args.level c.args.allowed c.elements.cursor.rest x.0 y c.read_element.new.cursor.rest) c.if-branch.true x.1) x.2),
      omega (arith, c.elements.invariant.1, c.in_ok-read_element.ensures.shorter),
    )

pub read_components-returns-clause-ok : goal.read_components-returns-clause-ok
read_components-returns-clause-ok t c =
    let x = c.in_ok-read_element.ensures.ok in
    let es = c.read_element.new.elements in
    element_list x.0 (c.take_closing_brace.ensures.stays c.if-take_closing_brace.false) c.elements.invariant.0 x.1 c.if-branch.false x.2 (components_viewed es.root es.added ∙ x.3)
