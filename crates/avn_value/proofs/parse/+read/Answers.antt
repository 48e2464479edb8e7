use Rattle.std.proofs.Common.{true, false, ◌≡◌, ◌≢◌, inl, inr, ℕ, List, ◌<◌, length, arith, ap, sym, refl, subst, ◌∙◌}
use Rattle.std.proofs.lemmas.Grind.{common_steps}
use Rattle.avn_grammar.specs.declared.chars.CharClass.TheVariants as is
use Rattle.avn_grammar.proofs.DeepParses.{number_close as number-close, number_comma as number-comma}
use Rattle.avn_grammar.proofs.Refusals.{choice_none, braces_none, other_none}
use Rattle.avn_grammar.proofs.Runs.{skip-le}
use Rattle.avn_grammar.specs.Chars.{class_of_next, skip, tail, utf8_of}
use Rattle.avn_grammar.specs.Depth.{too_deep, deep_here}
use Rattle.avn_grammar.specs.Grammar.{Ident, ItemParses, ComesAfterWord, BeginsNumber, named, word}
use Rattle.avn_grammar.specs.Tree.{choice, sequence_of, no_trees}
use Rattle.avn_value.proofs.NoToken.{lead_token}
use Rattle.avn_value.proofs.NotDeep.{stopped_deep}
use Rattle.avn_cursor.proofs.Steps.{ident-shorter, tail-le, value_choice, value_word, value_empty, value_braces, item_choice, item_word, item_field, item_value, braces_along, payload_deep, braces_deep, choice_deep, field_deep, value_deep, items_deep_along}
use Rattle.avn_nodes.proofs.Extending.{word-integer, extended-no_trees}
use Rattle.avn_value.proofs.Readings.{value_read, item_read}
use Rattle.avn_value.proofs.Maps.{going_comma, going_number, closed, unclosed, not_going, choice_closed, word_closed, field_closed}
use Rattle.avn_value.proofs.parse.+read.Goals as goal

-- An identifier was passed.
word_shorter : (u w id r n : List ℕ) → w ≡ skip u → Ident w id r → n ≡ r → length n < length u
word_shorter u w id r n e i f = omega (arith, ident-shorter w id r i, skip-le u, ap (λ (x : List ℕ). length x) e, ap (λ (x : List ℕ). length x) f)

pub read_item-returns-in_err-integer-in_default-clause-deep : goal.read_item-returns-in_err-integer-in_default-clause-deep
read_item-returns-in_err-integer-in_default-clause-deep t c = λ e.
    let at : c.class_of_next.new.self.rest ≡ skip c.args.cursor.now.rest = cc in
    let first : class_of_next c.class_of_next.new.self.rest ≢ is.Letter = λ h. c.in_default.not-Letter (c.class_of_next.ensures.found ∙ ap class_of_next (sym c.class_of_next.ensures.stays) ∙ h) in
    value_deep c.args.limit c.args.level _ c.class_of_next.new.self.rest at c.class_of_next.new.self.rest refl first (c.read_value.ensures.deep (grind (arith, common_steps)))

pub read_item-returns-in_default-clause-ok : goal.read_item-returns-in_default-clause-ok
read_item-returns-in_default-clause-ok t c =
    let at : c.class_of_next.new.self.rest ≡ skip c.args.cursor.now.rest = cc in
    let first : class_of_next c.class_of_next.new.self.rest ≢ is.Letter = λ h. c.in_default.not-Letter (c.class_of_next.ensures.found ∙ ap class_of_next (sym c.class_of_next.ensures.stays) ∙ h) in
    let k = c.in_ok-integer-in_default.ensures.ok in
    item_read {P = λ x. ItemParses c.args.limit c.args.level c.args.cursor.now.rest x c.read_value.new.cursor.rest} c.args.nodes.now c.read_value.new.nodes _ k.0 _ c.requires.nameless c.of.ensures k.2 k.3 (item_value c.args.limit c.args.level _ c.class_of_next.new.self.rest at c.class_of_next.new.self.rest _ k.0 refl first k.1)

pub read_item-returns-in_default-clause-shorter : goal.read_item-returns-in_default-clause-shorter
read_item-returns-in_default-clause-shorter t c =
    let at : c.class_of_next.new.self.rest ≡ skip c.args.cursor.now.rest = cc in
    omega (arith, c.in_ok-integer-in_default.ensures.shorter, skip-le c.args.cursor.now.rest, ap (λ (x : List ℕ). length x) at)

pub read_item-returns-in_err-_integer-in-Colon-clause-deep : goal.read_item-returns-in_err-_integer-in-Colon-clause-deep
read_item-returns-in_err-_integer-in-Colon-clause-deep t c = λ e.
    let at : c.class_of_next.new.self.rest ≡ skip c.args.cursor.now.rest = cc in
    let i = c.in_ok-identifier.ensures.ok in
    let colon : class_of_next (skip c.identifier.new.cursor.rest) ≡ is.Colon = cc in
    let z : c.take-colon.new.self.rest ≡ tail (skip c.identifier.new.cursor.rest) = cc in
    choice_deep c.args.limit c.args.level _ c.class_of_next.new.self.rest at i.0 c.identifier.new.cursor.rest c.take-colon.new.self.rest i.1 colon z (c.read_value-in-Colon.ensures.deep (grind (arith, common_steps)))

pub read_item-returns-in_err-_integer-in_default-class_after_blanks-clause-deep : goal.read_item-returns-in_err-_integer-in_default-class_after_blanks-clause-deep
read_item-returns-in_err-_integer-in_default-class_after_blanks-clause-deep t c = λ e.
    let at : c.class_of_next.new.self.rest ≡ skip c.args.cursor.now.rest = cc in
    let i = c.in_ok-identifier.ensures.ok in
    let d = c.in_default-class_after_blanks in
    let f = c.class_after_blanks.ensures in
    field_deep c.args.limit c.args.level _ c.class_of_next.new.self.rest at i.0 c.identifier.new.cursor.rest c.class_after_blanks.new.self.rest i.1 (λ h. d.not-Colon (f.found ∙ h)) (λ h. d.not-Comma (f.found ∙ h)) (λ h. d.not-CloseBrace (f.found ∙ h)) f.stays (c.read_value-in_default-class_after_blanks.ensures.deep (grind (arith, common_steps)))

pub read_item-returns-in_ok-_integer-in-Colon-clause-ok : goal.read_item-returns-in_ok-_integer-in-Colon-clause-ok
read_item-returns-in_ok-_integer-in-Colon-clause-ok t c =
    let at : c.class_of_next.new.self.rest ≡ skip c.args.cursor.now.rest = cc in
    let i = c.in_ok-identifier.ensures.ok in
    let colon : class_of_next (skip c.identifier.new.cursor.rest) ≡ is.Colon = cc in
    let z : c.take-colon.new.self.rest ≡ tail (skip c.identifier.new.cursor.rest) = cc in
    let k = c.in_ok-_integer-in-Colon.ensures.ok in
    item_read {P = λ x. ItemParses c.args.limit c.args.level c.args.cursor.now.rest x c.read_value-in-Colon.new.cursor.rest} c.args.nodes.now c.close.new.self _ (choice (utf8_of i.0) k.0) false c.requires.nameless refl refl (choice_closed c.args.nodes.now _ _ _ _ i.0 k.0 _ i.2 c.len-place.ensures c.in_ok-open-in-Colon.ensures k.3 c.close.ensures)
    (item_choice c.args.limit c.args.level _ c.class_of_next.new.self.rest at c.identifier.new.cursor.rest c.take-colon.new.self.rest _ i.0 _ _ _ _ i.1 colon z k.1 refl refl refl)

pub read_item-returns-in_ok-word_leaf-in-Comma-clause-ok : goal.read_item-returns-in_ok-word_leaf-in-Comma-clause-ok
read_item-returns-in_ok-word_leaf-in-Comma-clause-ok t c =
    let at : c.class_of_next.new.self.rest ≡ skip c.args.cursor.now.rest = cc in
    let i = c.in_ok-identifier.ensures.ok in
    let follows : ComesAfterWord (class_of_next (skip c.identifier.new.cursor.rest)) = subst ComesAfterWord c.class_after_blanks.ensures.found c.in-Comma.is in
    item_read {P = λ x. ItemParses c.args.limit c.args.level c.args.cursor.now.rest x c.class_after_blanks.new.self.rest} c.args.nodes.now c.word_leaf.new.self _ (word i.0) false c.requires.nameless refl (sym (word-integer (utf8_of i.0))) (word_closed c.args.nodes.now _ _ i.0 i.2 c.in_ok-word_leaf-in-Comma.ensures)
    (item_word c.args.limit c.args.level _ c.class_of_next.new.self.rest at c.identifier.new.cursor.rest c.class_after_blanks.new.self.rest i.0 _ _ i.1 follows c.class_after_blanks.ensures.stays refl refl)

pub read_item-returns-in_ok-word_leaf-in-Comma-clause-shorter : goal.read_item-returns-in_ok-word_leaf-in-Comma-clause-shorter
read_item-returns-in_ok-word_leaf-in-Comma-clause-shorter t c =
    let at : c.class_of_next.new.self.rest ≡ skip c.args.cursor.now.rest = cc in
    word_shorter _ c.class_of_next.new.self.rest _ _ _ at c.in_ok-identifier.ensures.ok.1 c.class_after_blanks.ensures.stays

pub read_item-returns-in_ok-_integer-in_default-class_after_blanks-clause-ok : goal.read_item-returns-in_ok-_integer-in_default-class_after_blanks-clause-ok
read_item-returns-in_ok-_integer-in_default-class_after_blanks-clause-ok t c =
    let at : c.class_of_next.new.self.rest ≡ skip c.args.cursor.now.rest = cc in
    let i = c.in_ok-identifier.ensures.ok in
    let d = c.in_default-class_after_blanks in
    let f = c.class_after_blanks.ensures in
    let k = c.in_ok-_integer-in_default-class_after_blanks.ensures.ok in (
      named (utf8_of i.0) k.0,
      item_field c.args.limit c.args.level _ c.class_of_next.new.self.rest at c.identifier.new.cursor.rest c.class_after_blanks.new.self.rest _ i.0 _ _ i.1 (λ h. d.not-Colon (f.found ∙ h)) (λ h. d.not-Comma (f.found ∙ h))
          (λ h. d.not-CloseBrace (f.found ∙ h)) f.stays k.1 refl,
      refl,
      field_closed c.args.nodes.now _ _ _ i.0 k.0 i.2 c.name_next.ensures k.3,
    )

pub read_item-returns-in_ok-_integer-in_default-class_after_blanks-clause-shorter : goal.read_item-returns-in_ok-_integer-in_default-class_after_blanks-clause-shorter
read_item-returns-in_ok-_integer-in_default-class_after_blanks-clause-shorter t c =
    let at : c.class_of_next.new.self.rest ≡ skip c.args.cursor.now.rest = cc in
    let i = c.in_ok-identifier.ensures.ok in
    let less = word_shorter c.args.cursor.now.rest c.class_of_next.new.self.rest i.0 c.identifier.new.cursor.rest c.class_after_blanks.new.self.rest at i.1 c.class_after_blanks.ensures.stays in
    omega (arith, less, c.in_ok-_integer-in_default-class_after_blanks.ensures.shorter)

pub read_items-returns-in_err-entry-clause-deep : goal.read_items-returns-in_err-entry-clause-deep
read_items-returns-in_err-entry-clause-deep t c = λ e.
    c.items.invariant.0.deeper (deep_here (c.read_item.ensures.deep (grind (arith, common_steps))))

pub read_items-items-preserved-in-Comma : goal.read_items-items-preserved-in-Comma
read_items-items-preserved-in-Comma t c =
    let k = c.items in
    let x = c.in_ok-entry.ensures.ok in
    let comma : class_of_next (skip c.read_item.new.cursor.rest) ≡ is.Comma = cc in
    let next : c.take-comma.new.self.rest ≡ tail (skip c.read_item.new.cursor.rest) = cc in (
      going_comma c.args.limit c.args.level c.args.cursor.now.rest k.cursor.rest c.read_item.new.cursor.rest k.gathered c.add.new.self _ k.nodes c.read_item.new.nodes x.0 k.invariant.0 x.1 (λ before h. c.add.ensures before x.0 x.2 h) x.3
          c.take-comma.new.self.rest next (omega (arith, c.in_ok-entry.ensures.shorter, tail-le (skip c.read_item.new.cursor.rest), skip-le c.read_item.new.cursor.rest, ap (λ (x : List ℕ). length x) next)) comma,
      grind (arith, common_steps),
      k.invariant.2,
    )

pub read_items-returns-in-Some-clause-ok : goal.read_items-returns-in-Some-clause-ok
read_items-returns-in-Some-clause-ok t c =
    let k = c.items in
    let x = c.in_ok-entry.ensures.ok in
    let brace : class_of_next (skip c.read_item.new.cursor.rest) ≡ is.CloseBrace = cc in
    let next : c.take-close.new.self.rest ≡ tail (skip c.read_item.new.cursor.rest) = cc in
    closed c.args.limit c.args.level c.args.cursor.now.rest k.cursor.rest c.read_item.new.cursor.rest k.gathered c.add.new.self _ k.nodes c.read_item.new.nodes x.0 k.invariant.0 x.1 (λ before h. c.add.ensures before x.0 x.2 h) x.3
    c.args.nodes.now c.close.new.self c.in-Some.kind _ c.take-close.new.self.rest refl k.invariant.2 next brace c.in-Some.ensures.some c.close.ensures

pub read_items-returns-in-None-clause-token : goal.read_items-returns-in-None-clause-token
read_items-returns-in-None-clause-token t c = λ e d.
    let brace : class_of_next (skip c.read_item.new.cursor.rest) ≡ is.CloseBrace = cc in
    stopped_deep c.in_ok-entry.ensures.ok.1 (λ h. let n : ⊥ = cc in n) (λ b i. number-close _ b brace) (c.items.invariant.0.shallower d)

pub read_items-returns-in-None-clause-none : goal.read_items-returns-in-None-clause-none
read_items-returns-in-None-clause-none t c = λ e.
    let k = c.items in
    let x = c.in_ok-entry.ensures.ok in
    let brace : class_of_next (skip c.read_item.new.cursor.rest) ≡ is.CloseBrace = cc in
    unclosed c.args.limit c.args.level c.args.cursor.now.rest k.cursor.rest c.read_item.new.cursor.rest k.gathered c.add.new.self _ k.nodes c.read_item.new.nodes x.0 k.invariant.0 x.1 (λ before h. c.add.ensures before x.0 x.2 h) x.3
    brace c.in-None.ensures.none

pub read_items-returns-then-not-gathered-clause-token : goal.read_items-returns-then-not-gathered-clause-token
read_items-returns-then-not-gathered-clause-token t c = λ e d.
    let f : c.class_of_next.result ≡ class_of_next (skip c.read_item.new.cursor.rest) = c.class_of_next.ensures.found ∙ ap class_of_next c.skip.ensures.moves in
    let digit : BeginsNumber (class_of_next (skip c.read_item.new.cursor.rest)) = subst BeginsNumber f c.in-Digit.is in
    let g = c.items.invariant.0 in
    let x = c.in_ok-entry.ensures.ok in
    let n : c.add.new.self.integers ≢ true = λ h. grind (arith, common_steps) in
    stopped_deep x.1 (λ h. number-comma _ digit h) (λ b i. n ((c.add.ensures g.before x.0 x.2 g.holds).only_integers i)) (g.shallower d)

pub read_items-returns-then-not-gathered-clause-none : goal.read_items-returns-then-not-gathered-clause-none
read_items-returns-then-not-gathered-clause-none t c = λ e.
    let k = c.items in
    let x = c.in_ok-entry.ensures.ok in
    let f : c.class_of_next.result ≡ class_of_next (skip c.read_item.new.cursor.rest) = c.class_of_next.ensures.found ∙ ap class_of_next c.skip.ensures.moves in
    let digit : BeginsNumber (class_of_next (skip c.read_item.new.cursor.rest)) = subst BeginsNumber f c.in-Digit.is in
    not_going c.args.limit c.args.level c.args.cursor.now.rest k.cursor.rest c.read_item.new.cursor.rest k.gathered c.add.new.self _ k.nodes c.read_item.new.nodes x.0 k.invariant.0 x.1 (λ before h. c.add.ensures before x.0 x.2 h) x.3
    (λ h. number-close _ digit h) (λ h. number-comma _ digit h) (λ d h. grind (arith, common_steps))

pub read_items-items-preserved : goal.read_items-items-preserved
read_items-items-preserved t c =
    let k = c.items in
    let x = c.in_ok-entry.ensures.ok in
    let digit : BeginsNumber (class_of_next (skip c.read_item.new.cursor.rest)) = subst BeginsNumber (c.class_of_next.ensures.found ∙ ap class_of_next c.skip.ensures.moves) c.in-Digit.is in
    let next : c.class_of_next.new.self.rest ≡ skip c.read_item.new.cursor.rest = cc in (
      going_number c.args.limit c.args.level c.args.cursor.now.rest k.cursor.rest c.read_item.new.cursor.rest k.gathered c.add.new.self _ k.nodes c.read_item.new.nodes x.0 k.invariant.0 x.1 (λ before h. c.add.ensures before x.0 x.2 h) x.3
          c.class_of_next.new.self.rest next (omega (arith, c.in_ok-entry.ensures.shorter, skip-le c.read_item.new.cursor.rest, ap (λ (x : List ℕ). length x) next)) digit (grind (arith, common_steps)),
      grind (arith, common_steps),
      k.invariant.2,
    )

pub read_items-returns-in_default-clause-token : goal.read_items-returns-in_default-clause-token
read_items-returns-in_default-clause-token t c = λ e v.
    let f : c.class_of_next.result ≡ class_of_next (skip c.read_item.new.cursor.rest) = c.class_of_next.ensures.found ∙ ap class_of_next c.skip.ensures.moves in
    let d = c.in_default in
    stopped_deep c.in_ok-entry.ensures.ok.1 (λ h. d.not-Comma (f ∙ h)) (λ b i. elim b [ inl x ↦ d.not-Digit (f ∙ x) | inr x ↦ d.not-Minus (f ∙ x) ]) (c.items.invariant.0.shallower v)

pub read_items-returns-in_default-clause-none : goal.read_items-returns-in_default-clause-none
read_items-returns-in_default-clause-none t c = λ e.
    let k = c.items in
    let x = c.in_ok-entry.ensures.ok in
    let f : c.class_of_next.result ≡ class_of_next (skip c.read_item.new.cursor.rest) = c.class_of_next.ensures.found ∙ ap class_of_next c.skip.ensures.moves in
    let d = c.in_default in
    not_going c.args.limit c.args.level c.args.cursor.now.rest k.cursor.rest c.read_item.new.cursor.rest k.gathered c.add.new.self _ k.nodes c.read_item.new.nodes x.0 k.invariant.0 x.1 (λ before h. c.add.ensures before x.0 x.2 h) x.3
    (λ h. d.not-CloseBrace (f ∙ h)) (λ h. d.not-Comma (f ∙ h)) (λ b h. elim b [ inl x ↦ d.not-Digit (f ∙ x) | inr x ↦ d.not-Minus (f ∙ x) ])

pub read_value-returns-then-level-limit-clause-deep : goal.read_value-returns-then-level-limit-clause-deep
read_value-returns-then-level-limit-clause-deep t c = λ e.
    too_deep (omega arith)

pub read_value-returns-in_err-_integer-in-Colon-clause-deep : goal.read_value-returns-in_err-_integer-in-Colon-clause-deep
read_value-returns-in_err-_integer-in-Colon-clause-deep t c = λ e.
    let at : c.class_of_next.new.self.rest ≡ skip c.args.cursor.now.rest = cc in
    let i = c.in_ok-identifier-in-Letter.ensures.ok in
    let colon : class_of_next (skip c.identifier.new.cursor.rest) ≡ is.Colon = cc in
    let z : c.take-colon.new.self.rest ≡ tail (skip c.identifier.new.cursor.rest) = cc in
    payload_deep c.args.limit c.args.level _ c.class_of_next.new.self.rest at i.0 c.identifier.new.cursor.rest c.take-colon.new.self.rest (omega arith) i.1 colon z (c.read_value.ensures.deep (grind (arith, common_steps)))

pub read_value-returns-in_err-_integer-in-Colon-clause-none : goal.read_value-returns-in_err-_integer-in-Colon-clause-none
read_value-returns-in_err-_integer-in-Colon-clause-none t c = λ e.
    let at : c.class_of_next.new.self.rest ≡ skip c.args.cursor.now.rest = cc in
    let i = c.in_ok-identifier-in-Letter.ensures.ok in
    let colon : class_of_next (skip c.identifier.new.cursor.rest) ≡ is.Colon = cc in
    let z : c.take-colon.new.self.rest ≡ tail (skip c.identifier.new.cursor.rest) = cc in
    choice_none c.args.limit c.args.level _ c.class_of_next.new.self.rest at i.0 c.identifier.new.cursor.rest c.take-colon.new.self.rest i.1 colon z (c.read_value.ensures.none (grind (arith, common_steps)))

pub read_value-returns-in_err-read_items-in_default-class_after_blanks-2-clause-deep : goal.read_value-returns-in_err-read_items-in_default-class_after_blanks-2-clause-deep
read_value-returns-in_err-read_items-in_default-class_after_blanks-2-clause-deep t c = λ e.
    let at : c.class_of_next.new.self.rest ≡ skip c.args.cursor.now.rest = cc in
    let first : class_of_next c.class_of_next.new.self.rest ≡ is.OpenBrace = cc in
    let f = c.class_after_blanks-in-OpenBrace.ensures in
    braces_deep c.args.limit c.args.level _ c.class_of_next.new.self.rest at c.take-open.new.self.rest (omega arith) first c.take-open.ensures.moves (λ h. c.in_default-class_after_blanks-2.not-CloseBrace (f.found ∙ h))
    (items_deep_along _ _ _ _ f.stays (c.read_items.ensures.deep (grind (arith, common_steps))))

pub read_value-returns-in_err-read_items-in_default-class_after_blanks-2-clause-none : goal.read_value-returns-in_err-read_items-in_default-class_after_blanks-2-clause-none
read_value-returns-in_err-read_items-in_default-class_after_blanks-2-clause-none t c = λ e.
    let at : c.class_of_next.new.self.rest ≡ skip c.args.cursor.now.rest = cc in
    let first : class_of_next c.class_of_next.new.self.rest ≡ is.OpenBrace = cc in
    let f = c.class_after_blanks-in-OpenBrace.ensures in
    braces_none c.args.limit c.args.level _ c.class_of_next.new.self.rest at c.take-open.new.self.rest first c.take-open.ensures.moves (λ h. c.in_default-class_after_blanks-2.not-CloseBrace (f.found ∙ h))
    (λ t n b. c.read_items.ensures.none (grind (arith, common_steps)) t n (braces_along _ _ _ _ _ _ (sym f.stays) b))

pub read_value-returns-in_ok-_integer-in-Colon-clause-ok : goal.read_value-returns-in_ok-_integer-in-Colon-clause-ok
read_value-returns-in_ok-_integer-in-Colon-clause-ok t c =
    let at : c.class_of_next.new.self.rest ≡ skip c.args.cursor.now.rest = cc in
    let i = c.in_ok-identifier-in-Letter.ensures.ok in
    let colon : class_of_next (skip c.identifier.new.cursor.rest) ≡ is.Colon = cc in
    let z : c.take-colon.new.self.rest ≡ tail (skip c.identifier.new.cursor.rest) = cc in
    let k = c.in_ok-_integer-in-Colon.ensures.ok in (
      choice (utf8_of i.0) k.0,
      value_choice c.args.limit c.args.level _ c.class_of_next.new.self.rest at c.identifier.new.cursor.rest c.take-colon.new.self.rest _ i.0 _ _ _ _ (omega arith) i.1 colon z k.1 refl refl refl,
      refl,
      choice_closed c.args.nodes.now _ _ _ _ i.0 k.0 _ i.2 c.len-place.ensures c.in_ok-open-in-Colon.ensures k.3 c.close.ensures,
    )

pub read_value-returns-in_ok-word_leaf-in_default-class_after_blanks-clause-ok : goal.read_value-returns-in_ok-word_leaf-in_default-class_after_blanks-clause-ok
read_value-returns-in_ok-word_leaf-in_default-class_after_blanks-clause-ok t c =
    let at : c.class_of_next.new.self.rest ≡ skip c.args.cursor.now.rest = cc in
    let i = c.in_ok-identifier-in-Letter.ensures.ok in
    let f = c.class_after_blanks.ensures in (
      word i.0,
      value_word c.args.limit c.args.level _ c.class_of_next.new.self.rest at c.identifier.new.cursor.rest c.class_after_blanks.new.self.rest i.0 _ _ (omega arith) i.1 (λ h. c.in_default-class_after_blanks.not-Colon (f.found ∙ h)) f.stays refl refl,
      sym (word-integer (utf8_of i.0)),
      word_closed c.args.nodes.now _ _ i.0 i.2 c.in_ok-word_leaf-in_default-class_after_blanks.ensures,
    )

pub read_value-returns-in_ok-word_leaf-in_default-class_after_blanks-clause-shorter : goal.read_value-returns-in_ok-word_leaf-in_default-class_after_blanks-clause-shorter
read_value-returns-in_ok-word_leaf-in_default-class_after_blanks-clause-shorter t c =
    let at : c.class_of_next.new.self.rest ≡ skip c.args.cursor.now.rest = cc in
    word_shorter _ c.class_of_next.new.self.rest _ _ _ at c.in_ok-identifier-in-Letter.ensures.ok.1 c.class_after_blanks.ensures.stays

pub read_value-returns-in_ok-leaf-in-CloseBrace-clause-ok : goal.read_value-returns-in_ok-leaf-in-CloseBrace-clause-ok
read_value-returns-in_ok-leaf-in-CloseBrace-clause-ok t c =
    let at : c.class_of_next.new.self.rest ≡ skip c.args.cursor.now.rest = cc in
    let first : class_of_next c.class_of_next.new.self.rest ≡ is.OpenBrace = cc in
    let close : class_of_next (skip c.take-open.new.self.rest) ≡ is.CloseBrace = cc in
    let next : c.take-close.new.self.rest ≡ tail (skip c.take-open.new.self.rest) = cc in (
      sequence_of no_trees,
      value_empty c.args.limit c.args.level _ c.class_of_next.new.self.rest at c.take-open.new.self.rest c.take-close.new.self.rest _ (omega arith) first c.take-open.ensures.moves close next refl,
      refl,
      c.in_ok-leaf-in-CloseBrace.ensures ∙ extended-no_trees c.args.nodes.now,
    )

pub read_value-returns-in_ok-read_items-in_default-class_after_blanks-2-clause-ok : goal.read_value-returns-in_ok-read_items-in_default-class_after_blanks-2-clause-ok
read_value-returns-in_ok-read_items-in_default-class_after_blanks-2-clause-ok t c =
    let at : c.class_of_next.new.self.rest ≡ skip c.args.cursor.now.rest = cc in
    let first : class_of_next c.class_of_next.new.self.rest ≡ is.OpenBrace = cc in
    let f = c.class_after_blanks-in-OpenBrace.ensures in
    let k = c.in_ok-read_items-in_default-class_after_blanks-2.ensures.ok in (
      k.0,
      value_braces c.args.limit c.args.level _ c.class_of_next.new.self.rest at c.take-open.new.self.rest _ _ (omega arith) first c.take-open.ensures.moves (λ h. c.in_default-class_after_blanks-2.not-CloseBrace (f.found ∙ h)) (braces_along _ _ _ _ _ _ f.stays k.1),
      k.2,
      k.3,
    )

pub read_value-returns-in_ok-read_items-in_default-class_after_blanks-2-clause-shorter : goal.read_value-returns-in_ok-read_items-in_default-class_after_blanks-2-clause-shorter
read_value-returns-in_ok-read_items-in_default-class_after_blanks-2-clause-shorter t c =
    let at : c.class_of_next.new.self.rest ≡ skip c.args.cursor.now.rest = cc in
    let f = c.class_after_blanks-in-OpenBrace.ensures in
    let k = c.in_ok-read_items-in_default-class_after_blanks-2.ensures in
    omega (arith, k.shorter, tail-le c.class_of_next.new.self.rest, skip-le c.args.cursor.now.rest, ap (λ (x : List ℕ). length x) at, ap (λ (x : List ℕ). length x) f.stays, ap (λ (x : List ℕ). length x) c.take-open.ensures.moves)

pub read_value-returns-in-Digit-clause-ok : goal.read_value-returns-in-Digit-clause-ok
read_value-returns-in-Digit-clause-ok t c =
    let at : c.class_of_next.new.self.rest ≡ skip c.args.cursor.now.rest = cc in
    value_read c.args.limit c.args.level _ c.class_of_next.new.self.rest _ at c.args.nodes.now c.number.new.nodes c.number.result (omega arith) c.number.ensures.ok

pub read_value-returns-in-Quote-clause-ok : goal.read_value-returns-in-Quote-clause-ok
read_value-returns-in-Quote-clause-ok t c =
    let at : c.class_of_next.new.self.rest ≡ skip c.args.cursor.now.rest = cc in
    value_read c.args.limit c.args.level _ c.class_of_next.new.self.rest _ at c.args.nodes.now c.text.new.nodes c.text.result (omega arith) c.text.ensures.ok

pub read_value-returns-in_default-clause-none : goal.read_value-returns-in_default-clause-none
read_value-returns-in_default-clause-none t c = λ e.
    let at : c.class_of_next.new.self.rest ≡ skip c.args.cursor.now.rest = cc in
    let f : c.class_of_next.result ≡ class_of_next c.class_of_next.new.self.rest = c.class_of_next.ensures.found ∙ ap class_of_next (sym c.class_of_next.ensures.stays) in
    let d = c.in_default in
    other_none c.args.limit c.args.level _ c.class_of_next.new.self.rest at (λ h. d.not-Letter (f ∙ h)) (λ h. d.not-OpenBrace (f ∙ h)) (λ t n k. lead_token (λ h. d.not-Digit (f ∙ h)) (λ h. d.not-Minus (f ∙ h)) (λ h. d.not-Quote (f ∙ h)) (λ h. d.not-Apostrophe (f ∙ h)) k)

pub read_value-returns-in-Apostrophe-clause-ok : goal.read_value-returns-in-Apostrophe-clause-ok
read_value-returns-in-Apostrophe-clause-ok t c =
    let at : c.class_of_next.new.self.rest ≡ skip c.args.cursor.now.rest = cc in
    value_read c.args.limit c.args.level _ c.class_of_next.new.self.rest _ at c.args.nodes.now c.quoted.new.nodes c.quoted.result (omega arith) c.quoted.ensures.ok
