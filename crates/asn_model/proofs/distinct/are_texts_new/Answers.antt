use Rattle.std.proofs.Common.{refl, sym, ◌∙◌, arith}
use Rattle.asn_model.proofs.Repeats.{none_new, one_new, one_known, all_new, differ_distinct, same_text, same_text_symm}
use Rattle.asn_model.proofs.distinct.are_texts_new.Goals as goal

pub loop-text-init : goal.loop-text-init
loop-text-init c = none_new same_text same_text_symm c.new-seen.result c.args.texts.now c.new-seen.ensures.empty

pub loop-text-preserved : goal.loop-text-preserved
loop-text-preserved c =
    one_new same_text same_text_symm c.loop-text.seen c.insert.new.self c.args.texts.now c.loop-text.text-index _ _ c.in_ok-is_new.is_new c.loop-text-test.true refl c.loop-text.invariant
    c.in_ok-is_new.ensures.added c.if-not-is_new.false c.in_ok-is_new.ensures.updates

pub returns-then-not-is_new : goal.returns-then-not-is_new
returns-then-not-is_new c =
    sym (sym (differ_distinct c.args.texts.now)
    ∙ one_known same_text same_text_symm c.loop-text.seen c.args.texts.now c.loop-text.text-index _ _ c.in_ok-is_new.is_new c.loop-text-test.true refl c.loop-text.invariant c.in_ok-is_new.ensures.added c.if-not-is_new.true)

pub returns : goal.returns
returns c =
    sym (sym (differ_distinct c.args.texts.now) ∙ all_new same_text same_text_symm c.loop-text.seen c.args.texts.now c.loop-text.text-index (omega (arith, c.loop-text-test.false)) c.loop-text.invariant)
