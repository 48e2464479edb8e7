use Rattle.std.proofs.Common.{◌<◌, ◌≤◌, map, subst, sym, ◌∙◌, arith}
use Rattle.std.proofs.lemmas.List.{length-map}
use Rattle.asn_model.proofs.Repeats.{none_new, one_new, one_known, all_new, pair_at, pairs_distinct, same_pair, same_pair_symm, tag_pair}
use Rattle.asn_model.proofs.distinct.are_numbers_new.Goals as goal

pub loop-tag-init : goal.loop-tag-init
loop-tag-init c = none_new same_pair same_pair_symm c.new-seen.result (map tag_pair c.args.tags.now) c.new-seen.ensures.empty

pub loop-tag-preserved : goal.loop-tag-preserved
loop-tag-preserved c =
    one_new same_pair same_pair_symm c.loop-tag.seen c.insert.new.self (map tag_pair c.args.tags.now) c.loop-tag.tag-index _ _ c.in_ok-is_new.is_new
    (subst (λ n. c.loop-tag.tag-index < n) (sym (length-map c.args.tags.now tag_pair)) c.loop-tag-test.true) (pair_at c.args.tags.now c.loop-tag.tag-index _ c.class_number.result c.class_number.ensures) c.loop-tag.invariant
    c.in_ok-is_new.ensures.added c.if-not-is_new.false c.in_ok-is_new.ensures.updates

pub returns-then-not-is_new : goal.returns-then-not-is_new
returns-then-not-is_new c =
    sym (sym (pairs_distinct c.args.tags.now)
    ∙ one_known same_pair same_pair_symm c.loop-tag.seen (map tag_pair c.args.tags.now) c.loop-tag.tag-index _ _ c.in_ok-is_new.is_new
    (subst (λ n. c.loop-tag.tag-index < n) (sym (length-map c.args.tags.now tag_pair)) c.loop-tag-test.true) (pair_at c.args.tags.now c.loop-tag.tag-index _ c.class_number.result c.class_number.ensures) c.loop-tag.invariant
    c.in_ok-is_new.ensures.added c.if-not-is_new.true)

pub returns : goal.returns
returns c =
    sym (sym (pairs_distinct c.args.tags.now)
    ∙ all_new same_pair same_pair_symm c.loop-tag.seen (map tag_pair c.args.tags.now) c.loop-tag.tag-index
    (subst (λ n. n ≤ c.loop-tag.tag-index) (sym (length-map c.args.tags.now tag_pair)) (omega (arith, c.loop-tag-test.false))) c.loop-tag.invariant)
