use Rattle.std.proofs.Common.{◌≡◌, rules, arith, ap, ◌∙◌, to_z, of_z}
use Rattle.std.proofs.lemmas.Int.{ints, to_z-of_z}
use Rattle.std.specs.Int.{w128}
use Rattle.asn_modules_rules.specs.numbers.Numbered.{if_small}
use Rattle.asn_modules_rules.proofs.numbers.Numbering.{below_limit, item_added, small_more}
use Rattle.asn_modules_rules.proofs.numbers.numbered.numbered_from.Goals as goal

pub loop-item-preserved : goal.loop-item-preserved
loop-item-preserved c =
    let n = to_z w128 (of_z w128 c.number_or_free-number.result) in
    let next = to_z w128 c.loop-item.next-bits in
    let same : n ≡ c.number_or_free-number.result = to_z-of_z w128 _ (search rules) in
    let behind : to_z w128 (of_z w128 c.next_behind-next.result) ≡ c.next_behind-next.result = to_z-of_z w128 _ (search rules) in
    record {
      numbered = λ numbers holds len.
          c.loop-item.invariant.numbered numbers holds len
          ∙ ap if_small (item_added c.args.is_added c.args.text.now numbers next _ c.args.items.now c.loop-item.item-index _ c.loop-item.found.items c.push.new.self.items n c.item_number-stated.result c.loop-item-test.true
          c.item_number-stated.ensures (same ∙ c.number_or_free-number.ensures numbers holds len) (behind ∙ c.next_behind-next.ensures.is) c.in_ok-push.ensures.items);
      small = small_more c.loop-item.found.items c.push.new.self.items _ c.loop-item.invariant.small (below_limit n c.if-number.false) c.in_ok-push.ensures.items;
      least = omega (arith, ints, c.next_behind-next.ensures.least);
      greatest = omega (arith, ints, c.next_behind-next.ensures.greatest);
    }
