use Rattle.std.proofs.Common.{◌≡◌, ◌+◌, ◌-◌, ◌+ℤ◌, pos, false, true, ap, sym, ◌∙◌, arith, to_z, FitsSigned}
use Rattle.std.proofs.lemmas.Int.{ints, to_z-of_z}
use Rattle.std.specs.Int.{w128}
use Rattle.std.specs.Ordering.{int_eq}
use Rattle.std.specs.Set.{is_member}
use Rattle.asn_modules_rules.specs.numbers.Numbered.{first_free, free_from}
use Rattle.asn_modules_rules.proofs.numbers.Freed.{free_here, free_later}
use Rattle.asn_modules_rules.proofs.numbers.free.free_from.Goals as goal

pub returns-then-not-contains-clause-free : goal.returns-then-not-contains-clause-free
returns-then-not-contains-clause-free c = λ numbers holds len.
    let n = to_z w128 c.loop-step.number-bits in
    let free : is_member int_eq numbers n ≡ false = sym (holds.has n) ∙ sym c.contains.ensures ∙ c.if-not-contains.true in
    sym (sym (ap (free_from numbers) (to_z-of_z w128 c.args.first c.ranges.first)) ∙ c.loop-step.invariant.free numbers holds len ∙ free_here c.args.count c.loop-step._step numbers n c.loop-step-test.true free)

pub loop-step-preserved : goal.loop-step-preserved
loop-step-preserved c =
    let n = to_z w128 c.loop-step.number-bits in
    let fits : FitsSigned w128 (n +ℤ pos 1) = grind (arith, ints, c.loop-step.invariant.least, c.loop-step.invariant.greatest, c.requires.greatest) in
    record {
      free = λ numbers holds len.
          let taken : is_member int_eq numbers n ≡ true = sym (holds.has n) ∙ sym c.contains.ensures ∙ c.if-not-contains.false in
          c.loop-step.invariant.free numbers holds len ∙ free_later c.args.count c.loop-step._step numbers n c.loop-step-test.true taken
          ∙ ap (first_free (c.args.count - (c.loop-step._step + 1)) numbers) (sym (to_z-of_z w128 (n +ℤ pos 1) fits));
      least = omega (arith, ints);
      greatest = omega (arith, ints);
    }
