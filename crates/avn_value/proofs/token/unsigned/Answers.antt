use Rattle.std.proofs.Common.{◌≡◌, ◌∙◌, sym, ap, arith}
use Rattle.std.proofs.lemmas.Grind.{common_steps}
use Rattle.avn_grammar.specs.declared.chars.CharClass.TheVariants as is
use Rattle.avn_grammar.specs.Chars.{class_of_next, has_fraction, tail}
use Rattle.avn_cursor.proofs.Paying.{digit_paid}
use Rattle.avn_value.proofs.NumberNodes.{integer_grown, real_grown}
use Rattle.avn_value.proofs.token.unsigned.Goals as goal

pub returns-in_err-leaf-clause-advances : goal.returns-in_err-leaf-clause-advances
returns-in_err-leaf-clause-advances c =
    let d : class_of_next c.args.cursor.now.rest ≡ is.Digit = grind (arith, common_steps) in
    digit_paid c.requires.together d (rw (← c.class_of_next.ensures.all) c.take_run.ensures.advances) c.take_run.ensures.together (rw (← c.class_of_next.ensures.stays) c.in_ok-take_run.ensures.moves) c.has_fraction.ensures.looks c.has_fraction.ensures.ahead c.has_fraction.ensures.stays

pub returns-then-not-has_fraction-clause-advances : goal.returns-then-not-has_fraction-clause-advances
returns-then-not-has_fraction-clause-advances c =
    let d : class_of_next c.args.cursor.now.rest ≡ is.Digit = grind (arith, common_steps) in
    digit_paid c.requires.together d (rw (← c.class_of_next.ensures.all) c.take_run.ensures.advances) c.take_run.ensures.together (rw (← c.class_of_next.ensures.stays) c.in_ok-take_run.ensures.moves) c.has_fraction.ensures.looks c.has_fraction.ensures.ahead c.has_fraction.ensures.stays

pub returns-then-not-has_fraction-clause-tree : goal.returns-then-not-has_fraction-clause-tree
returns-then-not-has_fraction-clause-tree c =
    rw (← c.class_of_next.ensures.stays) (integer_grown c.args.nodes.now c.take_run.new.self c.leaf.new.self c.class_of_next.new.self.rest c.in_ok-take_run.ensures.found c.in_ok-leaf.ensures
    (ap has_fraction (sym c.in_ok-take_run.ensures.moves) ∙ sym c.has_fraction.ensures.found ∙ c.if-not-has_fraction.true))

pub returns-clause-tree : goal.returns-clause-tree
returns-clause-tree c =
    rw (← c.class_of_next.ensures.stays) (real_grown c.args.nodes.now c.take_run.new.self c.push_char.new.self c.take_run-2.new.self c.leaf-2.new.self c.class_of_next.new.self.rest _ c.take-point.new.self.rest c.in_ok-take_run.ensures.found c.in_ok-push_char.ensures.pushed
    (c.push_char.ensures.ascii (omega arith)) c.in_ok-take_run-2.ensures.found (c.take-point.ensures.moves ∙ ap tail (c.has_fraction.ensures.stays ∙ c.in_ok-take_run.ensures.moves)) c.in_ok-leaf-2.ensures
    (ap has_fraction (sym c.in_ok-take_run.ensures.moves) ∙ sym c.has_fraction.ensures.found ∙ c.if-not-has_fraction.false))
