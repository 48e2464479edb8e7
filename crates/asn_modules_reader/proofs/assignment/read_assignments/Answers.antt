use Rattle.std.proofs.Common.{refl, ap, ◌∙◌, map, arith}
use Rattle.std.proofs.lemmas.Result.{err_from_is_err_and}
use Rattle.asn_modules_grammar.specs.notation.Modules.{AssignmentsParse, no_assignments}
use Rattle.asn_modules_grammar.specs.notation.View.{assignment_view}
use Rattle.asn_modules_reader.proofs.parts.EntriesSeen.{map_join}
use Rattle.asn_modules_reader.proofs.parts.Repeats.{none_some}
use Rattle.asn_modules_reader.proofs.parts.Runs.{going_start, going_next, going_end, going_none}
use Rattle.asn_modules_reader.proofs.ModulesRead.{assignments_step, assignments_none}
use Rattle.asn_modules_reader.proofs.assignment.read_assignments.Goals as goal

pub assignments-init : goal.assignments-init
assignments-init c = (
  going_start (AssignmentsParse 64) c.args.tokens.now c.args.tokens.now (map assignment_view c.new-assignments.result.items) refl (ap (map assignment_view) c.new-assignments.ensures.items),
  omega arith,
)

pub returns-in_default-clause-found : goal.returns-in_default-clause-found
returns-in_default-clause-found c =
    going_end (AssignmentsParse 64) c.args.tokens.now c.assignments.rest.now c.assignments.rest.now (map assignment_view c.assignments.assignments.items) c.assignments.invariant.0 (no_assignments c.in_default.ensures)

pub returns-in_err-assignment-clause-found : goal.returns-in_err-assignment-clause-found
returns-in_err-assignment-clause-found c =
    let p = err_from_is_err_and c.from_residual.result c.from_residual.ensures.1 in
    rw (p.1, p.2) (λ syntax xs rest q.
    going_none (AssignmentsParse 64) c.args.tokens.now c.assignments.rest.now (map assignment_view c.assignments.assignments.items) c.assignments.invariant.0
    (assignments_none 64 c.assignments.rest.now (λ none. none_some none c.in-Some.ensures.0) (c.in_err-assignment.ensures.found syntax)) xs rest q)

pub assignments-preserved : goal.assignments-preserved
assignments-preserved c = (
  going_next (AssignmentsParse 64) c.args.tokens.now c.assignments.rest.now c.in_ok-assignment.after.now (map assignment_view c.assignments.assignments.items) (map assignment_view c.push.new.self.items) (assignment_view c.in_ok-assignment.assignment)
      c.assignments.invariant.0
      (assignments_step 64 c.assignments.rest.now c.in_ok-assignment.after.now (assignment_view c.in_ok-assignment.assignment) (λ none. none_some none c.in-Some.ensures.0) c.in_ok-assignment.ensures.found)
      (ap (map assignment_view) c.in_ok-push.ensures.items ∙ map_join assignment_view c.assignments.assignments.items _),
  omega (arith, c.assignments.invariant.1, c.in_ok-assignment.ensures.shorter),
)
