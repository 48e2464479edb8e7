use Rattle.std.proofs.Common.{[], ap, ◌∙◌, ◌++◌, map, string_bytes}
use Rattle.asn_notation.specs.Printed.{module_text}
use Rattle.asn_notation.specs.View.{assignment_view, module_view}
use Rattle.asn_module_text.proofs.Properness.{printed_module, printed_once}
use Rattle.asn_module_text.proofs.print.print_module.Goals as goal

pub returns-clause-text : goal.returns-clause-text
returns-clause-text c =
    c.in_ok-write_assignments.ensures ∙ ap (λ t. t ++ module_text (map assignment_view c.deref.result.now)) c.new-out.ensures.bytes ∙ ap (λ xs. module_text (map assignment_view xs)) c.deref.ensures.value

pub returns-clause-read_again : goal.returns-clause-read_again
returns-clause-read_again c =
    printed_module 64 (module_view c.args.«module».now) (string_bytes c.write_assignments.new.out) c.requires
    (c.in_ok-write_assignments.ensures ∙ ap (λ t. t ++ module_text (map assignment_view c.deref.result.now)) c.new-out.ensures.bytes ∙ ap (λ xs. module_text (map assignment_view xs)) c.deref.ensures.value)

pub returns-clause-one_module : goal.returns-clause-one_module
returns-clause-one_module c = λ other q.
    printed_once 64 (module_view c.args.«module».now) other (string_bytes c.write_assignments.new.out) c.requires q
    (c.in_ok-write_assignments.ensures ∙ ap (λ t. t ++ module_text (map assignment_view c.deref.result.now)) c.new-out.ensures.bytes ∙ ap (λ xs. module_text (map assignment_view xs)) c.deref.ensures.value)
