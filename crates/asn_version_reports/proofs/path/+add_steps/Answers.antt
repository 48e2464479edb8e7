use Rattle.std.proofs.Common.{◌≡◌, ◌++◌, ◌∷◌, [], ap, ◌∙◌, string_bytes}
use Rattle.asn_version_reports.specs.Paths.{path_steps}
use Rattle.asn_version_reports.proofs.Behind.{joined-further, steps_further}
use Rattle.asn_version_reports.proofs.path.+add_steps.Goals as goal

pub returns-in_ok-push_str-in-Step-outer-2 : goal.returns-in_ok-push_str-in-Step-outer-2
returns-in_ok-push_str-in-Step-outer-2 t c =
    let outer = c.in-Step-outer in
    let steps : path_steps c.in-Step.outer.now ≡ path_steps outer.field-1.now ++ outer.field-0.now ∷ [] = ap path_steps outer.is ∙ steps_further outer.field-0 outer.field-1 in
    joined-further (string_bytes c.args.text.now) (string_bytes c.add_steps.new.text) (string_bytes c.push_str-in-Step-outer.new.self) (string_bytes c.push_str-in-Step-outer-2.new.self)
    (path_steps outer.field-1.now) outer.field-0.now (path_steps c.in-Step.outer.now) c.in-Step.step.now (path_steps c.args.path.now) steps (ap path_steps c.in-Step.is ∙ steps_further c.in-Step.step c.in-Step.outer)
    c.in_ok-add_steps-in-Step-outer.ensures c.in_ok-push_str-in-Step-outer.ensures.bytes c.in_ok-push_str-in-Step-outer-2.ensures.bytes
