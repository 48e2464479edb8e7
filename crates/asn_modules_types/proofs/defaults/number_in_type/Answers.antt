use Rattle.std.proofs.Common.{ap, sym, ◌∙◌}
use Rattle.asn_modules_types.specs.Known.{scope_view}
use Rattle.asn_modules_types.specs.Numbers.{named_number}
use Rattle.asn_modules_types.proofs.Numbering.{integer_named}
use Rattle.asn_modules_types.proofs.defaults.number_in_type.Goals as goal

pub returns-in-Integer : goal.returns-in-Integer
returns-in-Integer c =
    let s = scope_view c.args.more c.args.scope.now in
    c.named_number.ensures c.args.more ∙ ap (λ l. named_number s l c.args.word.now) c.as_slice.ensures.value ∙ sym (integer_named s c.args.notation.now c.in-Integer.named c.args.word.now c.in-Integer.is)
