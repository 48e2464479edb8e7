use Rattle.std.proofs.Common.{sym, arith}
use Rattle.asn_model.proofs.ShapeNames.{other_count}
use Rattle.asn_model.proofs.readable.are_key_and_value.Goals as goal

pub returns-in_default : goal.returns-in_default
returns-in_default c = sym (other_count c.args.fields.now (λ two. omega (arith, two, c.in_default.len_below)))

pub returns-in_default-2 : goal.returns-in_default-2
returns-in_default-2 c = sym (other_count c.args.fields.now (λ two. omega (arith, two, c.in_default.len_at_least)))
