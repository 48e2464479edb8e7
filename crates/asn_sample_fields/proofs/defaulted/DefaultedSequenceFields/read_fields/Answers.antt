use Rattle.std.proofs.Common.{rules, arith, refl}
use Rattle.std.proofs.lemmas.Int.{to_z-of_z}
use Rattle.std.specs.Int.{w128}
use Rattle.asn_coding.specs.Passing.{TakesFields}
use Rattle.asn_traits.specs.Value.{Value}
use Rattle.asn_sample_fields.specs.Defaulted.{default_level}
use Rattle.asn_sample_fields.proofs.defaulted.DefaultedSequenceFields.read_fields.Goals as goal

-- A default stands for an absent field.
pub returns-clause-read : goal.returns-clause-read
returns-clause-read g c =
    let level = c.in_ok-read_default_field.field-0 in
    rw (to_z-of_z w128 level (search (rules, arith))) (TakesFields.takes_default {d = default_level} {v = Value.int level} c.in_ok-read_default_field.ensures.read TakesFields.takes_none refl refl)
