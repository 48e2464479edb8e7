use Rattle.std.proofs.Common.{refl}
use Rattle.asn_coding.specs.Passing.{TakesFields}
use Rattle.asn_traits.specs.Value.{Value}
use Rattle.example_convert.specs.Severity.{severity_item}
use Rattle.example_convert.specs.Setting.{default_severity}
use Rattle.example_convert.proofs.setting.SettingSequenceFields.read_fields.Goals as goal

-- The second field has a default, which stands for an absent one.
pub returns-clause-read : goal.returns-clause-read
returns-clause-read g c =
    let severity = c.in_ok-read_default_field.field-0 in
    TakesFields.takes_next c.in_ok-read_field.ensures.read
    (TakesFields.takes_default {d = default_severity} {v = Value.item (severity_item severity)} c.in_ok-read_default_field.ensures.read
    (TakesFields.takes_next c.in_ok-read_field-2.ensures.read TakesFields.takes_none refl)
    refl refl)
    refl
