use Rattle.std.proofs.Common.{◌≡◌, ap, subst, IfOk, IfErr, string_bytes}
use Rattle.asn_times.specs.Days.{DayReads, StatesNoDay}
use Rattle.asn_times.specs.declared.faults.TimeFault.TheVariants.{InvalidDate}
use Rattle.asn_times.proofs.Meant.{day_meant, day_unmeant}
use Rattle.asn_model.specs.Leaf.{time_or}
use Rattle.asn_model.specs.Shape.{Shape}
use Rattle.asn_model.specs.Value.{Value}
use Rattle.asn_types.proofs.TextLeaves.{time_made}
use Rattle.asn_types.proofs.times.DateTextType.of_text.Goals as goal

pub returns : goal.returns
returns c =
    let text = string_bytes c.args.text in
    let read = c.read_date-read.result in
    let same = c.as_str.ensures.value in
    let is = c.read_date-read.ensures in
    time_made Shape.day Value.day text c.args._codec read c.time_of.result (DayReads text) (StatesNoDay text)
    (λ n d h. ap (time_or text Value.day) (day_meant text n h))
    (λ d h. ap (time_or text Value.day) (day_unmeant text h))
    (subst (λ t. IfOk read (DayReads t)) same is.reads) (subst (λ t. IfErr read (λ fault. (fault ≡ InvalidDate) × StatesNoDay t)) same is.refuses)
    c.time_of.ensures
