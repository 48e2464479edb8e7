use Rattle.std.proofs.Common.{◌≡◌, ap, subst, IfOk, IfErr, string_bytes}
use Rattle.asn_times.specs.Generalized.{GeneralizedReads, StatesNoGeneralized}
use Rattle.asn_times.specs.declared.faults.TimeFault.TheVariants.{InvalidDate}
use Rattle.asn_times.proofs.Meant.{generalized_meant, generalized_unmeant}
use Rattle.asn_model.specs.Leaf.{time_or}
use Rattle.asn_model.specs.Shape.{Shape}
use Rattle.asn_model.specs.Value.{Value}
use Rattle.asn_types.proofs.TextLeaves.{time_made}
use Rattle.asn_types.proofs.times.GeneralizedTimeTextType.of_text.Goals as goal

pub returns : goal.returns
returns c =
    let text = string_bytes c.args.text in
    let read = c.read_generalized-read.result in
    let same = c.as_str.ensures.value in
    let is = c.read_generalized-read.ensures in
    time_made Shape.gen Value.gen text c.args._codec read c.time_of.result (GeneralizedReads text) (StatesNoGeneralized text)
    (λ n d h. ap (time_or text Value.gen) (generalized_meant text n h))
    (λ d h. ap (time_or text Value.gen) (generalized_unmeant text h))
    (subst (λ t. IfOk read (GeneralizedReads t)) same is.reads) (subst (λ t. IfErr read (λ fault. (fault ≡ InvalidDate) × StatesNoGeneralized t)) same is.refuses)
    c.time_of.ensures
