use Rattle.std.proofs.Common.{◌≡◌, ◌<◌, ◌^◌, sym, subst, true}
use Rattle.std.proofs.lemmas.Result.{IfOk-weaker}
use Rattle.asn_growth.specs.Parts.{node_count}
use Rattle.asn_traits.specs.Readable.{is_readable}
use Rattle.asn_samples.proofs.Sampled.{sample_few, sample_readable}
use Rattle.asn_samples.proofs.sample.Sample.shape.Goals as goal

pub returns-clause-readable : goal.returns-clause-readable
returns-clause-readable c = IfOk-weaker c.accept.result _ _ (λ s is. subst (λ x. is_readable x ≡ true) (sym is) (sample_readable c.args.self)) c.accept.ensures

pub returns-clause-few : goal.returns-clause-few
returns-clause-few c = IfOk-weaker c.accept.result _ _ (λ s is. subst (λ x. node_count x < 2 ^ 32) (sym is) (sample_few c.args.self)) c.accept.ensures
