use Rattle.std.proofs.Common.{◌∙◌}
use Rattle.asn_modules_names.proofs.lookup.index.Index.module_named.Goals as goal

pub returns : goal.returns
returns c = λ sort ss is. c.copied.ensures ∙ c.get.ensures.value ∙ is.modules c.args.home
