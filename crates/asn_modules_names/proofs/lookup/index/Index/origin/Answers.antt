use Rattle.std.proofs.Common.{ap, ◌∙◌}
use Rattle.std.specs.Option.{option_map}
use Rattle.asn_modules_names.proofs.lookup.index.Index.origin.Goals as goal

pub returns : goal.returns
returns c = λ sort ss is. ap (option_map (λ n. n.now)) (c.copied.ensures ∙ c.get.ensures.value) ∙ is.imports c.args.key
