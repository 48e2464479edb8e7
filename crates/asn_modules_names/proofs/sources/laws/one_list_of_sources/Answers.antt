use Rattle.asn_modules_names.proofs.sources.Same.{same_sources}
use Rattle.asn_modules_names.proofs.sources.laws.one_list_of_sources.Goals as goal

pub returns : goal.returns
returns c = same_sources
