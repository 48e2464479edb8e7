use Rattle.std.proofs.Common.{refl, sym, ◌∙◌}
use Rattle.asn_module_reader.proofs.EntriesSeen.{extensible}
use Rattle.asn_module_reader.proofs.entries.Entries.is_extensible.Goals as goal

pub returns : goal.returns
returns g c = c.is_some.ensures ∙ sym (extensible c.args.self.now c.args.self.now.added refl)
