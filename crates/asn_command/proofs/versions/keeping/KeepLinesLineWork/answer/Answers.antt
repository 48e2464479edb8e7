use Rattle.asn_command.proofs.versions.Grown.{is_later}
use Rattle.asn_command.proofs.versions.keeping.KeepLinesLineWork.answer.Goals as goal

pub cut-requires-clause-grown : goal.cut-requires-clause-grown
cut-requires-clause-grown c = is_later _ _ c.args.self.now.versions.now.grown
