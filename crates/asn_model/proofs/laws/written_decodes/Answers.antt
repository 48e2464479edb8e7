use Rattle.asn_model.specs.Notation.{Notation}
use Rattle.asn_model.proofs.Written.{decodes_written, jer_tree, jer_writes}
use Rattle.asn_model.proofs.WrittenAvn.{read_tree, avn_writes}
use Rattle.asn_model.proofs.laws.written_decodes.Goals as goal

pub returns : goal.returns
returns c = record {
  jer = λ s v a fit can. decodes_written Notation.jer jer_tree jer_writes a fit can;
  avn = λ s v a fit can. decodes_written Notation.avn read_tree avn_writes a fit can;
}
