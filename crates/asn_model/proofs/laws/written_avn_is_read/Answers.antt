use Rattle.avn_grammar.proofs.WholePrinted.{reads_whole, sinks_whole}
use Rattle.asn_model.specs.Canonical.{avn_tree}
use Rattle.asn_model.proofs.WrittenAvn.{well-formed}
use Rattle.asn_model.proofs.laws.written_avn_is_read.Goals as goal

pub returns : goal.returns
returns c = record {
  reads = λ limit s v a fit can within. reads_whole limit 0 (avn_tree v) (well-formed a fit can) within;
  deep = λ limit s v a fit can above. sinks_whole limit 0 (avn_tree v) (well-formed a fit can) above;
}
