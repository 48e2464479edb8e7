use Rattle.asn_lexer.proofs.Shorter.{none_at_end}
use Rattle.asn_lexer.proofs.piece.piece_at.Goals as goal

pub returns-in_default : goal.returns-in_default
returns-in_default c = none_at_end c.args.text.now c.in_default.len_below
