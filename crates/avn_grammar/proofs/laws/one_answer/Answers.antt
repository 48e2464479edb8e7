use Rattle.avn_grammar.proofs.OneAnswer.{reads-unread, reads-deep, unread-deep}
use Rattle.avn_grammar.proofs.laws.one_answer.Goals as goal

pub returns : goal.returns
returns c = record {
  read_or_unread = λ limit u found t r k. reads-unread r k;
  read_or_deep = λ limit u t r d. reads-deep r d;
  unread_or_deep = λ limit u found k d. unread-deep k d;
}
