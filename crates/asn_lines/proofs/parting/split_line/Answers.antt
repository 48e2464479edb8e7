use Rattle.std.proofs.Common.{sym, ◌∙◌}
use Rattle.std.proofs.lemmas.List.{take_rest}
use Rattle.asn_lines.proofs.FirstFeed.{first_at, none_at}
use Rattle.asn_lines.proofs.parting.split_line.Goals as goal

pub returns-in_err-at-clause-parts : goal.returns-in_err-at-clause-parts
returns-in_err-at-clause-parts c = rw c.from_residual.ensures (none_at c.args.bytes.now (sym c.first_feed.ensures ∙ c.in_err-at.was))

pub returns-clause-parts : goal.returns-clause-parts
returns-clause-parts c = rw take_rest (first_at c.args.bytes.now c.in_ok-at.at (sym c.first_feed.ensures ∙ c.in_ok-at.was))
