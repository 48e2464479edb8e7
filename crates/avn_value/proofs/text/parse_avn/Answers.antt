use Rattle.std.proofs.Common.{sym, subst, ◌∙◌}
use Rattle.std.specs.Str.{chars}
use Rattle.avn_grammar.specs.Grammar.{ParsesWhole}
use Rattle.avn_value.proofs.text.parse_avn.Goals as goal

pub returns-clause-reads : goal.returns-clause-reads
returns-clause-reads c = λ t r. c.parse_scan_within.ensures.reads t (subst (λ x. ParsesWhole 64 (chars x) t) (sym c.new-scan.ensures.text) r)

pub returns-clause-printed : goal.returns-clause-printed
returns-clause-printed c = λ t e w d. c.parse_scan_within.ensures.printed t (c.new-scan.ensures.text ∙ e) w d

pub returns-clause-printed_deep : goal.returns-clause-printed_deep
returns-clause-printed_deep c = λ t e w d. c.parse_scan_within.ensures.printed_deep t (c.new-scan.ensures.text ∙ e) w d
