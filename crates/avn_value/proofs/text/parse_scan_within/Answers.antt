use Rattle.std.proofs.Common.{sym, subst}
use Rattle.std.specs.Str.{chars}
use Rattle.avn_grammar.specs.Grammar.{ParsesWhole}
use Rattle.avn_grammar.specs.Depth.{ExceedsDepth}
use Rattle.avn_grammar.specs.Normal.{normal}
use Rattle.avn_grammar.proofs.WholePrinted.{reads_whole, sinks_whole}
use Rattle.avn_value.proofs.Whole.{memory_explains, seen_as}
use Rattle.avn_value.specs.View.{tree_of}
use Rattle.avn_value.proofs.text.parse_scan_within.Goals as goal

pub returns-in-Ok-clause-err : goal.returns-in-Ok-clause-err
returns-in-Ok-clause-err c = memory_explains _ _ c.root_value.result c.root_value.ensures.refused

pub returns-in-Ok-clause-reads : goal.returns-in-Ok-clause-reads
returns-in-Ok-clause-reads c = λ t r. seen_as tree_of c.root_value.result _ t (c.in-Ok.ensures.reads t r) c.root_value.ensures.value c.root_value.ensures.refused

pub returns-in-Ok-clause-printed : goal.returns-in-Ok-clause-printed
returns-in-Ok-clause-printed c = λ t e w d. seen_as tree_of c.root_value.result _ (normal t) (c.in-Ok.ensures.reads (normal t) (subst (λ x. ParsesWhole c.args.limit (chars x) (normal t)) (sym e) (reads_whole c.args.limit 0 t w d))) c.root_value.ensures.value c.root_value.ensures.refused

pub returns-in-Ok-clause-printed_deep : goal.returns-in-Ok-clause-printed_deep
returns-in-Ok-clause-printed_deep c = λ t e w d. absurd (c.in-Ok.ensures.deep (subst (λ x. ExceedsDepth c.args.limit 0 (chars x)) (sym e) (sinks_whole c.args.limit 0 t w d)))

pub returns-in-Err-clause-printed : goal.returns-in-Err-clause-printed
returns-in-Err-clause-printed c = λ t e w d. c.in-Err.ensures.reads (normal t) (subst (λ x. ParsesWhole c.args.limit (chars x) (normal t)) (sym e) (reads_whole c.args.limit 0 t w d))

pub returns-in-Err-clause-printed_deep : goal.returns-in-Err-clause-printed_deep
returns-in-Err-clause-printed_deep c = λ t e w d. c.in-Err.ensures.deep (subst (λ x. ExceedsDepth c.args.limit 0 (chars x)) (sym e) (sinks_whole c.args.limit 0 t w d))
