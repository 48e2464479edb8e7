use Rattle.std.proofs.Common.{refl, ap, sym, ◌∙◌, ◌++◌, map, drop, arith}
use Rattle.asn_modules_names.specs.Assigned.{all_module_names}
use Rattle.asn_modules_names.specs.Mentions.{mention_view, source_view}
use Rattle.asn_modules_names.proofs.Founds.{listed_all}
use Rattle.asn_modules_names.proofs.Naming.{headings, texts_added, texts_end}
use Rattle.asn_modules_names.proofs.headed.names_of.Goals as goal

pub loop-source-init : goal.loop-source-init
loop-source-init c = ap (λ l. map mention_view l ++ all_module_names (map source_view c.args.sources.now)) (sym c.new-names.ensures.items)

pub loop-source-preserved : goal.loop-source-preserved
loop-source-preserved c =
    texts_added (all_module_names (map source_view c.args.sources.now)) (map mention_view c.loop-source.names.items) (map mention_view c.add_names.new.names.items) c.args.sources.now c.loop-source.source-index c.source-item.result
    c.loop-source-test.true c.source-item.is c.loop-source.invariant
    (c.in_ok-add_names.ensures ∙ ap (λ l. map mention_view c.loop-source.names.items ++ headings (source_view c.source-item.result) l) c.as_slice.ensures.value)

pub returns : goal.returns
returns c =
    sym (listed_all (all_module_names (map source_view c.args.sources.now)) (map mention_view c.loop-source.names.items) (all_module_names (map source_view (drop c.loop-source.source-index c.args.sources.now))) c.loop-source.invariant
    (texts_end c.args.sources.now c.loop-source.source-index (omega (arith, c.loop-source-test.false))))
