use Rattle.std.proofs.Common.{ap, ◌∙◌, map, arith}
use Rattle.std.proofs.lemmas.List.{take_all}
use Rattle.asn_model.specs.Shape.{is_item}
use Rattle.asn_modules_names.specs.Mentions.{mention_view, name_of}
use Rattle.asn_modules_names.proofs.Repeating.{knows_none, name_kept}
use Rattle.asn_modules_names.proofs.missing.set_of.Goals as goal

pub loop-name-init : goal.loop-name-init
loop-name-init c = knows_none c.new-set.result c.new-set.ensures.empty

pub loop-name-preserved : goal.loop-name-preserved
loop-name-preserved c =
    name_kept c.loop-name.set c.insert.new.self c.args.names.now c.loop-name.name-index _ c.text_of.result c.loop-name-test.true c.loop-name.invariant c.text_of.ensures c.in_ok-insert.ensures.updates

pub returns : goal.returns
returns c = λ q. c.loop-name.invariant q ∙ ap (λ l. is_item (map name_of (map mention_view l)) q.now) (take_all c.loop-name.name-index c.args.names.now (omega (arith, c.loop-name-test.false)))
