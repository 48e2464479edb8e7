use Rattle.std.proofs.Common.{refl, ap, sym, ◌∙◌, ◌++◌, map, drop, arith}
use Rattle.asn_modules_names.specs.Mentions.{mention_view, source_view}
use Rattle.asn_modules_names.proofs.Founds.{listed_all}
use Rattle.asn_modules_names.proofs.Naming.{heading_added, heading_passed, headings, headings_end}
use Rattle.asn_modules_names.proofs.headed.add_names.Goals as goal
use Rattle.asn_modules_names.proofs.headed.add_names.Goals.{in-Some+in_ok-push, in_default}

pub loop-parsed-init : goal.loop-parsed-init
loop-parsed-init c = refl

pub loop-parsed-preserved : goal.loop-parsed-preserved
loop-parsed-preserved c =
    let s = source_view c.args.source.now in
    let all = map mention_view c.args.names.now.items ++ headings s c.args.modules.now in
    elim c.match-name_of.branch [
      | in-Some+in_ok-push w ↦ heading_added all c.loop-parsed.names.items c.match-name_of.names.items w.mention_of.result s w.in-Some.name c.args.modules.now c.loop-parsed.parsed-index c.parsed-item.result
          c.loop-parsed-test.true c.parsed-item.is c.loop-parsed.invariant (sym w.in-Some.ensures) w.mention_of.ensures (ap (λ v. v.items) w.names-is ∙ w.in_ok-push.ensures.items)
      | in_default w ↦ heading_passed all (map mention_view c.match-name_of.names.items) s c.args.modules.now c.loop-parsed.parsed-index c.parsed-item.result
          c.loop-parsed-test.true c.parsed-item.is (c.loop-parsed.invariant ∙ ap (λ v. map mention_view v.items ++ headings s (drop c.loop-parsed.parsed-index c.args.modules.now)) (sym w.names-is)) (sym w.in_default.ensures)
    ]

pub returns : goal.returns
returns c =
    let s = source_view c.args.source.now in
    sym (listed_all (map mention_view c.args.names.now.items ++ headings s c.args.modules.now) (map mention_view c.loop-parsed.names.items) (headings s (drop c.loop-parsed.parsed-index c.args.modules.now)) c.loop-parsed.invariant
    (headings_end s c.args.modules.now c.loop-parsed.parsed-index (omega (arith, c.loop-parsed-test.false))))
