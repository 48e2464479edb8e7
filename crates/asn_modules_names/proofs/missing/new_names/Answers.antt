use Rattle.std.proofs.Common.{◌≡◌, ◌∙◌, ◌++◌, ◌+◌, ap, arith, drop, map, subst, sym}
use Rattle.asn_modules_names.specs.Mentions.{mention_view, name_of}
use Rattle.asn_modules_names.specs.Missing.{new_names}
use Rattle.asn_modules_names.proofs.Origins.{known, name_added, name_passed, names_end, rest}
use Rattle.asn_modules_names.proofs.Repeating.{Knows}
use Rattle.asn_modules_names.proofs.missing.new_names.Goals as goal
use Rattle.asn_modules_names.proofs.missing.new_names.Goals.{then-is_new+in_ok-push, else-is_new}

pub returns : goal.returns
returns c =
    let before = map name_of (map mention_view c.args.known.now) in
    names_end before (new_names before (map mention_view c.args.names.now)) c.loop-name.found.items c.args.names.now c.loop-name.name-index (omega (arith, c.loop-name-test.false)) c.loop-name.invariant.1

pub loop-name-preserved : goal.loop-name-preserved
loop-name-preserved c =
    let before = map name_of (map mention_view c.args.known.now) in
    let names = c.args.names.now in
    let all = new_names before (map mention_view names) in
    let i = c.loop-name.name-index in
    elim c.if-is_new.branch [
      | then-is_new+in_ok-push w ↦ name_added before all c.loop-name.seen c.insert.new.self c.loop-name.found.items names i _ c.text_of.result c.in_ok-is_new.is_new c.loop-name-test.true c.loop-name.invariant.0
          c.text_of.ensures c.in_ok-is_new.ensures.added c.in_ok-is_new.ensures.updates c.loop-name.invariant.1 w.if-is_new.true c.if-is_new.found.items (ap (λ v. v.items) w.found-is ∙ w.in_ok-push.ensures.items)
      | else-is_new w ↦ subst (λ v. Knows c.insert.new.self (known before v.items) × (all ≡ map mention_view v.items ++ rest before v.items (drop (i + 1) names))) (sym w.found-is)
          (name_passed before all c.loop-name.seen c.insert.new.self c.loop-name.found.items names i _ c.text_of.result c.in_ok-is_new.is_new c.loop-name-test.true c.loop-name.invariant.0
          c.text_of.ensures c.in_ok-is_new.ensures.added c.in_ok-is_new.ensures.updates c.loop-name.invariant.1 w.if-is_new.false)
    ]
