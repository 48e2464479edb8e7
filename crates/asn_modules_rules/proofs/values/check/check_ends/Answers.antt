use Rattle.std.proofs.Common.{is_some, refl, sym, ◌∙◌, arith}
use Rattle.asn_modules_rules.specs.values.Leads.{next_at}
use Rattle.asn_modules_rules.proofs.values.Ending.{all_ended, ended, endless_told}
use Rattle.asn_modules_rules.proofs.values.check.check_ends.Goals as goal

pub loop-number-init : goal.loop-number-init
loop-number-init c = refl

pub returns-then-leads_on : goal.returns-then-leads_on
returns-then-leads_on c =
    endless_told (λ n. is_some (next_at c.args.ends.now n)) c.args.links.now c.loop-number.number _ _ c.loop-number-test.true
    (sym c.leads_on.ensures ∙ c.if-leads_on.true) c.loop-number.invariant c.endless.ensures

pub loop-number-preserved : goal.loop-number-preserved
loop-number-preserved c =
    ended (λ n. is_some (next_at c.args.ends.now n)) c.args.links.now c.loop-number.number c.loop-number-test.true
    (sym c.leads_on.ensures ∙ c.if-leads_on.false) c.loop-number.invariant

pub returns : goal.returns
returns c = all_ended (λ n. is_some (next_at c.args.ends.now n)) c.args.links.now c.loop-number.number (omega (arith, c.loop-number-test.false)) c.loop-number.invariant
