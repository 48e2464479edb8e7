use Rattle.std.proofs.Common.{◌+◌, ◌-◌, ◌/◌, suc, refl, sym, ap, ◌∙◌}
use Rattle.asn_modules_rules.specs.values.Leads.{leads, next_at}
use Rattle.asn_modules_rules.proofs.values.Leading.{halved_even, halved_odd, leads_both, leads_zero}
use Rattle.asn_modules_rules.proofs.values.leads.+past.Goals as goal

pub returns-then-others-eq0 : goal.returns-then-others-eq0
returns-then-others-eq0 t c = λ n.
    ap (λ l. next_at l n) c.in_ok-copy.ensures ∙ sym (leads_zero c.args.nexts.now n) ∙ ap (λ m. leads c.args.nexts.now m n) (sym c.if-others-eq0.true)

pub returns-then-rest-eq1 : goal.returns-then-rest-eq1
returns-then-rest-eq1 t c = λ n.
    let count = (c.args.others - 1) / 2 in
    leads_both c.args.nexts.now c.as_slice-table.result.now c.as_slice-table.result.now c.in_ok-twice.twice.items count count c.args.others
    (λ k. ap (λ l. next_at l k) c.as_slice-table.ensures.value ∙ c.in_ok-half.ensures k) (λ k. ap (λ l. next_at l k) c.as_slice-table.ensures.value ∙ c.in_ok-half.ensures k)
    c.in_ok-twice.ensures (halved_odd c.args.others c.if-rest-eq1.true) n

pub returns : goal.returns
returns t c = λ n.
    let count = (c.args.others - 1) / 2 in
    leads_both c.args.nexts.now c.args.nexts.now c.as_slice-behind.result.now c.in_ok-ends.ends.items 0 (suc (count + count)) c.args.others
    (λ k. sym (leads_zero c.args.nexts.now k))
    (λ k. ap (λ l. next_at l k) c.as_slice-behind.ensures.value
    ∙ leads_both c.args.nexts.now c.as_slice-table.result.now c.as_slice-table.result.now c.in_ok-twice.twice.items count count (suc (count + count))
    (λ j. ap (λ l. next_at l j) c.as_slice-table.ensures.value ∙ c.in_ok-half.ensures j) (λ j. ap (λ l. next_at l j) c.as_slice-table.ensures.value ∙ c.in_ok-half.ensures j)
    c.in_ok-twice.ensures refl k)
    c.in_ok-ends.ensures (halved_even c.args.others c.if-others-eq0.false c.if-rest-eq1.false) n
