use Rattle.std.proofs.Common.{Some, None, ap, sym, ◌∙◌}
use Rattle.asn_modules_grammar.specs.notation.View.{items_view}
use Rattle.asn_modules_rules.specs.sizes.Sizes.{entry_size, items_size, past}
use Rattle.asn_modules_rules.proofs.sizes.Past.{past_all, past_nothing, past_seen}
use Rattle.asn_modules_rules.proofs.sizes.sizes.take_items.Goals as goal

pub returns-in_err-rest : goal.returns-in_err-rest
returns-in_err-rest c =
    c.from_residual.ensures
    ∙ past_seen c.args.items.now c.args.added.now c.args.left None (c.in_err-rest.ensures ∙ ap (λ l. past_all (λ i. entry_size i.name) l c.args.left) c.deref.ensures.value)

pub returns-in-Some : goal.returns-in-Some
returns-in-Some c =
    c.take_list-in-Some.ensures ∙ ap (λ l. past_all (λ i. entry_size i.name) l c.in_ok-rest.rest) c.deref-in-Some.ensures.value
    ∙ past_seen c.args.items.now (Some c.in-Some.added) c.args.left (Some c.in_ok-rest.rest) (c.in_ok-rest.ensures ∙ ap (λ l. past_all (λ i. entry_size i.name) l c.args.left) c.deref.ensures.value)
    ∙ ap (λ a. past c.args.left (items_size (items_view c.args.items.now a))) (sym c.in-Some.is)

pub returns-in-None : goal.returns-in-None
returns-in-None c =
    sym (past_nothing c.in_ok-rest.rest)
    ∙ past_seen c.args.items.now None c.args.left (Some c.in_ok-rest.rest) (c.in_ok-rest.ensures ∙ ap (λ l. past_all (λ i. entry_size i.name) l c.args.left) c.deref.ensures.value)
    ∙ ap (λ a. past c.args.left (items_size (items_view c.args.items.now a))) (sym c.in-None.is)
