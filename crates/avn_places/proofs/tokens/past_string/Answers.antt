use Rattle.std.proofs.Common.{◌∙◌, ap, rules, sym}
use Rattle.std.specs.Option.{option_map}
use Rattle.avn_places.proofs.Fronts.{string_at}
use Rattle.avn_places.proofs.tokens.past_string.Goals as goal

pub quotes-preserved : goal.quotes-preserved
quotes-preserved c =
    let sign = sym c.past_sign.ensures ∙ ap (option_map (λ rest. rest.now)) c.in-Some.is in
    (search rules, sym (string_at c.quotes.rest.now c.split_once.result _ _ c.split_once.ensures.cases c.in_ok-_front.was sign) ∙ c.quotes.invariant.1)

pub returns-in-None : goal.returns-in-None
returns-in-None c =
    let sign = sym c.past_sign.ensures ∙ ap (option_map (λ rest. rest.now)) c.in-None.is in
    sym (string_at c.quotes.rest.now c.split_once.result _ _ c.split_once.ensures.cases c.in_ok-_front.was sign) ∙ c.quotes.invariant.1
