-- Each octet is a character.
use Rattle.std.proofs.Common.{◌≡◌, ◌∙◌, IfOk, map-id, rules, subst, sym, tests}
use Rattle.std.proofs.lemmas.Iterator.{YieldsList-from_slice, YieldsList-from_map, items_from_collect}
use Rattle.std.proofs.lemmas.Iterator.Consumers.{YieldsList-at}
use Rattle.std.proofs.lemmas.Str.{chars-IsAscii}
use Rattle.asn_strings.proofs.bmp.units_of_ascii.Goals as goal

pub returns : goal.returns
returns c =
    let text = c.args.text.now in
    let rest : c.iter.result.rest.now ≡ text = c.iter.ensures.rest ∙ c.as_bytes.ensures.value in
    subst (λ cs. IfOk c.collect.result (λ units. units.items ≡ cs))
    (map-id text ∙ sym (chars-IsAscii text c.requires))
    (items_from_collect _ c.collect.ensures.ran
    (YieldsList-from_map _ (λ octet. octet)
    (YieldsList-at c.map.ensures.source (YieldsList-from_slice text rest))
    c.map.ensures.closure (λ x r q k. search (rules, tests))))
