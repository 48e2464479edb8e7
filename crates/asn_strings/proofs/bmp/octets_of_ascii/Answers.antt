-- Each unit is its own remainder.
use Rattle.std.proofs.Common.{◌≡◌, ◌%◌, IfOk, rules, subst, tests}
use Rattle.std.proofs.lemmas.Iterator.{YieldsList-from_slice, YieldsList-from_map, items_from_collect}
use Rattle.std.proofs.lemmas.Iterator.Consumers.{YieldsList-at}
use Rattle.asn_strings.proofs.UnitTexts.{remainders_same}
use Rattle.asn_strings.proofs.bmp.octets_of_ascii.Goals as goal

pub returns : goal.returns
returns c =
    let units = c.args.units.now in
    subst (λ us. IfOk c.collect.result (λ octets. octets.items ≡ us))
    (remainders_same units c.requires)
    (items_from_collect _ c.collect.ensures.ran
    (YieldsList-from_map _ (λ unit. unit % 128)
    (YieldsList-at c.map.ensures.source (YieldsList-from_slice units c.iter.ensures.rest))
    c.map.ensures.closure (λ x r q k. search (rules, tests))))
