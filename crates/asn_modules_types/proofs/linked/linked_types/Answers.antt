use Rattle.std.proofs.Common.{◌≡◌, ◌<◌, ◌∙◌, ap, arith, length, map, sym}
use Rattle.std.proofs.lemmas.List.{length-map}
use Rattle.std.proofs.lemmas.Result.{IfOk-weaker}
use Rattle.asn_linked_types.specs.Linked.{are_linked}
use Rattle.asn_linked_types.specs.declared.limits.TheConstants.{TYPE_LIMIT}
use Rattle.asn_modules_names.specs.lookup.Homes.{home_view}
use Rattle.asn_modules_names.specs.declared.lookup.sort.Sort.TheVariants.{Types}
use Rattle.asn_modules_names.specs.Mentions.{source_view}
use Rattle.asn_modules_types.specs.Assigned.{assigned, assigned_of}
use Rattle.asn_modules_types.specs.Known.{assigned_view}
use Rattle.asn_modules_types.proofs.Linking.{all_linked}
use Rattle.asn_modules_types.proofs.linked.linked_types.Goals as goal

pub returns-clause-linked : goal.returns-clause-linked
returns-clause-linked c =
    let ss = map source_view c.args.sources.now in
    let types = c.in_ok-types.types.items in
    let all : map assigned_view types ≡ assigned Types ss = c.in_ok-types.ensures ∙ ap (λ hs. assigned_of Types 0 (map home_view hs)) c.as_slice.ensures.value ∙ ap (assigned_of Types 0) c.in_ok-homes.ensures in
    let long : length (assigned Types ss) ≡ length types = ap length (sym all) ∙ length-map types assigned_view in
    let few : length (assigned Types ss) < TYPE_LIMIT = omega (arith, long, c.len.ensures, c.if-len-ge-TYPE_LIMIT.false) in
    IfOk-weaker c.all_types.result _ _ (λ found e. ap are_linked e ∙ all_linked ss few) c.all_types.ensures
