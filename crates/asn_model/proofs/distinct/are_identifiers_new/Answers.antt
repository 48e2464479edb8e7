use Rattle.std.proofs.Common.{IfOk, ◌≡◌, ◌++◌, ap, subst, ◌∙◌, map, string_bytes}
use Rattle.std.specs.Char.{to_ascii_lowercase}
use Rattle.asn_model.proofs.Repeats.{both_lowered}
use Rattle.asn_model.proofs.distinct.are_identifiers_new.Goals as goal

pub returns : goal.returns
returns g c =
    let names = map g.T.Named.name_of c.args.list.now in
    let others = map g.T.Named.name_of c.args.more.now in
    subst (λ b. IfOk c.are_names_new.result (λ distinct. distinct ≡ b))
    (both_lowered (map string_bytes c.as_slice.result.now) names others
    (ap (map string_bytes) c.as_slice.ensures.value ∙ c.in_ok-add_lowered-2.ensures
    ∙ ap (λ l. l ++ map (map to_ascii_lowercase) others) (c.in_ok-add_lowered.ensures ∙ ap (λ l. map string_bytes l ++ map (map to_ascii_lowercase) names) c.new-names.ensures.items)))
    c.are_names_new.ensures
