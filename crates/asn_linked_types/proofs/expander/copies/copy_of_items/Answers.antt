use Rattle.std.proofs.Common.{◌∙◌, None, Some, ap, sym, map, option_map, string_bytes}
use Rattle.asn_linked_types.proofs.expander.Texts.{texts-copied}
use Rattle.asn_linked_types.proofs.Within.{enum-viewed}
use Rattle.asn_model.specs.Shape.{Shape}
use Rattle.asn_linked_types.proofs.expander.copies.copy_of_items.Goals as goal

pub returns-in_ok-added-in-Some : goal.returns-in_ok-added-in-Some
returns-in_ok-added-in-Some c =
    let items = texts-copied c.args.items.now.items c.in_ok-items.items.items c.in_ok-items.ensures.cases.0 in
    let added = texts-copied c.in-Some.added.items c.in_ok-added-in-Some.added.items c.in_ok-added-in-Some.ensures.cases.0 in
    enum-viewed c.in_ok-items.items (Some c.in_ok-added-in-Some.added) ∙ (λ i. Shape.enum (items i) (Some (added i))) ∙ ap (λ o. Shape.enum (map string_bytes c.args.items.now.items) (option_map (λ v. map string_bytes v.items) o)) (sym c.in-Some.is)

pub returns-in-None : goal.returns-in-None
returns-in-None c =
    let items = texts-copied c.args.items.now.items c.in_ok-items.items.items c.in_ok-items.ensures.cases.0 in
    enum-viewed c.in_ok-items.items None ∙ ap (λ l. Shape.enum l None) items ∙ ap (λ o. Shape.enum (map string_bytes c.args.items.now.items) (option_map (λ v. map string_bytes v.items) o)) (sym c.in-None.is)
