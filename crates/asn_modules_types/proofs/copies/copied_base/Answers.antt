use Rattle.std.proofs.Common.{◌∙◌, ap, sym}
use Rattle.asn_modules_names.specs.lookup.Homes.{home_view}
use Rattle.asn_modules_grammar.specs.notation.View.{items_view}
use Rattle.asn_modules_reader.proofs.Viewing.{enumerated_viewed}
use Rattle.asn_modules_reader.specs.Views.{base_view}
use Rattle.asn_modules_types.specs.Linked.{copied_base}
use Rattle.asn_modules_types.proofs.Copying.{few_copied, many_named}
use Rattle.asn_modules_types.proofs.Seen.{back_viewed}
use Rattle.asn_modules_types.proofs.copies.copied_base.Goals as goal

pub returns-in_ok-enumerated_shape-in-Some : goal.returns-in_ok-enumerated_shape-in-Some
returns-in_ok-enumerated_shape-in-Some c =
    let h = home_view c.args.scope.now.home in
    let e = c.in-Enumerated in
    c.in_ok-enumerated_shape-in-Some.ensures ∙ few_copied c.args.number h (items_view e.items e.added) _ c.in-Some.ensures
    ∙ ap (copied_base c.args.number h) (sym (ap base_view e.is ∙ enumerated_viewed e.items e.added))

pub returns-in-None : goal.returns-in-None
returns-in-None c =
    let h = home_view c.args.scope.now.home in
    let e = c.in-Enumerated in
    back_viewed c.args.number ∙ many_named c.args.number h (items_view e.items e.added) c.in-None.ensures
    ∙ ap (copied_base c.args.number h) (sym (ap base_view e.is ∙ enumerated_viewed e.items e.added))
