use Rattle.std.proofs.Common.{◌∙◌, ap, sym, map, Some}
use Rattle.asn_dynamic_fits.specs.Contents.{members_in}
use Rattle.asn_dynamic_values.specs.DynView.{dyn_value, members_named, named_value}
use Rattle.asn_dynamic_values.proofs.Views.{view-Members}
use Rattle.asn_dynamic_fits.proofs.contents.members_of.Goals as goal

pub returns-in-Members : goal.returns-in-Members
returns-in-Members c =
    ap (λ l. Some (members_named (map named_value l))) c.as_slice.ensures.value
    ∙ sym (ap (λ v. members_in (dyn_value v)) c.in-Members.is ∙ ap members_in (view-Members c.in-Members.members))
