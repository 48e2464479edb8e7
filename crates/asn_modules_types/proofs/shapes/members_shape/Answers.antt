use Rattle.std.proofs.Common.{◌≡◌, ◌∙◌, ap, length, option_map, sym}
use Rattle.asn_model.proofs.Viewing.{sequence_viewed}
use Rattle.asn_model.specs.Shape.{Shape}
use Rattle.asn_model.specs.ShapeView.{added_field_views, kind_view}
use Rattle.asn_modules_types.specs.Known.{lists_view, parts_view}
use Rattle.asn_modules_types.specs.Types.{added_fields_from, fields_from, members_shape}
use Rattle.asn_modules_types.proofs.Tagged.{fields_closed, fields_extended}
use Rattle.asn_modules_types.proofs.shapes.members_shape.Goals as goal
use Rattle.asn_modules_types.proofs.shapes.members_shape.Goals.{in-Some-added+in_ok-fields_of-in-Some-added, in-None}

pub returns : goal.returns
returns c =
    let kind = kind_view c.args.kind in
    let lists = c.in-Some.lists in
    let root = parts_view lists.root in
    let made = c.match-lists-3.added in
    let added : added_field_views made ≡ added_fields_from (length root) (option_map parts_view lists.added) = elim c.match-lists-3.branch [
      | in-Some-added+in_ok-fields_of-in-Some-added w ↦
          fields_extended c.fields_of.new.tag lists.root.items lists.added w.in-Some-added.added made w.in_ok-fields_of-in-Some-added.field-0 c.in_ok-fields.ensures.tags w.in-Some-added.is w.added-is (rw w.in-Some-added.is at w.in_ok-fields_of-in-Some-added.ensures.fields)
      | in-None w ↦ fields_closed (length root) lists.added made w.in-None.is w.added-is
    ] in
    sequence_viewed c.args.kind c.in_ok-fields.fields made
    ∙ ap (λ f. Shape.seq kind f (added_field_views made)) c.in_ok-fields.ensures.fields
    ∙ ap (Shape.seq kind (fields_from 0 root)) added
    ∙ sym (ap (λ o. members_shape kind (option_map lists_view o)) c.in-Some.is)
