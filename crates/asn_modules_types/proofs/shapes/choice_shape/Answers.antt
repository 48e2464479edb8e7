use Rattle.std.proofs.Common.{◌≡◌, ◌∙◌, ap, length, option_map, sym}
use Rattle.asn_model.proofs.Viewing.{added_alternative_views, choice_viewed}
use Rattle.asn_model.specs.Shape.{Shape}
use Rattle.asn_modules_types.specs.Known.{lists_view, parts_view}
use Rattle.asn_modules_types.specs.Types.{added_alternatives_from, alternatives_from, choice_shape}
use Rattle.asn_modules_types.proofs.Tagged.{alternatives_closed, alternatives_extended}
use Rattle.asn_modules_types.proofs.shapes.choice_shape.Goals as goal
use Rattle.asn_modules_types.proofs.shapes.choice_shape.Goals.{in-Some-added+in_ok-alternatives_of-in-Some-added, in-None}

pub returns : goal.returns
returns c =
    let lists = c.in-Some.lists in
    let root = parts_view lists.root in
    let made = c.match-lists-3.added in
    let added : added_alternative_views made ≡ added_alternatives_from (length root) (option_map parts_view lists.added) = elim c.match-lists-3.branch [
      | in-Some-added+in_ok-alternatives_of-in-Some-added w ↦
          alternatives_extended c.alternatives_of.new.tag lists.root.items lists.added w.in-Some-added.added made w.in_ok-alternatives_of-in-Some-added.field-0 c.in_ok-alternatives.ensures.tags w.in-Some-added.is w.added-is (rw w.in-Some-added.is at w.in_ok-alternatives_of-in-Some-added.ensures.alternatives)
      | in-None w ↦ alternatives_closed (length root) lists.added made w.in-None.is w.added-is
    ] in
    choice_viewed c.in_ok-alternatives.alternatives made
    ∙ ap (λ f. Shape.choice f (added_alternative_views made)) c.in_ok-alternatives.ensures.alternatives
    ∙ ap (Shape.choice (alternatives_from 0 root)) added
    ∙ sym (ap (λ o. choice_shape (option_map lists_view o)) c.in-Some.is)
