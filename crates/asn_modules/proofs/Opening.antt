-- The place of the type of a number.
use Rattle.std.proofs.Common.{◌≡◌, ℕ, List, [], length, map, true, Option, Some, None, ap, ◌∙◌}
use Rattle.std.specs.Prelude.{IfSome, nat_lt}
use Rattle.asn_linked.specs.Places.{place_shape}
use Rattle.asn_linked.specs.declared.place.Place.{Place}
use Rattle.asn_linked_types.specs.Expansion.{expansion}
use Rattle.asn_linked_types.specs.Linked.{are_linked, are_readable_among}
use Rattle.asn_linked_types.specs.declared.limits.TheConstants.{TYPE_LIMIT}
use Rattle.asn_linked_types.proofs.Expanding.{types-readable}
use Rattle.asn_model.proofs.Readables.{and-right}
use Rattle.asn_model.specs.Readable.{is_readable}
use Rattle.asn_model.specs.ShapeView.{shape_view}
use Rattle.asn_model.specs.declared.shape_type.Shape.{Shape}

-- By the type of a number, values can be read and written.
pub opened-readable : (types : List Shape) (number : ℕ) (place : Option Place) → are_linked (map shape_view types) ≡ true → IfSome place (λ p. place_shape [] p ≡ expansion (map shape_view types) (length types) [] number)
    → IfSome place (λ p. is_readable (place_shape [] p) ≡ true)
opened-readable types number None linked is = tt
opened-readable types number (Some p) linked is =
    let views = map shape_view types in
    ap is_readable is ∙ types-readable views (length views) (and-right (nat_lt (length views) TYPE_LIMIT) (are_readable_among (length views) views) linked) (length types) number
