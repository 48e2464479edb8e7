-- NewPart is a later version of OldPart.
use Rattle.std.proofs.Common.{refl}
use Rattle.asn_growth.specs.Grows.{Grows, GrowsAlternatives, BeginsAlternatives}
use Rattle.asn_sample_choices.specs.NewPart.{new_part_shape}
use Rattle.asn_sample_choices.specs.OldPart.{old_part_shape}

-- The alternatives before the marker are the same, and after it the older type has none.
pub part_grows : Grows old_part_shape new_part_shape
part_grows =
    Grows.grows_choice (GrowsAlternatives.grows_alternative (Grows.grows_same refl) (GrowsAlternatives.grows_alternative (Grows.grows_same refl) GrowsAlternatives.grows_no_alternatives)) BeginsAlternatives.begins_alternatives
