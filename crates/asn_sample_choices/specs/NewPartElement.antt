-- NewParts are equal exactly where their values are.
use Rattle.std.specs.Prelude.{◌≡◌, ◌↔◌, pos, true, refl, nat_eq, codes}
use Rattle.asn_traits.specs.SetElements.{flags_alike, numbers_alike, texts_alike, unsigned_alike}
use Rattle.asn_sample_choices.specs.Elements.{other_alternative, same_alternative}
use Rattle.asn_sample_choices.specs.NewPart.{new_part_value}
use Rattle.asn_sample_choices.specs.contracts.new_part.NewPartPartialEq.TheImpl as derived
use Rattle.asn_sample_choices.specs.declared.new_part.NewPart.{NewPart}
use Rattle.asn_sample_choices.specs.declared.new_part.NewPart.TheVariants.{Code, Text, Flag}

pub new_parts_alike : (a b : NewPart) → (derived.ghosts.eq a b ≡ true) ↔ (new_part_value a ≡ new_part_value b)
new_parts_alike (Code a) (Code b) = same_alternative (codes "code") _ _ (numbers_alike nat_eq pos unsigned_alike a b)
new_parts_alike (Text a) (Text b) = same_alternative (codes "text") _ _ (texts_alike a b)
new_parts_alike (Flag a) (Flag b) = same_alternative (codes "flag") _ _ (flags_alike a b)
new_parts_alike (Code a) (Text b) = other_alternative (codes "code") (codes "text") _ _ refl refl
new_parts_alike (Code a) (Flag b) = other_alternative (codes "code") (codes "flag") _ _ refl refl
new_parts_alike (Text a) (Code b) = other_alternative (codes "text") (codes "code") _ _ refl refl
new_parts_alike (Text a) (Flag b) = other_alternative (codes "text") (codes "flag") _ _ refl refl
new_parts_alike (Flag a) (Code b) = other_alternative (codes "flag") (codes "code") _ _ refl refl
new_parts_alike (Flag a) (Text b) = other_alternative (codes "flag") (codes "text") _ _ refl refl
