-- OldParts are equal exactly where their values are.
use Rattle.std.specs.Prelude.{◌≡◌, ◌↔◌, pos, true, refl, nat_eq, codes}
use Rattle.asn_traits.specs.SetElements.{numbers_alike, texts_alike, unsigned_alike}
use Rattle.asn_sample_choices.specs.Elements.{other_alternative, same_alternative}
use Rattle.asn_sample_choices.specs.OldPart.{old_part_value}
use Rattle.asn_sample_choices.specs.contracts.old_part.OldPartPartialEq.TheImpl as derived
use Rattle.asn_sample_choices.specs.declared.old_part.OldPart.{OldPart}
use Rattle.asn_sample_choices.specs.declared.old_part.OldPart.TheVariants.{Code, Text}

pub old_parts_alike : (a b : OldPart) → (derived.ghosts.eq a b ≡ true) ↔ (old_part_value a ≡ old_part_value b)
old_parts_alike (Code a) (Code b) = same_alternative (codes "code") _ _ (numbers_alike nat_eq pos unsigned_alike a b)
old_parts_alike (Text a) (Text b) = same_alternative (codes "text") _ _ (texts_alike a b)
old_parts_alike (Code a) (Text b) = other_alternative (codes "code") (codes "text") _ _ refl refl
old_parts_alike (Text a) (Code b) = other_alternative (codes "text") (codes "code") _ _ refl refl
