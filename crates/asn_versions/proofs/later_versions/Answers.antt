use Rattle.std.proofs.Common.{[], ◌∷◌, refl}
use Rattle.std.specs.Prelude.{codes}
use Rattle.asn_growth.specs.Grows.{Grows, GrowsFields, BeginsFields}
use Rattle.asn_sample_fields.specs.ExtEnum.{ext_enum_shape}
use Rattle.asn_sample_fields.specs.SimpleEnum.{simple_enum_shape}
use Rattle.asn_versions.proofs.Parts.{part_grows}
use Rattle.asn_versions.proofs.later_versions.Goals as goal

no_marker : Grows simple_enum_shape ext_enum_shape → ⊥
no_marker g = elim g [ ]

pub returns : goal.returns
returns c = record {
  mode = Grows.grows_enum (codes "low" ∷ []) [] (codes "high" ∷ []);
  part = part_grows;
  report = Grows.grows_seq (GrowsFields.grows_field (Grows.grows_same refl) (GrowsFields.grows_field (Grows.grows_set part_grows) GrowsFields.grows_no_fields)) BeginsFields.begins_fields;
  tree = Grows.grows_loop (Grows.grows_seq (GrowsFields.grows_field (Grows.grows_list (Grows.grows_same refl)) GrowsFields.grows_no_fields) BeginsFields.begins_fields);
  no_marker = no_marker;
}
