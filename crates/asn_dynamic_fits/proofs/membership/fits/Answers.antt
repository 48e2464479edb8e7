use Rattle.std.proofs.Common.{List, Bor, Decides, subst}
use Rattle.asn_dynamic_fits.proofs.Meant.{root-meant, root-part}
use Rattle.asn_dynamic_values.specs.DynView.{dyn_value}
use Rattle.asn_model.specs.Shape as spec
use Rattle.asn_model.specs.ShapeView.{shape_view}
use Rattle.asn_model.specs.Value.{Fits}
use Rattle.asn_model.specs.declared.shape_type.Shape.{Shape}
use Rattle.asn_dynamic_fits.proofs.membership.fits.Goals as goal

abbrev seen : List (Bor Shape) → Bor Shape → spec.Shape
seen around part = shape_view part.now

pub fits_part-requires : goal.fits_part-requires
fits_part-requires c = root-part seen c.args.shape c.requires

pub returns : goal.returns
returns c = subst (λ s. Decides c.fits_part.result (Fits s (dyn_value c.args.value.now))) (root-meant seen c.args.shape) c.fits_part.ensures
