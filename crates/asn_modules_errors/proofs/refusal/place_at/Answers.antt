use Rattle.asn_modules_errors.proofs.Refusals.{same_place}
use Rattle.asn_modules_errors.proofs.refusal.place_at.Goals as goal

pub returns : goal.returns
returns c = same_place c.place_of.result _ _ c.place_of.ensures.line c.place_of.ensures.column
