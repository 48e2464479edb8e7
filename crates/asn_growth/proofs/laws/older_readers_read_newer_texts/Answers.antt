use Rattle.std.proofs.Common.{◌⊎◌, Some, inl, inr}
use Rattle.asn_fault.specs.Failure.{Cause}
use Rattle.asn_model.specs.DecodesTo.{DecodesTo}
use Rattle.asn_model.specs.FailsWith.{Path}
use Rattle.asn_model.specs.Notation.{Notation}
use Rattle.asn_model.specs.Shape.{Shape}
use Rattle.asn_model.specs.Tree.{Tree}
use Rattle.asn_model.specs.Value.{Value}
use Rattle.asn_growth.specs.ComesUpon.{ComesUpon, IsUnknown, Known}
use Rattle.asn_growth.proofs.Forward.{forward, read-or-upon}
use Rattle.asn_growth.proofs.Unknowns.{fails_there}
use Rattle.asn_growth.proofs.laws.older_readers_read_newer_texts.Goals as goal

where_known : {n : Notation} {s : Shape} {t : Tree} {v : Value} → Known n s t → DecodesTo n s (Some t) v ⊎ ((p : Path) × (w : Cause) × ComesUpon n s t p w × IsUnknown w) → DecodesTo n s (Some t) v
where_known k (inl d) = d
where_known k (inr (p, w, u, i)) = absurd (k p w u i)

pub returns : goal.returns
returns c = record {
  known = λ n old new t v x a g h k. where_known k (read-or-upon v (forward x a g h));
  refused = λ n old new t v p y x a g h k. fails_there IsUnknown x (read-or-upon v (forward x a g h)) k;
  unknown = λ n old new t v x a g h. read-or-upon v (forward x a g h);
}
