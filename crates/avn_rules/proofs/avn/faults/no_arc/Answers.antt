use Rattle.std.proofs.Common.{ap, ◌∙◌, inl}
use Rattle.asn_core.specs.declared.codec.Codec.TheVariants.{Avn}
use Rattle.asn_fault.specs.Failure.{Cause, at_root}
use Rattle.avn_rules.proofs.LeafNodes.{present_is}
use Rattle.asn_model.specs.declared.words.TheConstants.{AVN_ARC}
use Rattle.avn_rules.proofs.avn.faults.no_arc.Goals as goal

pub returns-in-Ok : goal.returns-in-Ok
returns-in-Ok c = inl (c.avn_error.ensures ∙ ap (λ t. at_root (Cause.type_mismatch Avn AVN_ARC.now t) Avn) (c.in-Ok.ensures _ (present_is _ c.requires.1)))
