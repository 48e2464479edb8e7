-- When two refusals are the same.
use Rattle.std.specs.Prelude.{◌≡◌, []}
use Rattle.asn_fault.specs.Failure.{Cause, Failure}

-- What is wrong, without the name of a CHOICE type, which a type that a program holds doesn't have.
abbrev pub without_name : Cause → Cause
without_name (Cause.no_valid_choice name) = Cause.no_valid_choice []
without_name cause = cause

-- The refusals are of the same fields and codecs, and for the same reason but for that name.
pub record AreAlike (f g : Failure) : Type 0 where
  pub path : f.path ≡ g.path
  pub cause : without_name f.cause ≡ without_name g.cause
  pub codec : f.codec ≡ g.codec
