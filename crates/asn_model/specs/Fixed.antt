-- The size that constraints fix (X.680, section 51.5).
use Rattle.std.specs.Prelude.{ℕ, if◌then◌else◌, Option, Some, None}
use Rattle.asn_core.specs.Constraints.{any_has_marker, first_size_constraint}
use Rattle.asn_core.specs.declared.constraint.Bounded.{Bounded}
use Rattle.asn_core.specs.declared.constraint.Bounded.TheVariants.{None as Anything, Single, Range}
use Rattle.asn_core.specs.declared.constraint.Constraints.{Constraints}
use Rattle.asn_core.specs.declared.constraint.Extensible.{Extensible}
use Rattle.asn_core.specs.declared.constraint.Size.{Size}

-- The one number that is admitted, if it is one.
abbrev pub single : Bounded ℕ → Option ℕ
single Anything = None
single (Single n) = Some n
single (Range start end) = None

-- The one size that a constraint admits, if it is one.
abbrev pub single_size : Option (Extensible Size) → Option ℕ
single_size None = None
single_size (Some size) = single size.constraint.bounds

-- The size that constraints fix: an extensible size doesn't count as fixed.
abbrev pub fixed_size : Constraints → Option ℕ
fixed_size c = if any_has_marker c.items.now then None else single_size (first_size_constraint c.items.now)
