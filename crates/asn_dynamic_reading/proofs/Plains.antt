-- Values that are a field's default.
use Rattle.std.proofs.Common.{◌≡◌, refl, sym, ap, ◌∙◌, arith, ℕ, zero, suc, ℤ, pos, negsuc, Bool, true, false, not, nat_eq, if◌then◌else◌, ◌&&◌, Option, Some, None, ◌||◌}
use Rattle.std.specs.Ordering.{int_eq}
use Rattle.asn_core.specs.Numbers.{is_negative, magnitude, signed}
use Rattle.asn_coding.specs.SetFields.{kept_slot}
use Rattle.asn_model.specs.Shape.{Plain, Presence}
use Rattle.asn_model.specs.Value.{Value, is_kept, is_plain}

-- The slot of a field with a default.
pub default-left : (d : Plain) (v : Value) → is_plain d v ≡ true → kept_slot (Presence.default d) (Some v) ≡ None
default-left d v e = ap (λ b. if not b then Some v else None) e

pub default-kept : (d : Plain) (v : Value) → is_plain d v ≡ false → kept_slot (Presence.default d) (Some v) ≡ Some v
default-kept d v e = ap (λ b. if not b then Some v else None) e
