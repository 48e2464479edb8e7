use Rattle.std.proofs.Common.{◌≡◌, ◌+◌, length, map}
use Rattle.asn_model.specs.ShapeView.{field_views}
use Rattle.asn_modules_types.specs.Known.{part_view}
use Rattle.asn_modules_types.specs.Types.{fields_from}
use Rattle.asn_modules_types.proofs.parts.fields_of.Given as goal

abbrev pub invariant-loop-part : goal.invariant-loop-part
invariant-loop-part l = (field_views l.fields.items ≡ fields_from l.fn.tag (map part_view l.yielded)) × (l.tag ≡ l.fn.tag + length l.yielded)
