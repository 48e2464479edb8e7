use Rattle.std.proofs.Common.{◌≡◌, take, true}
use Rattle.asn_model.specs.Enclosing.{loops_of}
use Rattle.asn_model.specs.Readable.{are_fields_readable, are_alternatives_readable}
use Rattle.asn_model.specs.ShapeView.{field_views, alternative_views}
use Rattle.asn_model.proofs.readable.+readable.Given as goal

abbrev pub invariant-are_alternatives_readable-loop-alternative : goal.invariant-are_alternatives_readable-loop-alternative
invariant-are_alternatives_readable-loop-alternative l = are_alternatives_readable (loops_of l.around) (alternative_views (take l.alternative-index l.alternatives)) ≡ true

abbrev pub invariant-are_fields_readable-loop-field : goal.invariant-are_fields_readable-loop-field
invariant-are_fields_readable-loop-field l = are_fields_readable (loops_of l.around) (field_views (take l.field-index l.fields)) ≡ true
