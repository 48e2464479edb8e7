use Rattle.std.proofs.Common.{length, string_bytes}
use denote.Shadow.{shadow}
use denote.Text.{Utf8}
use Rattle.asn_filter.proofs.Gathering.{Underway}
use Rattle.asn_model.specs.ShapeView.{shape_view}
use Rattle.asn_filter.proofs.keeping.cut_lines.Given as goal

abbrev pub decreases-lines : goal.decreases-lines
decreases-lines l = length l.rest

abbrev pub invariant-lines : goal.invariant-lines
invariant-lines l =
    Underway l.from (shape_view l.old) (shape_view l.new) l.input l.rest (string_bytes l.kept.text) l.kept.refused.items l.number × shadow (Utf8 l.rest)
