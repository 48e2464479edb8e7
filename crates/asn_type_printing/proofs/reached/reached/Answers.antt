use Rattle.std.proofs.Common.{◌∙◌, ap, sym, length, map}
use Rattle.std.proofs.lemmas.List.{length-map}
use Rattle.asn_model.specs.ShapeView.{shape_view}
use Rattle.asn_type_printing.proofs.Gathered.{reached-next}
use Rattle.asn_type_printing.proofs.reached.reached.Goals as goal

pub loop-place-preserved : goal.loop-place-preserved
loop-place-preserved c =
    reached-next (map shape_view c.args.types.now) (length c.args.types.now) c.loop-place.place c.loop-place.found.keys c.add_from.new.found.keys _ c.loop-place-test.true (length-map c.args.types.now shape_view) c.in_ok-add_from.ensures c.loop-place.invariant
