use Rattle.std.proofs.Common.{◌≡◌, ◌<◌, ◌∙◌, arith, length, map, sym}
use Rattle.std.proofs.lemmas.List.{length-map}
use Rattle.asn_linked_types.proofs.Expanding.{types-readable}
use Rattle.asn_linked_types.proofs.Within.{linked-is}
use Rattle.asn_linked_types.specs.declared.limits.TheConstants.{TYPE_LIMIT}
use Rattle.asn_model.specs.ShapeView.{shape_view}
use Rattle.asn_linked_types.proofs.readable.are_linked.Goals as goal

pub returns : goal.returns
returns c =
    let types = c.args.types.now in
    let views = map shape_view types in
    let long : length types ≡ length views = sym (length-map types shape_view) in
    let few : length types < TYPE_LIMIT = omega (arith, c.if-types-ge-TYPE_LIMIT.false) in
    record {
      linked = c.are_readable_among.ensures ∙ linked-is views (length types) long few;
      few = λ e. few;
      readable = λ e n. types-readable views (length types) (sym c.are_readable_among.ensures ∙ e) (length types) n;
    }
