use Rattle.std.proofs.Common.{◌≡◌, ◌<◌, ◌++◌, [], map, reverse, get_or, ap, ◌∙◌, string_bytes}
use Rattle.std.proofs.lemmas.List.{reverse-reverse}
use Rattle.asn_model.specs.ShapeView.{shape_view}
use Rattle.asn_growth.specs.Parts.{node_count}
use Rattle.asn_growth.specs.Paths.{paths}
use Rattle.asn_growth.proofs.Steps.{found-only, reverse-mapped}
use Rattle.asn_growth.proofs.ways.place_path.Goals as goal

pub returns : goal.returns
returns c =
    let s = shape_view c.args.shape.now in
    let way = get_or (paths s) c.args.place [] in
    let found = c.add_steps.new.path.items in
    let m = found-only c.in_ok-_found._found (node_count s) c.args.place ((c.args.place < node_count s) × (map string_bytes found ≡ map string_bytes c.new-path.result.items ++ reverse way)) (λ left. found ≡ c.new-path.result.items) c.requires c.in_ok-_found.ensures in
    ap (λ l. map string_bytes l) c.reverse.ensures.items ∙ reverse-mapped string_bytes found ∙ ap reverse (m.1 ∙ ap (λ l. map string_bytes l ++ reverse way) c.new-path.ensures.items) ∙ reverse-reverse way
