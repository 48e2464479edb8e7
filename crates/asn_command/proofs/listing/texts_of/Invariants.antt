use Rattle.std.proofs.Common.{◌≡◌, ◌++◌, map, string_bytes}
use Rattle.asn_command.specs.Listings.{for_each}
use Rattle.asn_command.proofs.TextsOn.{texts_from}
use Rattle.asn_model.specs.ShapeView.{shape_view}
use Rattle.asn_modules.specs.Names.{type_name_view}
use Rattle.asn_command.proofs.listing.texts_of.Given as goal

abbrev pub invariant-loop-number : goal.invariant-loop-number
invariant-loop-number g l = for_each g.T.TypeText.text (map type_name_view l.names) (map shape_view l.types) ≡ string_bytes l.lines ++ texts_from g.T.TypeText.text l.names l.types l.number
