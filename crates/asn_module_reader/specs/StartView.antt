-- What a `Start` states.
use Rattle.asn_model.specs.ShapeView.{kind_view}
use Rattle.asn_notation.specs.Starts as spec
use Rattle.asn_notation.specs.View.{notation_view}
use Rattle.asn_module_reader.specs.declared.start.Start.{Start}
use Rattle.asn_module_reader.specs.declared.start.Start.TheVariants as start

-- What a `Start` states.
abbrev pub start_view : Start → spec.Start
start_view (start.Whole n) = spec.Start.whole (notation_view n)
start_view (start.Pair k n) = spec.Start.pair k (notation_view n)
start_view (start.Members kind) = spec.Start.members (kind_view kind)
start_view start.Choice = spec.Start.choice
start_view start.Enumerated = spec.Start.enumerated
start_view start.Nothing = spec.Start.nothing
