-- SEQUENCE OF Nest, a type that its own parts name
use Rattle.asn_traits.specs.Shape.{Shape}
use Rattle.asn_traits.specs.Value.{Value, values}
use Rattle.asn_sample_trees.specs.declared.nest.Nest.{Nest}
use Rattle.asn_sample_trees.specs.declared.nest.Nest.TheOpen.{Nest-F}
use Rattle.asn_sample_trees.specs.declared.nest.Nest.TheFolds.{fold-Nest}

-- The shape of Nest: a list of what the loop around it is.
abbrev pub nest_shape : Shape
nest_shape = Shape.loop (Shape.list_of (Shape.back 0))

-- The value of one Nest, with the values of those in it in their places.
abbrev pub nest_step : Nest-F Value → Value
nest_step n = Value.list (values (λ v. v) n.0.items)

-- The value that a Nest stands for.
abbrev pub nest_value : Nest → Value
nest_value = fold-Nest Value nest_step
