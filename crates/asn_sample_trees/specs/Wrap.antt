-- INTEGER (0..255), by way of other types
use Rattle.std.specs.Prelude.{pos}
use Rattle.asn_traits.specs.Value.{Value}
use Rattle.asn_sample_trees.specs.declared.wrap.Wrap1.{Wrap1}
use Rattle.asn_sample_trees.specs.declared.wrap.Wrap2.{Wrap2}

-- The value that a Wrap1 stands for.
abbrev pub wrap_1_value : Wrap1 → Value
wrap_1_value x = Value.int (pos x.0)

-- The value that a Wrap2 stands for.
abbrev pub wrap_2_value : Wrap2 → Value
wrap_2_value x = wrap_1_value x.0
