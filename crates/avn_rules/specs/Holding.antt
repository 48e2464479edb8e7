-- What the encoder holds.
use Rattle.std.specs.Prelude.{◌≡◌, List, map}
use Rattle.asn_slots.specs.Trees.{trees_of}
use Rattle.asn_traits.specs.Canonical.{avn_tree}
use Rattle.asn_coding.specs.Writing.{Frame}
use Rattle.avn_rules.specs.declared.avn.enc.Encoder.{Encoder}

-- The encoder has the trees that are written for the values of these frames.
abbrev pub Holds : Encoder → List Frame → Type 0
Holds e fs = map (trees_of avn_tree) fs ≡ e.frames
