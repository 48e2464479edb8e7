-- The two text notations.
use Rattle.asn_core.specs.declared.codec.Codec.{Codec}
use Rattle.asn_core.specs.declared.codec.Codec.TheVariants.{Jer, Avn}

-- A text notation, or a codec that is neither, of which the laws say nothing.
pub data Notation : Type 0 where
  jer : Notation
  avn : Notation
  other : Notation

-- The notation that a codec writes and reads.
abbrev pub notation_of : Codec → Notation
notation_of Jer = Notation.jer
notation_of Avn = Notation.avn
notation_of _ = Notation.other

-- The laws speak of the notation.
abbrev pub IsText : Notation → Type 0
IsText Notation.jer = Unit {0}
IsText Notation.avn = Unit {0}
IsText Notation.other = ⊥
