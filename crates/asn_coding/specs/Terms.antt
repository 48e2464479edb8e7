-- Words for the shapes of types.
use Rattle.std.specs.Prelude.{ℕ, ◌-◌, ◌^◌, pos, negsuc}
use Rattle.asn_core.specs.declared.tag.Tag.{Tag}
use Rattle.asn_core.specs.declared.tag.Class.TheVariants.{Context}
use Rattle.asn_model.specs.Shape.{Shape, Alphabet}

-- The context tag of that number.
abbrev pub context : ℕ → Tag
context k = record { class = Context; value = k }

-- INTEGER, of the unsigned numbers of so many bits.
abbrev pub unsigned : ℕ → Shape
unsigned width = Shape.int (pos 0) (pos (2 ^ width - 1)) width

-- INTEGER, of the signed numbers of so many bits.
abbrev pub signed : ℕ → Shape
signed width = Shape.int (negsuc (2 ^ (width - 1) - 1)) (pos (2 ^ (width - 1) - 1)) width

-- UTF8String.
abbrev pub utf8_string : Shape
utf8_string = Shape.text Alphabet.utf8
