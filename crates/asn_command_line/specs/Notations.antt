-- The notations of texts.
use Rattle.std.specs.Prelude.{◌≡◌, ◌⊎◌, ℕ, List, ◌||◌, bytes_eq, codes, if◌then◌else◌, nat_eq, Option, Some, None}
use Rattle.std.specs.List.{ends_with}
use Rattle.asn_core.specs.declared.codec.Codec.{Codec}
use Rattle.asn_core.specs.declared.codec.Codec.TheVariants.{Jer, Avn}

-- The codec is a notation of texts.
abbrev pub IsTextNotation : Codec → Type 0
IsTextNotation codec = (codec ≡ Jer) ⊎ (codec ≡ Avn)

-- The notation of that name.
abbrev pub notation_named : List ℕ → Option Codec
notation_named name = if bytes_eq name (codes "jer") then Some Jer else (if bytes_eq name (codes "avn") then Some Avn else None)

-- The notation that the end of a file's name tells.
abbrev pub notation_of_file : List ℕ → Option Codec
notation_of_file file = if ends_with nat_eq file (codes ".json") || ends_with nat_eq file (codes ".jer") then Some Jer else (if ends_with nat_eq file (codes ".avn") then Some Avn else None)
