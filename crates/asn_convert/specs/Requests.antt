-- What an input asks for.
use Rattle.std.specs.Prelude.{ℕ, List, [], ◌∷◌, Bool, ◌&&◌, bytes_eq, codes, if◌then◌else◌, length, nat_le, Option, Some, None, ◌≤◌}
use Rattle.std.specs.Option.{option_and_then, option_map}
use Rattle.asn_core.specs.declared.codec.Codec.{Codec}
use Rattle.asn_core.specs.declared.codec.Codec.TheVariants.{Jer, Avn}
use Rattle.asn_notation.specs.Starts.{is_type_name}
use Rattle.asn_samples.specs.Samples.{sample_named}
use Rattle.asn_samples.specs.declared.sample.Sample.{Sample}
use Rattle.asn_traits.specs.Digits.{digits}
use Rattle.asn_convert.specs.Lines.{request_line, text_part, words}
use Rattle.asn_convert.specs.declared.limits.TheConstants.{MOST_ENTRIES}
use Rattle.avn_grammar.specs.WellFormed.{is_identifier}
use Rattle.avn_grammar.specs.declared.limits.TheConstants.{LEVEL_LIMIT, GREATEST_LEVEL_LIMIT}

-- What an input asks for.
pub data Request : Type 0 where
  -- To convert a text from one notation to another, as a value of the sample type, with a limit on levels.
  conversion : Codec → Codec → Sample → ℕ → Request
  -- To make a document of so many entries.
  document : ℕ → Request
  -- To print the module that the text stands for.
  printing : Request
  -- To compare two types of the module that the text stands for: of these names, the older one first.
  growth : List ℕ → List ℕ → Request
  -- To cut a stream in this notation, of values of the second sample type, to what the first one knows.
  keeping : Codec → Sample → Sample → Request

-- the text notation of that name
abbrev pub notation_named : List ℕ → Option Codec
notation_named name = if bytes_eq name (codes "jer") then Some Jer else (if bytes_eq name (codes "avn") then Some Avn else None)

-- the request for a sample from one notation to another with a limit on levels, where all four are there
abbrev pub conversion_for : Option Codec → Option Codec → Option Sample → Option ℕ → Option Request
conversion_for (Some from) (Some to) (Some sample) (Some limit) = Some (Request.conversion from to sample limit)
conversion_for _ _ _ _ = None

-- the word is the name of a type of a module
abbrev pub names_type : List ℕ → Bool
names_type word = is_identifier word && is_type_name word

-- the request to compare the types of these names, where both are names of types
abbrev pub growth_for : List ℕ → List ℕ → Option Request
growth_for old new = if names_type old && names_type new then Some (Request.growth old new) else None

-- the request to cut a stream in a notation to what the older of two samples knows, where all three are there
abbrev pub keeping_for : Option Codec → Option Sample → Option Sample → Option Request
keeping_for (Some from) (Some old) (Some new) = Some (Request.keeping from old new)
keeping_for _ _ _ = None

-- the number, if it is at most the other
abbrev pub if_at_most : ℕ → ℕ → Option ℕ
if_at_most most n = if nat_le n most then Some n else None

-- the number at most `most` that a word of at most so many decimal digits is
abbrev pub short_number : ℕ → ℕ → List ℕ → Option ℕ
short_number width most word = if nat_le (length word) width then option_and_then (if_at_most most) (digits word) else None

-- the number of entries that a word is
abbrev pub count_of : List ℕ → Option ℕ
count_of word = short_number 6 MOST_ENTRIES word

-- the limit on levels that a word is
abbrev pub limit_of : List ℕ → Option ℕ
limit_of word = short_number 3 GREATEST_LEVEL_LIMIT word

-- the request that these words are
abbrev pub request_of_words : List (List ℕ) → Option Request
request_of_words [] = None
request_of_words (first ∷ []) = if bytes_eq first (codes "module") then Some Request.printing else None
request_of_words (first ∷ second ∷ []) = if bytes_eq first (codes "make") then option_map Request.document (count_of second) else None
request_of_words (first ∷ second ∷ third ∷ []) = if bytes_eq first (codes "grows") then growth_for second third else conversion_for (notation_named first) (notation_named second) (sample_named third) (Some LEVEL_LIMIT)
request_of_words (first ∷ second ∷ third ∷ fourth ∷ []) = if bytes_eq first (codes "keep") then keeping_for (notation_named second) (sample_named third) (sample_named fourth) else conversion_for (notation_named first) (notation_named second) (sample_named third) (limit_of fourth)
request_of_words (from ∷ to ∷ name ∷ limit ∷ other ∷ more) = None

-- the request, unless it is one to make a document and stands before a text
abbrev pub before_text : Option Request → List ℕ → Option Request
before_text (Some (Request.document n)) (b ∷ bs) = None
before_text asked text = asked

-- the request that an input makes
abbrev pub request_of : List ℕ → Option Request
request_of input = before_text (request_of_words (words (request_line input))) (text_part input)

-- the request names no limit on levels above the greatest, and no document with more entries than one may have
abbrev pub KeepsLimits : Request → Type 0
KeepsLimits (Request.conversion from to sample limit) = limit ≤ GREATEST_LEVEL_LIMIT
KeepsLimits (Request.document n) = n ≤ MOST_ENTRIES
KeepsLimits Request.printing = Unit {0}
KeepsLimits (Request.growth old new) = Unit {0}
KeepsLimits (Request.keeping from old new) = Unit {0}
