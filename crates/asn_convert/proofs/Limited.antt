-- A request keeps the limits: that on the levels which a request may name, and that on the entries of a document.
use Rattle.std.proofs.Common.{◌≡◌, ◌≤◌, ℕ, List, [], ◌∷◌, length, Bool, true, false, ◌&&◌, nat_le, if◌then◌else◌, bytes_eq, codes, Option, Some, None, IfSome, refl, subst}
use Rattle.std.proofs.lemmas.Bool.{leb-true}
use Rattle.std.specs.Option.{option_and_then, option_map}
use Rattle.asn_core.specs.declared.codec.Codec.{Codec}
use Rattle.asn_samples.specs.Samples.{sample_named}
use Rattle.asn_samples.specs.declared.sample.Sample.{Sample}
use Rattle.asn_traits.specs.Digits.{digits}
use Rattle.avn_grammar.specs.declared.limits.TheConstants.{LEVEL_LIMIT, GREATEST_LEVEL_LIMIT}
use Rattle.asn_convert.specs.Requests.{KeepsLimits, Request, before_text, conversion_for, count_of, growth_for, if_at_most, keeping_for, limit_of, names_type, notation_named, request_of_words, short_number}
use Rattle.asn_convert.specs.declared.limits.TheConstants.{MOST_ENTRIES}

number_small : (width most : ℕ) (word : List ℕ) → IfSome (short_number width most word) (λ n. n ≤ most)
number_small width most word = short (nat_le (length word) width)
  where
    few : (n : ℕ) (b : Bool) → nat_le n most ≡ b → IfSome (if b then Some n else None) (λ n. n ≤ most)
    few n true is = leb-true n most is
    few n false is = tt

    number : (o : Option ℕ) → IfSome (option_and_then (if_at_most most) o) (λ n. n ≤ most)
    number None = tt
    number (Some n) = few n (nat_le n most) refl

    short : (b : Bool) → IfSome (if b then option_and_then (if_at_most most) (digits word) else None) (λ n. n ≤ most)
    short true = number (digits word)
    short false = tt

made_limited : (o : Option ℕ) → IfSome o (λ n. n ≤ MOST_ENTRIES) → IfSome (option_map Request.document o) KeepsLimits
made_limited None few = tt
made_limited (Some n) few = few

converted_limited : (from to : Option Codec) (sample : Option Sample) (limit : Option ℕ) → IfSome limit (λ n. n ≤ GREATEST_LEVEL_LIMIT) → IfSome (conversion_for from to sample limit) KeepsLimits
converted_limited None to sample limit small = tt
converted_limited (Some from) None sample limit small = tt
converted_limited (Some from) (Some to) None limit small = tt
converted_limited (Some from) (Some to) (Some sample) None small = tt
converted_limited (Some from) (Some to) (Some sample) (Some limit) small = small

growth_limited : (old new : List ℕ) → IfSome (growth_for old new) KeepsLimits
growth_limited old new = by (names_type old && names_type new)
  where
    by : (b : Bool) → IfSome (if b then Some (Request.growth old new) else None) KeepsLimits
    by true = tt
    by false = tt

keeping_limited : (from : Option Codec) (old new : Option Sample) → IfSome (keeping_for from old new) KeepsLimits
keeping_limited None old new = tt
keeping_limited (Some from) None new = tt
keeping_limited (Some from) (Some old) None = tt
keeping_limited (Some from) (Some old) (Some new) = tt

words_limited : (ws : List (List ℕ)) → IfSome (request_of_words ws) KeepsLimits
words_limited [] = tt
words_limited (first ∷ []) = by (bytes_eq first (codes "module"))
  where
    by : (b : Bool) → IfSome (if b then Some Request.printing else None) KeepsLimits
    by true = tt
    by false = tt
words_limited (first ∷ second ∷ []) = by (bytes_eq first (codes "make"))
  where
    by : (b : Bool) → IfSome (if b then option_map Request.document (count_of second) else None) KeepsLimits
    by true = made_limited (count_of second) (number_small 6 MOST_ENTRIES second)
    by false = tt
words_limited (first ∷ second ∷ third ∷ []) = by (bytes_eq first (codes "grows"))
  where
    by : (b : Bool) → IfSome (if b then growth_for second third else conversion_for (notation_named first) (notation_named second) (sample_named third) (Some LEVEL_LIMIT)) KeepsLimits
    by true = growth_limited second third
    by false = converted_limited (notation_named first) (notation_named second) (sample_named third) (Some LEVEL_LIMIT) (leb-true LEVEL_LIMIT GREATEST_LEVEL_LIMIT refl)
words_limited (first ∷ second ∷ third ∷ fourth ∷ []) = by (bytes_eq first (codes "keep"))
  where
    by : (b : Bool) → IfSome (if b then keeping_for (notation_named second) (sample_named third) (sample_named fourth) else conversion_for (notation_named first) (notation_named second) (sample_named third) (limit_of fourth)) KeepsLimits
    by true = keeping_limited (notation_named second) (sample_named third) (sample_named fourth)
    by false = converted_limited (notation_named first) (notation_named second) (sample_named third) (limit_of fourth) (number_small 3 GREATEST_LEVEL_LIMIT fourth)
words_limited (from ∷ to ∷ name ∷ limit ∷ other ∷ more) = tt

before_limited : (o : Option Request) (text : List ℕ) → IfSome o KeepsLimits → IfSome (before_text o text) KeepsLimits
before_limited None text small = tt
before_limited (Some (Request.conversion from to sample limit)) text small = small
before_limited (Some (Request.document n)) [] few = few
before_limited (Some (Request.document n)) (b ∷ bs) few = tt
before_limited (Some Request.printing) text small = tt
before_limited (Some (Request.growth old new)) text small = tt
before_limited (Some (Request.keeping from old new)) text small = small

-- a request that words make before a text keeps the limits
pub limits_kept : (ws : List (List ℕ)) (text : List ℕ) (request : Request) → before_text (request_of_words ws) text ≡ Some request → KeepsLimits request
limits_kept ws text request is = subst (λ o. IfSome o KeepsLimits) is (before_limited (request_of_words ws) text (words_limited ws))
