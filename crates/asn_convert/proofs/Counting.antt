-- What std reads of a word of digits is the number that it is.
use Rattle.std.proofs.Common.{◌≡◌, ◌≤◌, ◌<◌, ◌^◌, ℕ, List, [], ◌∷◌, get_or, length, Bool, true, false, nat_le, nat_lt, if◌then◌else◌, Option, Some, None, Result, refl, sym, ap, ◌∙◌, arith}
use Rattle.std.proofs.lemmas.Bool.{le-leb, leb-true, lt-ltb}
use Rattle.std.proofs.lemmas.Str.Parse.{without_leading_plus_none}
use Rattle.std.specs.Option.{option_and_then}
use Rattle.std.specs.Result.{result_ok}
use Rattle.std.specs.Str.Parse.{ParsesUnsigned}
use Rattle.avn_grammar.specs.WellFormed.{is_arc}
use Rattle.asn_traits.proofs.ArcsParsed.{parsed-arc}
use Rattle.asn_traits.specs.Arcs.{if_arc}
use Rattle.asn_traits.specs.Digits.{digits}
use Rattle.asn_convert.specs.Requests.{if_at_most, short_number}

no_value : {P : Type 0} {n : ℕ} → ◌≡◌ {A = Option ℕ} None (Some n) → P
no_value e = cc e

same_value : {m n : ℕ} → ◌≡◌ {A = Option ℕ} (Some m) (Some n) → m ≡ n
same_value e = cc e

above : (a b : ℕ) → b < a → nat_le a b ≡ false
above a b h = by (nat_le a b) refl
  where
    by : (c : Bool) → nat_le a b ≡ c → c ≡ false
    by true e = absurd (omega (arith, leb-true a b e, h))
    by false e = refl

-- A word of at most so many digits, for a number that is at most the other.
module _ (width most : ℕ) (word : List ℕ) where
  abbrev counted : Bool → Option ℕ
  counted b = if b then option_and_then (if_at_most most) (digits word) else None

  -- a longer word is none
  pub none_long : width < length word → None ≡ short_number width most word
  none_long h = sym (ap counted (above (length word) width h))

  short : length word ≤ width → option_and_then (if_at_most most) (digits word) ≡ short_number width most word
  short h = sym (ap counted (le-leb (length word) width h))

  -- a word that begins with a sign is none
  pub none_signed : (first : ℕ) → first < 48 → first ≡ get_or word 0 0 → None ≡ short_number width most word
  none_signed first small at = by (nat_le (length word) width) (unread word (omega (arith, small, at)))
    where
      unread : (ds : List ℕ) → get_or ds 0 0 < 48 → digits ds ≡ None
      unread [] h = refl
      unread (c ∷ cs) h = rw (above 48 c h) refl

      by : (b : Bool) → digits word ≡ None → None ≡ (if b then option_and_then (if_at_most most) (digits word) else None)
      by true e = sym (ap (option_and_then (if_at_most most)) e)
      by false e = refl

-- what std reads is the number of the digits, if that has 32 bits
parsed : {E : Type 0} (word : List ℕ) (first : ℕ) (r : Result ℕ E) → 48 ≤ first → first ≡ get_or word 0 0 → ParsesUnsigned 32 10 word r → result_ok r ≡ if_arc (digits word)
parsed word first r large at parses =
    parsed-arc word r parses ∙ ap (λ ds. if_arc (digits ds)) (without_leading_plus_none word (λ plus. omega (arith, large, at, plus)))

arc_is : (o : Option ℕ) (k : ℕ) → Some k ≡ if_arc o → o ≡ Some k
arc_is None k e = no_value (sym e)
arc_is (Some n) k e = by (is_arc n) e
  where
    by : (b : Bool) → Some k ≡ (if b then Some n else None) → ◌≡◌ {A = Option ℕ} (Some n) (Some k)
    by true e = sym e
    by false e = no_value (sym e)

large_none : (most : ℕ) (o : Option ℕ) → most < 2 ^ 32 → None ≡ if_arc o → None ≡ option_and_then (if_at_most most) o
large_none most None fits e = refl
large_none most (Some n) fits e = by (nat_lt n (2 ^ 32)) refl e
  where
    by : (b : Bool) → nat_lt n (2 ^ 32) ≡ b → None ≡ (if b then Some n else None) → None ≡ if_at_most most n
    by true is e = no_value e
    by false is e = few (nat_le n most) refl
      where
        few : (c : Bool) → nat_le n most ≡ c → None ≡ (if c then Some n else None)
        few true small = let d : false ≡ true = sym is ∙ lt-ltb n (2 ^ 32) (omega (arith, leb-true n most small, fits)) in cc d
        few false large = refl

module _ {E : Type 0} (width most : ℕ) (word : List ℕ) (first : ℕ) (r : Result ℕ E) (large : 48 ≤ first) (at : first ≡ get_or word 0 0) (h : length word ≤ width) (parses : ParsesUnsigned 32 10 word r) where
  -- what std doesn't read is no such number
  pub none_parsed : most < 2 ^ 32 → None ≡ result_ok r → None ≡ short_number width most word
  none_parsed fits none = large_none most (digits word) fits (none ∙ parsed word first r large at parses) ∙ short width most word h

  found : (k : ℕ) → Some k ≡ result_ok r → if_at_most most k ≡ short_number width most word
  found k is = sym (ap (option_and_then (if_at_most most)) (arc_is (digits word) k (is ∙ parsed word first r large at parses))) ∙ short width most word h

  -- a number that is read is one where it is small enough, and else none
  pub few_parsed : (k : ℕ) → Some k ≡ result_ok r → k ≤ most → Some k ≡ short_number width most word
  few_parsed k is few = sym (ap (λ b. if b then Some k else None) (le-leb k most few)) ∙ found k is

  pub many_parsed : (k : ℕ) → Some k ≡ result_ok r → most < k → None ≡ short_number width most word
  many_parsed k is many = sym (ap (λ b. if b then Some k else None) (above k most many)) ∙ found k is
