-- Compact texts tell JSON values apart, where each number is one that JER has.
use Rattle.std.proofs.Common.{◌≡◌, ◌<◌, ◌^◌, ℕ, ℤ, pos, negsuc, suc, max, List, [], ◌∷◌, ◌++◌, get_or, length, ◌==◌, false, Option, Some, None, unwrap_or, decimal, refl, sym, ap, ◌∙◌, subst, arith, Ordering, Less, Equal, Greater}
use Rattle.std.proofs.lemmas.Bool.{ne_eqb}
use Rattle.std.proofs.lemmas.Fmt.{first_decimal}
use Rattle.std.proofs.lemmas.Int.{ints}
use Rattle.std.specs.Cmp.Lexicographic.{slice_cmp}
use Rattle.std.specs.List.{AllByRecursion}
use Rattle.std.specs.Ordering.{nat_cmp, match_ordering}
use Rattle.json.specs.Json as json
use Rattle.json.specs.Lex.{tokens}
use Rattle.json.specs.Print.{IsNumber}
use Rattle.json.specs.Tree as tree
use Rattle.json.specs.Word.{head, after_number}
use Rattle.json.proofs.Printed.Decimals.{IsNumber-decimal}
use Rattle.json.proofs.Printed.Tokens.{tokens-print}
use Rattle.json.proofs.Printed.Trees.{value-json_tokens, ArePrintable-json_tokens}
use Rattle.serde_json.proofs.Numbers.{number_of-decimal, number_of-negative}
use Rattle.serde_json.proofs.Texts.{print-outline}
use Rattle.serde_json.specs.Data.{Data, Items, Members, Num, put}
use Rattle.serde_json.specs.Find.{of_integer}
use Rattle.serde_json.specs.Read.{number_of}
use Rattle.serde_json.specs.Written.{outline, items_outline, members_outline, number_text, compact_text}
use Rattle.asn_model.specs.Canonical.{jer_data, jer_items, jer_members, canonical_text}
use Rattle.asn_model.specs.Notation.{Notation}
use Rattle.asn_model.specs.Sorting.{by_text}
use Rattle.asn_model.specs.Value.{Value, Values, Slots, elements}
use Rattle.asn_model.specs.Writable.{IsEncodableInt, Writable, WritableEach, WritableSlots}
use Rattle.asn_model.proofs.Bags.{each-ordered, jer_items-sorted}

tokens-compact_text : (d : Data) → tree.HasNumbers (outline d) → tokens (compact_text d) ≡ tree.json_tokens (outline d)
tokens-compact_text d h = ap tokens (sym (print-outline d)) ∙ tokens-print _ (ArePrintable-json_tokens (outline d) h)

abbrev option_first : {A B : Type 0} → A → Option (A × B) → A
option_first a None = a
option_first a (Some p) = p.0

same_first : {A B : Type 0} (p q : A × B) → Some p ≡ Some q → p.0 ≡ q.0
same_first p q e = ap (λ o. option_first p.0 o) e

same_outline : (d e : Data) → tree.HasNumbers (outline d) → tree.HasNumbers (outline e) → compact_text d ≡ compact_text e → outline d ≡ outline e
same_outline d e h k same =
    let n = max (tree.depth (outline d)) (tree.depth (outline e)) in
    same_first (outline d, []) (outline e, []) (sym (value-json_tokens (outline d) n [] (omega arith))
    ∙ ap (λ ts. json.value n (ts ++ [])) (sym (tokens-compact_text d h) ∙ ap tokens same ∙ tokens-compact_text e k)
    ∙ value-json_tokens (outline e) n [] (omega arith))

-- The number that a text is, for texts that are one.
abbrev number_in : List ℕ → Num
number_in s = unwrap_or (number_of s) (Num.unsigned 0)

-- The JSON value that an outline is of.
abbrev mutual
  data_in : json.Json → Data
  data_in json.null = Data.null
  data_in (json.boolean b) = Data.boolean b
  data_in (json.number s) = Data.number (number_in s)
  data_in (json.string s) = Data.string s
  data_in (json.array js) = Data.array (items_in js)
  data_in (json.object ms) = Data.object (members_in ms)

  items_in : json.Items → Items
  items_in json.no_items = Items.no_items
  items_in (json.item j js) = Items.item (data_in j) (items_in js)

  members_in : json.Members → Members
  members_in json.no_members = Members.no_members
  members_in (json.member k j ms) = Members.member k (data_in j) (members_in ms)

-- Each number is a whole one that JER has.
abbrev mutual
  IsWhole : Data → Type 0
  IsWhole (Data.number n) = (k : ℤ) × (n ≡ of_integer k) × IsEncodableInt Notation.jer k
  IsWhole (Data.array ds) = ItemsAreWhole ds
  IsWhole (Data.object ms) = MembersAreWhole ms
  IsWhole d = Unit {0}

  ItemsAreWhole : Items → Type 0
  ItemsAreWhole Items.no_items = Unit {0}
  ItemsAreWhole (Items.item d ds) = IsWhole d × ItemsAreWhole ds

  MembersAreWhole : Members → Type 0
  MembersAreWhole Members.no_members = Unit {0}
  MembersAreWhole (Members.member k d ms) = IsWhole d × MembersAreWhole ms

below_unsigned : (n : ℕ) → IsEncodableInt Notation.jer (pos n) → n < 2 ^ 64
below_unsigned n h = omega (arith, ints, h.1)

above_signed : (n : ℕ) → IsEncodableInt Notation.jer (negsuc n) → n < 2 ^ 63
above_signed n h = omega (arith, ints, h.0)

number-back : (k : ℤ) → IsEncodableInt Notation.jer k → number_in (number_text (of_integer k)) ≡ of_integer k
number-back (pos n) h = ap (λ o. unwrap_or o (Num.unsigned 0)) (number_of-decimal n (below_unsigned n h))
number-back (negsuc n) h = ap (λ o. unwrap_or o (Num.unsigned 0)) (number_of-negative n (above_signed n h))

head-decimal : (ds : List ℕ) → 48 < get_or ds 0 0 → (head ds == 45) ≡ false
head-decimal [] h = absurd (omega (arith, h))
head-decimal (d ∷ ds) h = ne_eqb d 45 (λ e. omega (arith, h, e))

IsNumber-negative : (n : ℕ) → 0 < n → n < 2 ^ 64 → IsNumber (45 ∷ decimal n)
unfolding after_number
IsNumber-negative n some h = rw (head-decimal (decimal n) (first_decimal n some h)) at (IsNumber-decimal n h)

number-is : (k : ℤ) → IsEncodableInt Notation.jer k → IsNumber (number_text (of_integer k))
number-is (pos n) h = IsNumber-decimal n (below_unsigned n h)
number-is (negsuc n) h = IsNumber-negative (suc n) (omega arith) (omega (arith, above_signed n h))

mutual
  numbers-whole : (d : Data) → IsWhole d → tree.HasNumbers (outline d)
  numbers-whole (Data.number n) h = subst (λ m. IsNumber (number_text m)) (sym h.1) (number-is h.0 h.2)
  numbers-whole (Data.array ds) h = items-whole ds h
  numbers-whole (Data.object ms) h = members-whole ms h
  numbers-whole d h = tt

  items-whole : (ds : Items) → ItemsAreWhole ds → tree.ItemsHaveNumbers (items_outline ds)
  items-whole Items.no_items h = tt
  items-whole (Items.item d ds) h = (numbers-whole d h.0, items-whole ds h.1)

  members-whole : (ms : Members) → MembersAreWhole ms → tree.MembersHaveNumbers (members_outline ms)
  members-whole Members.no_members h = tt
  members-whole (Members.member k d ms) h = (numbers-whole d h.0, members-whole ms h.1)

mutual
  back : (d : Data) → IsWhole d → data_in (outline d) ≡ d
  back Data.null h = refl
  back (Data.boolean b) h = refl
  back (Data.number n) h = ap Data.number (ap (λ m. number_in (number_text m)) h.1 ∙ number-back h.0 h.2 ∙ sym h.1)
  back (Data.string s) h = refl
  back (Data.array ds) h = ap Data.array (items-back ds h)
  back (Data.object ms) h = ap Data.object (members-back ms h)

  items-back : (ds : Items) → ItemsAreWhole ds → items_in (items_outline ds) ≡ ds
  items-back Items.no_items h = refl
  items-back (Items.item d ds) h = ap (λ x. Items.item x (items_in (items_outline ds))) (back d h.0) ∙ ap (Items.item d) (items-back ds h.1)

  members-back : (ms : Members) → MembersAreWhole ms → members_in (members_outline ms) ≡ ms
  members-back Members.no_members h = refl
  members-back (Members.member k d ms) h = ap (λ x. Members.member k x (members_in (members_outline ms))) (back d h.0) ∙ ap (Members.member k d) (members-back ms h.1)

ordered-whole : (o : Ordering) (a b c : Members) → MembersAreWhole a → MembersAreWhole b → MembersAreWhole c → MembersAreWhole (match_ordering o a b c)
ordered-whole Less a b c h j k = h
ordered-whole Equal a b c h j k = j
ordered-whole Greater a b c h j k = k

put-whole : (n : List ℕ) (d : Data) (ms : Members) → IsWhole d → MembersAreWhole ms → MembersAreWhole (put n d ms)
put-whole n d Members.no_members h k = (h, tt)
put-whole n d (Members.member m e ms) h k =
    ordered-whole (slice_cmp nat_cmp n m) (Members.member n d (Members.member m e ms)) (Members.member m d ms) (Members.member m e (put n d ms)) (h, k) (h, k.1) (k.0, put-whole n d ms h k.1)

length-parses : (n : ℕ) → n < 2 ^ 64 → IsEncodableInt Notation.jer (pos n)
length-parses n h = (omega (arith, ints), omega (arith, ints, h))

-- What JER writes for the value has whole numbers alone.
abbrev IsWrittenWhole : Value → Type 0
IsWrittenWhole v = IsWhole (jer_data v)

items-of_whole : (vs : Values) → AllByRecursion IsWrittenWhole (elements vs) → ItemsAreWhole (jer_items vs)
items-of_whole Values.no_values h = tt
items-of_whole (Values.value v vs) h = (h.0, items-of_whole vs h.1)

mutual
  written-whole : (v : Value) → Writable Notation.jer v → IsWhole (jer_data v)
  written-whole (Value.int k) h = (k, refl, h)
  written-whole (Value.bits bits None) h = ((pos (length bits), refl, length-parses (length bits) h), (tt, tt))
  written-whole (Value.members ms) h = slots-whole ms h
  written-whole (Value.list vs) h = items-of_whole vs (each-whole vs h)
  written-whole (Value.bag vs) h = subst ItemsAreWhole (sym (jer_items-sorted vs)) (items-of_whole _ (each-ordered IsWrittenWhole (by_text (canonical_text Notation.jer)) vs (each-whole vs h)))
  written-whole (Value.choice i v) h = (written-whole v h, tt)
  written-whole v h = tt

  each-whole : (vs : Values) → WritableEach Notation.jer vs → AllByRecursion IsWrittenWhole (elements vs)
  each-whole Values.no_values h = tt
  each-whole (Values.value v vs) h = (written-whole v h.0, each-whole vs h.1)

  slots-whole : (ms : Slots) → WritableSlots Notation.jer ms → MembersAreWhole (jer_members ms)
  slots-whole Slots.no_slots h = tt
  slots-whole (Slots.absent n ms) h = slots-whole ms h
  slots-whole (Slots.present n v ms) h = put-whole n (jer_data v) (jer_members ms) (written-whole v h.0) (slots-whole ms h.1)

-- Equal canonical texts are of equal JSON values.
pub jer_data-same : (v w : Value) → Writable Notation.jer v → Writable Notation.jer w → compact_text (jer_data v) ≡ compact_text (jer_data w) → jer_data v ≡ jer_data w
jer_data-same v w h k same =
    let a = written-whole v h in
    let b = written-whole w k in
    sym (back (jer_data v) a) ∙ ap data_in (same_outline (jer_data v) (jer_data w) (numbers-whole (jer_data v) a) (numbers-whole (jer_data w) b) same) ∙ back (jer_data w) b
