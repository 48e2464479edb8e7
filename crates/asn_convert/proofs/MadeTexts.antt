-- The document that is made is written and read in both notations.
use Rattle.std.proofs.Common.{◌≡◌, ◌≤◌, ◌<◌, ◌≤ℤ◌, ◌+◌, ◌*◌, ◌^◌, ◌-ℤ◌, ◌%◌, ◌==◌, ℕ, zero, suc, ℤ, pos, negsuc, nat_lt, List, ◌∷◌, ◌++◌, Bool, true, false, if◌then◌else◌, Option, Some, None, Ordering, Less, Equal, Greater, decimal, refl, arith}
use Rattle.std.proofs.Math.Nat.{mul-le-mul}
use Rattle.std.proofs.lemmas.Bool.{or_from}
use Rattle.std.proofs.lemmas.Fmt.{IsAscii-decimal}
use Rattle.std.proofs.lemmas.Int.{ints}
use Rattle.std.proofs.lemmas.Str.{IsUtf8-from_ascii, is_utf8-from_IsUtf8}
use Rattle.std.specs.Cmp.Lexicographic.{slice_cmp}
use Rattle.std.specs.Ordering.{nat_cmp, match_ordering}
use Rattle.std.specs.Prelude.{codes}
use Rattle.std.specs.Str.{IsAscii, is_utf8}
use Rattle.avn_grammar.specs.Depth.{deepest, deepest_item}
use Rattle.asn_document.specs.Meaning.{document_value, entry, entry_values, number_name, number_payload}
use Rattle.asn_traits.specs.Canonical.{avn_tree, avn_trees, jer_data, jer_items}
use Rattle.asn_traits.specs.Notation.{Notation}
use Rattle.asn_traits.specs.Value.{Value}
use Rattle.asn_traits.specs.Writable.{Writable, WritableEach}
use Rattle.serde_json.specs.Data.{Data, Num, Items, Members, depth, items_depth, put}
use Rattle.serde_json.specs.Find.{of_integer}
use Rattle.serde_json.specs.Written.{has_float, members_have_float}
use Rattle.asn_convert.specs.Made.{IsRelayed, made, made_key, made_members, made_value}
use Rattle.asn_convert.specs.declared.limits.TheConstants.{MOST_ENTRIES}

-- what is asked of the value of an entry
pub record IsGood (d : Data) : Type 0 where
  pub jer : Writable Notation.jer (document_value d)
  pub avn : Writable Notation.avn (document_value d)
  pub nests : depth (jer_data (document_value d)) ≤ 5
  pub levels : deepest 3 (avn_tree (document_value d)) ≤ 9
  pub whole : has_float d ≡ false

front_ascii : (c : ℕ) (bs : List ℕ) → c < 128 → IsAscii bs → IsAscii (c ∷ bs)
front_ascii c bs small h zero = small
front_ascii c bs small h (suc i) = h i

named_utf8 : (c n : ℕ) → c < 128 → n < 2 ^ 64 → is_utf8 (c ∷ decimal n) ≡ true
named_utf8 c n small h = is_utf8-from_IsUtf8 (c ∷ decimal n) (IsUtf8-from_ascii (c ∷ decimal n) (front_ascii c (decimal n) small (IsAscii-decimal n h)))

digits_utf8 : (n : ℕ) → n < 2 ^ 64 → is_utf8 (decimal n) ≡ true
digits_utf8 n h = is_utf8-from_IsUtf8 (decimal n) (IsUtf8-from_ascii (decimal n) (IsAscii-decimal n h))

string_good : (s : List ℕ) → is_utf8 s ≡ true → IsGood (Data.string s)
unfolding deepest
string_good s h = record { jer = h; avn = h; nests = omega arith; levels = omega arith; whole = refl }

array_good : (b : Bool) → IsGood (Data.array (Items.item (Data.boolean b) (Items.item Data.null Items.no_items)))
unfolding deepest
array_good b = record { jer = (tt, (tt, tt)); avn = (tt, (tt, tt)); nests = omega arith; levels = omega arith; whole = refl }

abbrev number_value : Option ℤ → List ℕ → Value
number_value o text = Value.choice (number_name o) (number_payload o text)

-- what is asked of a number, by whether it is an `i64`
record IsGoodNumber (v : Value) : Type 0 where
  pub jer : Writable Notation.jer v
  pub avn : Writable Notation.avn v
  pub nests : depth (jer_data v) ≤ 5
  pub levels : deepest 3 (avn_tree v) ≤ 9

unsigned_value : (m : ℕ) (b : Bool) → m < 2 ^ 64 → IsGoodNumber (number_value (if b then Some (pos m) else None) (decimal m))
unfolding deepest
unsigned_value m true h = record { jer = (omega (arith, ints), omega (arith, ints, h)); avn = tt; nests = omega arith; levels = omega arith }
unsigned_value m false h = record { jer = digits_utf8 m h; avn = digits_utf8 m h; nests = omega arith; levels = omega arith }

unsigned_good : (m : ℕ) → m < 2 ^ 64 → IsGood (Data.number (Num.unsigned m))
unsigned_good m h = let v = unsigned_value m (nat_lt m (2 ^ 63)) h in record { jer = v.jer; avn = v.avn; nests = v.nests; levels = v.levels; whole = refl }

negative_good : (k : ℕ) → k < 2 ^ 63 → IsGood (Data.number (Num.negative (negsuc k)))
unfolding deepest
negative_good k h = record { jer = (omega (arith, ints, h), omega (arith, ints)); avn = tt; nests = omega arith; levels = omega arith; whole = refl }

integer_good : (z : ℤ) → negsuc 999 ≤ℤ z → z ≤ℤ pos (10 ^ 10) → IsGood (Data.number (of_integer z))
integer_good (pos m) low high = unsigned_good m (omega (arith, ints, high))
integer_good (negsuc k) low high = negative_good k (omega (arith, ints, low))

-- one of four values
chosen_good : (a b c : Bool) (x y z w : Data) → IsGood x → IsGood y → IsGood z → IsGood w → IsGood (if a then x else (if b then y else (if c then z else w)))
chosen_good true b c x y z w f g h k = f
chosen_good false true c x y z w f g h k = g
chosen_good false false true x y z w f g h k = h
chosen_good false false false x y z w f g h k = k

-- the value of each entry is good
pub value_good : (i : ℕ) → i < MOST_ENTRIES → IsGood (made_value i)
value_good i h =
    let small : i ≤ 10 ^ 5 = omega (arith, h) in
    let square : i * i ≤ 10 ^ 10 = mul-le-mul small small in
    chosen_good (i % 4 == 0) (i % 4 == 1) (i % 4 == 2) _ _ _ _
    (integer_good (pos (i * i) -ℤ pos 1000) (omega (arith, ints)) (omega (arith, ints, square)))
    (string_good (codes "v" ++ decimal i) (named_utf8 118 i (omega arith) (omega (arith, h))))
    (array_good (i % 8 == 2))
    (unsigned_good (2 ^ 63 + i) (omega (arith, h)))

-- each key is a text, and each value good
abbrev AreGood : Members → Type 0
AreGood Members.no_members = Unit {0}
AreGood (Members.member k d ms) = ((is_utf8 k ≡ true) × IsGood d) × AreGood ms

ordered_good : (o : Ordering) (a b c : Members) → AreGood a → AreGood b → AreGood c → AreGood (match_ordering o a b c)
ordered_good Less a b c f g h = f
ordered_good Equal a b c f g h = g
ordered_good Greater a b c f g h = h

put_good : (k : List ℕ) (d : Data) (ms : Members) → is_utf8 k ≡ true → IsGood d → AreGood ms → AreGood (put k d ms)
put_good k d Members.no_members u g h = ((u, g), tt)
put_good k d (Members.member l e ms) u g h =
    ordered_good (slice_cmp nat_cmp k l) (Members.member k d (Members.member l e ms)) (Members.member l d ms) (Members.member l e (put k d ms))
    ((u, g), h) ((h.0.0, g), h.1) (h.0, put_good k d ms u g h.1)

made_good : (n : ℕ) → n ≤ MOST_ENTRIES → AreGood (made_members n)
made_good zero h = tt
made_good (suc i) h =
    put_good (made_key i) (made_value i) (made_members i) (named_utf8 107 i (omega arith) (omega (arith, h))) (value_good i (omega (arith, h))) (made_good i (omega (arith, h)))

jer_writable : (ms : Members) → AreGood ms → WritableEach Notation.jer (entry_values ms)
jer_writable Members.no_members h = tt
jer_writable (Members.member k d ms) h = ((h.0.0, (h.0.1.jer, tt)), jer_writable ms h.1)

avn_writable : (ms : Members) → AreGood ms → WritableEach Notation.avn (entry_values ms)
avn_writable Members.no_members h = tt
avn_writable (Members.member k d ms) h = ((h.0.0, (h.0.1.avn, tt)), avn_writable ms h.1)

entry_depth : (k : List ℕ) (d : Data) → depth (jer_data (document_value d)) ≤ 5 → depth (jer_data (entry k (document_value d))) ≤ 6
entry_depth k d h = omega (arith, h)

entries_depth : (ms : Members) → AreGood ms → items_depth (jer_items (entry_values ms)) ≤ 6
entries_depth Members.no_members h = omega arith
entries_depth (Members.member k d ms) h = omega (arith, entry_depth k d h.0.1.nests, entries_depth ms h.1)

entry_levels : (ms : Members) → AreGood ms → deepest_item 1 (avn_trees (entry_values ms)) ≤ 9
unfolding deepest
entry_levels Members.no_members h = omega arith
entry_levels (Members.member k d ms) h = omega (arith, h.0.1.levels, entry_levels ms h.1)

-- the document is read and written by both notations
pub made_relayed : (n : ℕ) → n ≤ MOST_ENTRIES → IsRelayed (document_value (made n))
unfolding deepest
made_relayed n h =
    let good = made_good n h in
    record {
      jer = jer_writable (made_members n) good;
      avn = avn_writable (made_members n) good;
      nests = omega (arith, entries_depth (made_members n) good);
      levels = omega (arith, entry_levels (made_members n) good);
    }

none_float : (ms : Members) → AreGood ms → members_have_float ms ≡ false
none_float Members.no_members h = refl
none_float (Members.member k d ms) h = or_from (has_float d) (members_have_float ms) h.0.1.whole (none_float ms h.1)

-- no value in it is a float
pub made_whole : (n : ℕ) → n ≤ MOST_ENTRIES → has_float (made n) ≡ false
made_whole n h = none_float (made_members n) (made_good n h)
