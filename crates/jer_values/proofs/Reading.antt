-- The text of a value whose numbers are whole and whose members are in order is read as the value.
use Rattle.std.proofs.Common.{◌≡◌, ◌∙◌, ◌≤◌, [], List, append-nil, Some, ap, ap₂, arith, false, max, negsuc, pos, refl, suc, sym, true, ℕ, ◌^◌, ◌<◌}
use Rattle.std.proofs.lemmas.Bool.{false≢true, or_from}
use Rattle.std.proofs.lemmas.Bool.Decides.{nat_tests}
use Rattle.std.specs.Prelude.{option_map, option_and_then}
use Rattle.json.proofs.Printed.Decimals.{IsNumber-decimal, IsNumber-signed_decimal}
use Rattle.json.proofs.Printed.Tokens.{tokens-print}
use Rattle.json.proofs.Printed.Trees.{ArePrintable-json_tokens, value-json_tokens}
use Rattle.json.specs.Json as json
use Rattle.json.specs.Lex.{tokens}
use Rattle.json.specs.Print.{IsNumber}
use Rattle.json.specs.Tree as tree
use Rattle.serde_json.proofs.Numbers.{number_of-decimal, number_of-negative}
use Rattle.serde_json.proofs.Texts.{print-outline}
use Rattle.serde_json.specs.Data.{Data, Items, Members, Num, put, depth, items_depth, members_depth}
use Rattle.serde_json.specs.Find.{is_float}
use Rattle.serde_json.specs.Read.{max_depth, number_of, of_items, of_json, of_members, read}
use Rattle.serde_json.specs.Written.{compact_text, has_float, items_have_float, items_outline, members_have_float, members_outline, number_text, outline}
use Rattle.jer_values.specs.Order.{AreOrdered, HasOrdered, IsOrdered}
use Rattle.jer_values.specs.Whole.{is_whole}
use Rattle.jer_values.proofs.Joined.{joined, joined_none, joined_one, ordered_after, put_last}

abbrev mutual
  -- Every number in the value is whole.
  pub HasWhole : Data → Type 0
  HasWhole (Data.number n) = is_whole n ≡ true
  HasWhole (Data.array ds) = HaveWhole ds
  HasWhole (Data.object ms) = MembersHaveWhole ms
  HasWhole _ = Unit {0}

  pub HaveWhole : Items → Type 0
  HaveWhole Items.no_items = Unit {0}
  HaveWhole (Items.item d ds) = HasWhole d × HaveWhole ds

  pub MembersHaveWhole : Members → Type 0
  MembersHaveWhole Members.no_members = Unit {0}
  MembersHaveWhole (Members.member k d ms) = HasWhole d × MembersHaveWhole ms

below_unsigned : (n : ℕ) → is_whole (Num.unsigned n) ≡ true → n < 2 ^ 64
below_unsigned n h = grind (arith, nat_tests)

below_negative : (n : ℕ) → is_whole (Num.negative (negsuc n)) ≡ true → n < 2 ^ 63
below_negative n h = grind (arith, nat_tests)

number_read : (n : Num) → is_whole n ≡ true → number_of (number_text n) ≡ Some n
number_read (Num.unsigned n) h = number_of-decimal n (below_unsigned n h)
number_read (Num.negative (pos n)) h = absurd (false≢true h)
number_read (Num.negative (negsuc n)) h = number_of-negative n (below_negative n h)
number_read (Num.float x) h = absurd (false≢true h)

number_printed : (n : Num) → is_whole n ≡ true → IsNumber (number_text n)
number_printed (Num.unsigned n) h = IsNumber-decimal n (below_unsigned n h)
number_printed (Num.negative (pos n)) h = absurd (false≢true h)
number_printed (Num.negative (negsuc n)) h = IsNumber-signed_decimal (negsuc n) (below_negative n h)
number_printed (Num.float x) h = absurd (false≢true h)

no_float : (n : Num) → is_whole n ≡ true → is_float n ≡ false
no_float (Num.unsigned n) h = refl
no_float (Num.negative z) h = refl
no_float (Num.float x) h = absurd (false≢true h)

mutual
  value_read : (d : Data) → HasWhole d → IsOrdered d → of_json (outline d) ≡ Some d
  value_read Data.null w o = refl
  value_read (Data.boolean b) w o = refl
  value_read (Data.number n) w o = ap (option_map Data.number) (number_read n w)
  value_read (Data.string s) w o = refl
  value_read (Data.array ds) w o = ap (option_map Data.array) (items_read ds w o)
  value_read (Data.object ms) w o =
      ap (option_map Data.object) (members_read Members.no_members ms w o)

  items_read : (ds : Items) → HaveWhole ds → AreOrdered ds → of_items (items_outline ds) ≡ Some ds
  items_read Items.no_items w o = refl
  items_read (Items.item d ds) w o =
      ap (option_and_then (λ e. option_map (Items.item e) (of_items (items_outline ds))))
      (value_read d w.0 o.0) ∙ ap (option_map (Items.item d)) (items_read ds w.1 o.1)

  members_read : (found ms : Members) → MembersHaveWhole ms → HasOrdered (joined found ms)
      → of_members (members_outline ms) found ≡ Some (joined found ms)
  members_read found Members.no_members w o = ap Some (sym (joined_none found))
  members_read found (Members.member k d ms) w o =
      let more = joined found (Members.member k d Members.no_members) in
      let same = joined_one found k d ms in
      let here = ordered_after found (Members.member k d ms) o in
      ap (option_and_then (λ e. of_members (members_outline ms) (put k e found)))
      (value_read d w.0 here.1)
      ∙ ap (of_members (members_outline ms)) (put_last found k d ms o)
      ∙ members_read more ms w.1 (rw same o) ∙ ap Some same

mutual
  numbers_printed : (d : Data) → HasWhole d → tree.HasNumbers (outline d)
  numbers_printed Data.null w = tt
  numbers_printed (Data.boolean b) w = tt
  numbers_printed (Data.number n) w = number_printed n w
  numbers_printed (Data.string s) w = tt
  numbers_printed (Data.array ds) w = items_printed ds w
  numbers_printed (Data.object ms) w = members_printed ms w

  items_printed : (ds : Items) → HaveWhole ds → tree.ItemsHaveNumbers (items_outline ds)
  items_printed Items.no_items w = tt
  items_printed (Items.item d ds) w = (numbers_printed d w.0, items_printed ds w.1)

  members_printed : (ms : Members) → MembersHaveWhole ms
      → tree.MembersHaveNumbers (members_outline ms)
  members_printed Members.no_members w = tt
  members_printed (Members.member k d ms) w = (numbers_printed d w.0, members_printed ms w.1)

mutual
  as_deep : (d : Data) → tree.depth (outline d) ≡ depth d
  as_deep Data.null = refl
  as_deep (Data.boolean b) = refl
  as_deep (Data.number n) = refl
  as_deep (Data.string s) = refl
  as_deep (Data.array ds) = ap suc (items_as_deep ds)
  as_deep (Data.object ms) = ap suc (members_as_deep ms)

  items_as_deep : (ds : Items) → tree.items_depth (items_outline ds) ≡ items_depth ds
  items_as_deep Items.no_items = refl
  items_as_deep (Items.item d ds) = ap₂ max (as_deep d) (items_as_deep ds)

  members_as_deep : (ms : Members) → tree.members_depth (members_outline ms) ≡ members_depth ms
  members_as_deep Members.no_members = refl
  members_as_deep (Members.member k d ms) = ap₂ max (as_deep d) (members_as_deep ms)

mutual
  -- Whole numbers aren't floats.
  pub without_float : (d : Data) → HasWhole d → has_float d ≡ false
  without_float Data.null w = refl
  without_float (Data.boolean b) w = refl
  without_float (Data.number n) w = no_float n w
  without_float (Data.string s) w = refl
  without_float (Data.array ds) w = items_without ds w
  without_float (Data.object ms) w = members_without ms w

  items_without : (ds : Items) → HaveWhole ds → items_have_float ds ≡ false
  items_without Items.no_items w = refl
  items_without (Items.item d ds) w =
      or_from (has_float d) (items_have_float ds) (without_float d w.0) (items_without ds w.1)

  members_without : (ms : Members) → MembersHaveWhole ms → members_have_float ms ≡ false
  members_without Members.no_members w = refl
  members_without (Members.member k d ms) w =
      or_from (has_float d) (members_have_float ms) (without_float d w.0) (members_without ms w.1)

-- The compact text is read as the value.
pub text_read : (d : Data) (text : List ℕ) → HasWhole d → text ≡ compact_text d → IsOrdered d
    → depth d ≤ max_depth → read text ≡ Some d
text_read d text w is o shallow =
    let written : tokens text ≡ tree.json_tokens (outline d) =
    ap tokens (is ∙ sym (print-outline d))
    ∙ tokens-print _ (ArePrintable-json_tokens (outline d) (numbers_printed d w)) in
    let whole = ap (option_and_then (λ p. json.if_last p.0 p.1))
    (ap (json.value max_depth) (written ∙ sym (append-nil _))
    ∙ value-json_tokens (outline d) max_depth [] (omega (arith, as_deep d))) in
    ap (option_and_then of_json) whole ∙ value_read d w o
