-- Sets by example: the one value of a multiset is in the order of values, and is written in byte order of texts, repeats kept.
use Rattle.std.proofs.Common.{◌≡◌, refl}
use Rattle.std.specs.Prelude.{codes}
use Rattle.json.specs.Print.{escape_byte}
use Rattle.serde_json.specs.Data.{Data, Items}
use Rattle.asn_model.specs.Canonical.{jer_data}
use Rattle.asn_model.specs.Value.{Value, Values, bag_of, value_cmp}

abbrev short : Value
short = Value.text (codes "a")

abbrev long : Value
long = Value.text (codes "a!")

-- A text comes before its extensions.
one_value : bag_of (Values.value short (Values.value long (Values.value short Values.no_values))) ≡ Value.bag (Values.value short (Values.value short (Values.value long Values.no_values)))
unfolding value_cmp
one_value = refl

-- The quotation mark that ends a text in JSON is above the exclamation mark.
written : jer_data (Value.bag (Values.value short (Values.value short (Values.value long Values.no_values)))) ≡ Data.array (Items.item (Data.string (codes "a!")) (Items.item (Data.string (codes "a")) (Items.item (Data.string (codes "a")) Items.no_items)))
unfolding escape_byte
written = refl
