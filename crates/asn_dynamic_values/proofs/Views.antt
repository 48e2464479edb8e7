-- What each kind of value is seen as.
use Rattle.std.proofs.Common.{◌≡◌, refl, sym, ap, ◌∙◌, rules, ℕ, ℤ, List, [], ◌∷◌, map, Bool, Option, String, Vec, Box, Global, string_bytes}
use Rattle.std.specs.Option.{option_map}
use Rattle.asn_core.specs.Numbers.{signed}
use Rattle.asn_core.specs.declared.whole_number.WholeNumber.{WholeNumber}
use Rattle.asn_model.specs.Value.{Value, Values, elements, values}
use Rattle.asn_model.proofs.Bags.{elements-values}
use Rattle.asn_dynamic_values.specs.DynView.{dyn_value, members_named, named_value}
use Rattle.asn_dynamic_values.specs.declared.value.DynValue.{DynValue, Null, Bool as Bool', Int, Bits, Octets, Arcs, Text, Units, Utc, Gen, Day, Item, List as List', Bag, Members, Choice, the_lemmas}

pub view-Null : dyn_value Null ≡ Value.null
view-Null = search (rules, the_lemmas)

pub view-Bool : (b : Bool) → dyn_value (Bool' b) ≡ Value.boolean b
view-Bool b = search (rules, the_lemmas)

pub view-Int : (n : WholeNumber) → dyn_value (Int n) ≡ Value.int (signed n.negative n.magnitude)
view-Int n = search (rules, the_lemmas)

pub view-Bits : (b : List Bool) (n : Option ℕ) → dyn_value (Bits b n) ≡ Value.bits b n
view-Bits b n = search (rules, the_lemmas)

pub view-Octets : (o : Vec ℕ Global) → dyn_value (Octets o) ≡ Value.octets o.items
view-Octets o = search (rules, the_lemmas)

pub view-Arcs : (a : Vec ℕ Global) → dyn_value (Arcs a) ≡ Value.arcs a.items
view-Arcs a = search (rules, the_lemmas)

pub view-Text : (t : Vec ℕ Global) → dyn_value (Text t) ≡ Value.text t.items
view-Text t = search (rules, the_lemmas)

pub view-Units : (u : Vec ℕ Global) → dyn_value (Units u) ≡ Value.units u.items
view-Units u = search (rules, the_lemmas)

pub view-Utc : (n : ℤ) → dyn_value (Utc n) ≡ Value.utc n
view-Utc n = search (rules, the_lemmas)

pub view-Gen : (n : ℤ) → dyn_value (Gen n) ≡ Value.gen n
view-Gen n = search (rules, the_lemmas)

pub view-Day : (n : ℤ) → dyn_value (Day n) ≡ Value.day n
view-Day n = search (rules, the_lemmas)

pub view-Item : (i : String Global) → dyn_value (Item i) ≡ Value.item (string_bytes i)
view-Item i = search (rules, the_lemmas)

values-map : (vs : List DynValue) → values (λ v. v) (map dyn_value vs) ≡ values dyn_value vs
values-map [] = refl
values-map (v ∷ vs) = ap (Values.value (dyn_value v)) (values-map vs)

pub layer-List : (v : Vec DynValue Global) → dyn_value (List' v) ≡ Value.list (values (λ v. v) (map dyn_value v.items))
layer-List v = search (rules, the_lemmas)

pub view-List : (v : Vec DynValue Global) → dyn_value (List' v) ≡ Value.list (values dyn_value v.items)
view-List v = layer-List v ∙ ap Value.list (values-map v.items)

pub elements-map : (vs : List DynValue) → elements (values dyn_value vs) ≡ map dyn_value vs
elements-map vs = ap elements (sym (values-map vs)) ∙ elements-values (map dyn_value vs)

pub layer-Bag : (v : Vec DynValue Global) → dyn_value (Bag v) ≡ Value.bag (values (λ v. v) (map dyn_value v.items))
layer-Bag v = search (rules, the_lemmas)

pub view-Bag : (v : Vec DynValue Global) → dyn_value (Bag v) ≡ Value.bag (values dyn_value v.items)
view-Bag v = layer-Bag v ∙ ap Value.bag (values-map v.items)

members-map : (ms : List (String Global × Option DynValue)) → map (λ (m : String Global × Option Value). (string_bytes m.0, m.1)) (map (λ m. (m.0, option_map dyn_value m.1)) ms) ≡ map named_value ms
members-map [] = refl
members-map (m ∷ ms) = ap (λ l. named_value m ∷ l) (members-map ms)

layer-Members : (v : Vec (String Global × Option DynValue) Global) → dyn_value (Members v) ≡ Value.members (members_named (map (λ (m : String Global × Option Value). (string_bytes m.0, m.1)) (map (λ m. (m.0, option_map dyn_value m.1)) v.items)))
layer-Members v = search (rules, the_lemmas)

pub view-Members : (v : Vec (String Global × Option DynValue) Global) → dyn_value (Members v) ≡ Value.members (members_named (map named_value v.items))
view-Members v = layer-Members v ∙ ap (λ l. Value.members (members_named l)) (members-map v.items)

pub view-Choice : (i : String Global) (v : Box DynValue Global) → dyn_value (Choice i v) ≡ Value.choice (string_bytes i) (dyn_value v.value)
view-Choice i v = search (rules, the_lemmas)
