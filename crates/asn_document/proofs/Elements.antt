-- What a JSON value is and stands for, part by part.
use Rattle.std.proofs.Common.{◌≡◌, ℕ, zero, suc, ◌<◌, ◌≤◌, List, [], ◌∷◌, ◌++◌, length, get_or, Option, Some, None, Bool, decimal, refl, ap, ◌∙◌, arith, rules, String, Vec, BTreeMap, Global, string_bytes, codes}
use Rattle.asn_document.specs.Meaning.{document_value, item_values, entry_values, json_value, json_entry}
use Rattle.asn_model.specs.Tree.{data_nodes, items_nodes, members_nodes}
use Rattle.asn_model.specs.Value.{Value, Values, values}
use Rattle.serde_json.proofs.Views.{Entry, view-Array, view-Object}
use Rattle.serde_json.specs.View.{view, items_view, members_view, number_view}
use Rattle.serde_json.specs.Data.{Data, Num}
use Rattle.serde_json.specs.Find.{as_u64}
use Rattle.serde_json.specs.Written.{number_text}
use Rattle.serde_json.specs.declared.number.Number.{Number}
use Rattle.serde_json.specs.declared.value.Value.{Value as JsonValue, Null, Bool as Bool', Number as Number', String as String', Array, Object, the_lemmas}

pub view-Null : view Null ≡ Data.null
view-Null = search (rules, the_lemmas)

pub view-Bool : (b : Bool) → view (Bool' b) ≡ Data.boolean b
view-Bool b = search (rules, the_lemmas)

pub view-Number : (x : Number) → view (Number' x) ≡ Data.number (number_view x)
view-Number x = search (rules, the_lemmas)

pub view-String : (s : String Global) → view (String' s) ≡ Data.string (string_bytes s)
view-String s = search (rules, the_lemmas)

-- The text of a number that is a `u64` is its digits.
pub digits_of : (n : Num) (m : ℕ) → Some m ≡ as_u64 n → decimal m ≡ number_text n
digits_of (Num.unsigned k) m e = let d : ◌≡◌ {A = Option ℕ} (Some m) (Some k) = e in let same : m ≡ k = cc d in ap decimal same
digits_of (Num.negative z) m e = let d : ◌≡◌ {A = Option ℕ} (Some m) None = e in cc d
digits_of (Num.float x) m e = let d : ◌≡◌ {A = Option ℕ} (Some m) None = e in cc d

-- What the elements stand for, one by one.
pub items_values : (vs : List JsonValue) → item_values (items_view vs) ≡ values json_value vs
items_values [] = refl
items_values (v ∷ vs) = ap (Values.value (json_value v)) (items_values vs)

-- What the members stand for, one by one.
pub entries_values : (es : List Entry) → entry_values (members_view es) ≡ values json_entry es
entries_values [] = refl
entries_values (e ∷ es) = ap (Values.value (json_entry e)) (entries_values es)

pub null_value : json_value Null ≡ Value.choice (codes "null") Value.null
null_value = ap document_value view-Null

pub bool_value : (b : Bool) → json_value (Bool' b) ≡ Value.choice (codes "bool") (Value.boolean b)
bool_value b = ap document_value (view-Bool b)

pub string_value : (s : String Global) → json_value (String' s) ≡ Value.choice (codes "string") (Value.text (string_bytes s))
string_value s = ap document_value (view-String s)

pub array_value : (v : Vec JsonValue Global) → json_value (Array v) ≡ Value.choice (codes "array") (Value.list (values json_value v.items))
array_value v = ap document_value (view-Array v) ∙ ap (λ vs. Value.choice (codes "array") (Value.list vs)) (items_values v.items)

pub object_value : (m : BTreeMap (String Global) JsonValue) → json_value (Object m) ≡ Value.choice (codes "object") (Value.list (values json_entry m.entries))
object_value m = ap document_value (view-Object m) ∙ ap (λ vs. Value.choice (codes "object") (Value.list vs)) (entries_values m.entries)

-- What the values of each kind stand for.
pub ruleset value_steps = (null_value, bool_value, string_value, array_value, object_value)

-- An element has no more nodes than all.
pub item_within : (vs : List JsonValue) (i : ℕ) (v : JsonValue) → i < length vs → v ≡ get_or vs i v → data_nodes (view v) ≤ items_nodes (items_view vs)
item_within [] i v h e = absurd (omega (arith, h))
item_within (w ∷ ws) zero v h e = rw e (omega arith)
item_within (w ∷ ws) (suc i) v h e = let r = item_within ws i v (omega (arith, h)) e in omega (arith, r)

-- A member has no more nodes than all.
pub member_within : (done : List Entry) (e : Entry) (more : List Entry) → data_nodes (view e.1) ≤ members_nodes (members_view (done ++ e ∷ more))
member_within [] e more = omega arith
member_within (x ∷ done) e more = let r = member_within done e more in omega (arith, r)
