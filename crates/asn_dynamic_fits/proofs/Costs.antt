-- Parts of a value have fewer nodes, and cost less with the parts of its shape.
use Rattle.std.proofs.Common.{◌≡◌, refl, sym, ap, ◌∙◌, arith, ℕ, zero, suc, ◌+◌, ◌*◌, ◌<◌, ◌≤◌, List, [], ◌∷◌, get_or, length, Option, Some, None}
use Rattle.asn_dynamic_fits.specs.Contents.{bag_in, choice_in, list_in, members_in}
use Rattle.asn_dynamic_fits.proofs.Having.{bag-is, choice-is, list-is, members-is}
use Rattle.asn_dynamic_values.specs.DynView.{members_named}
use Rattle.asn_model.specs.Shape.{Shape}
use Rattle.asn_model.specs.Value.{Slots, Value, Values, nodes, nodes_slots, nodes_values, values}
use Rattle.asn_parts.proofs.Costs.{cost}

-- The nodes of what is in a slot.
abbrev pub nodes_in : Option Value → ℕ
nodes_in None = 0
nodes_in (Some v) = nodes v

-- A call costs less where the part costs the same.
pub falls-kept : (a b k j m : ℕ) → 5 * b + j ≡ m → a ≡ b → k < j → 5 * a + k < m
falls-kept a b k j m is same h = omega (arith, is, same, h)

-- So it does where the part costs less.
pub falls-part : (a b k j m : ℕ) → 5 * b + j ≡ m → a < b → k < 5 + j → 5 * a + k < m
falls-part a b k j m is less h = omega (arith, is, less, h)

node-at : {T : Type 0} (f : T → Value) (xs : List T) (k : ℕ) (d : T) → k < length xs → nodes (f (get_or xs k d)) ≤ nodes_values (values f xs)
node-at f [] k d h = absurd (omega (arith, h))
node-at f (x ∷ xs) zero d h = omega arith
node-at f (x ∷ xs) (suc k) d h = let q = node-at f xs k d (omega (arith, h)) in omega (arith, q)

-- An element has fewer nodes than the list.
pub element-nodes : {T : Type 0} (f : T → Value) (xs : List T) (k : ℕ) (x : T) → k < length xs → x ≡ get_or xs k x → nodes (f x) < suc (nodes_values (values f xs))
element-nodes f xs k x h at = let q = node-at f xs k x h in let same = ap (λ y. nodes (f y)) at in omega (arith, q, same)

slot-at : (ms : List (List ℕ × Option Value)) (k : ℕ) (d : List ℕ × Option Value) → k < length ms → nodes_in (get_or ms k d).1 ≤ nodes_slots (members_named ms)
slot-at [] k d h = absurd (omega (arith, h))
slot-at ((name, None) ∷ ms) zero d h = omega arith
slot-at ((name, Some v) ∷ ms) zero d h = omega arith
slot-at ((name, None) ∷ ms) (suc k) d h = let q = slot-at ms k d (omega (arith, h)) in omega (arith, q)
slot-at ((name, Some v) ∷ ms) (suc k) d h = let q = slot-at ms k d (omega (arith, h)) in omega (arith, q)

-- So has a member.
pub member-nodes : (ms : List (List ℕ × Option Value)) (k : ℕ) (m : List ℕ × Option Value) → k < length ms → m ≡ get_or ms k m → nodes_in m.1 < suc (nodes_slots (members_named ms))
member-nodes ms k m h at = let q = slot-at ms k m h in let same = ap (λ (n : List ℕ × Option Value). nodes_in n.1) at in omega (arith, q, same)

one-more : (n : ℕ) → 1 + n ≡ suc n
one-more n = omega arith

-- What the parts of a value have in all.
pub list-nodes : (v : Value) (vs : Values) → Some vs ≡ list_in v → suc (nodes_values vs) ≡ nodes v
list-nodes v vs e = sym (one-more (nodes_values vs)) ∙ ap nodes (list-is v vs e)

pub bag-nodes : (v : Value) (vs : Values) → Some vs ≡ bag_in v → suc (nodes_values vs) ≡ nodes v
bag-nodes v vs e = sym (one-more (nodes_values vs)) ∙ ap nodes (bag-is v vs e)

pub members-nodes : (v : Value) (ms : Slots) → Some ms ≡ members_in v → suc (nodes_slots ms) ≡ nodes v
members-nodes v ms e = sym (one-more (nodes_slots ms)) ∙ ap nodes (members-is v ms e)

pub choice-nodes : (v : Value) (i : List ℕ) (w : Value) → Some (i, w) ≡ choice_in v → suc (nodes w) ≡ nodes v
choice-nodes v i w e = sym (one-more (nodes w)) ∙ ap nodes (choice-is v i w e)

-- A bag and a table cost as a list does.
pub set-costs : (n : ℕ) (s : Shape) → cost n (Shape.list_of s) ≡ cost n (Shape.set_of s)
set-costs zero s = refl
set-costs (suc n) s = refl

pub table-costs : (n : ℕ) (s : Shape) → cost n (Shape.list_of s) ≡ cost n (Shape.table s)
table-costs zero s = refl
table-costs (suc n) s = refl
