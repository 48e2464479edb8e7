-- The values that are read are held.
use Rattle.std.proofs.Common.{◌≡◌, sym, subst, ℕ, zero, suc, List, [], ◌∷◌, ◌++◌, map, set, Bool, true, false, if◌then◌else◌, Option, Some, None, IfSome, String, Global}
use Rattle.std.specs.Prelude.{option_map}
use Rattle.std.specs.List.{AllByRecursion}
use Rattle.std.proofs.lemmas.List.Elements.{recursion_from_All}
use Rattle.asn_coding.specs.SetFields.{kept_slot}
use Rattle.asn_dynamic_reading.specs.fitting.HeldValue.{AreHeldSlots, AreHeldValues, IsHeldValue}
use Rattle.asn_dynamic_reading.proofs.fitting.Elements.{held_sorted, held_table}
use Rattle.asn_dynamic_values.specs.DynView.{dyn_value, members_named, named_value}
use Rattle.asn_dynamic_values.specs.declared.value.DynValue.{DynValue}
use Rattle.asn_model.specs.Shape.{Presence}
use Rattle.asn_model.specs.Value.{Value, Values, bag_of, is_kept, table_of, values}
use Rattle.asn_dynamic_reading.specs.Fields.{AreAbsent}
use Rattle.asn_dynamic_reading.proofs.FieldSteps.{Member}

abbrev pub Held : DynValue → Type 0
Held v = IsHeldValue (dyn_value v)

-- One element more.
pub held-more : (vs : List DynValue) (v : DynValue) → AreHeldValues (values dyn_value vs) → Held v → AreHeldValues (values dyn_value (vs ++ v ∷ []))
held-more [] v all one = (one, tt)
held-more (w ∷ ws) v all one = (all.0, held-more ws v all.1 one)

-- A value that is seen as a held one.
pub seen-held : (v : DynValue) (w : Value) → dyn_value v ≡ w → IsHeldValue w → Held v
seen-held v w e h = subst IsHeldValue (sym e) h

pub bag-held : (v : DynValue) (vs : List DynValue) → dyn_value v ≡ bag_of (values dyn_value vs) → AreHeldValues (values dyn_value vs) → Held v
bag-held v vs e h = seen-held v (bag_of (values dyn_value vs)) e (held_sorted (values dyn_value vs) h)

pub table-held : (v : DynValue) (vs : List DynValue) → dyn_value v ≡ Value.list (table_of (values dyn_value vs)) → AreHeldValues (values dyn_value vs) → Held v
table-held v vs e h = seen-held v (Value.list (table_of (values dyn_value vs))) e (held_table (values dyn_value vs) h)

-- What is kept of a held value.
pub kept-held : (p : Presence) (v : DynValue) (o : Option DynValue) → option_map dyn_value o ≡ kept_slot p (Some (dyn_value v)) → Held v → IfSome o Held
kept-held p v None e h = tt
kept-held p v (Some w) e h = by (is_kept p (dyn_value v)) e
  where
    by : (b : Bool) → ◌≡◌ {A = Option Value} (Some (dyn_value w)) (if b then Some (dyn_value v) else None) → Held w
    by true f = let same : dyn_value w ≡ dyn_value v = cc f in subst IsHeldValue (sym same) h
    by false f = cc f

-- The members that are present are held.
abbrev pub HeldMembers : List Member → Type 0
HeldMembers ms = AreHeldSlots (members_named (map named_value ms))

pub members-more : (ms : List Member) (m : Member) → HeldMembers ms → IfSome m.1 Held → HeldMembers (ms ++ m ∷ [])
members-more [] (name, None) all one = tt
members-more [] (name, Some v) all one = (one, tt)
members-more ((n, None) ∷ ms) m all one = members-more ms m all one
members-more ((n, Some v) ∷ ms) m all one = (all.0, members-more ms m all.1 one)

pub members-set : (ms : List Member) (k : ℕ) (m : Member) → HeldMembers ms → IfSome m.1 Held → HeldMembers (set ms k m)
members-set [] k m all one = tt
members-set ((n, None) ∷ ms) zero (name, None) all one = all
members-set ((n, None) ∷ ms) zero (name, Some v) all one = (one, all)
members-set ((n, Some w) ∷ ms) zero (name, None) all one = all.1
members-set ((n, Some w) ∷ ms) zero (name, Some v) all one = (one, all.1)
members-set ((n, None) ∷ ms) (suc k) m all one = members-set ms k m all one
members-set ((n, Some w) ∷ ms) (suc k) m all one = (all.0, members-set ms k m all.1 one)

none-held : (ms : List Member) → AllByRecursion (λ m. m.1 ≡ None) ms → HeldMembers ms
none-held [] all = tt
none-held ((name, None) ∷ ms) all = none-held ms all.1
none-held ((name, Some v) ∷ ms) all = let d : ◌≡◌ {A = Option DynValue} (Some v) None = all.0 in cc d

pub absent-held : (names : List (List ℕ)) (ms : List Member) → AreAbsent names ms → HeldMembers ms
absent-held names ms h = none-held ms (recursion_from_All (λ (m : Member). m.1 ≡ None) ms h.1)
