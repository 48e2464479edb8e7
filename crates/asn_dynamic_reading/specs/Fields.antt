-- What reading a field of a type answers.
use Rattle.std.specs.Prelude.{◌≡◌, ◌⊎◌, ℕ, List, ◌∷◌, Option, Some, None, Result, Ok, Err, Bool, true, false, map, option_map, String, string_bytes}
use Rattle.std.specs.Global.{Global}
use Rattle.std.specs.List.{All}
use Rattle.asn_coding.specs.Answer.{Refuses}
use Rattle.asn_coding.specs.Passing.{ComponentFailsWith}
use Rattle.asn_dynamic_faults.specs.DynFailure.{dyn_failure}
use Rattle.asn_dynamic_faults.specs.declared.errors.DynError.{DynError}
use Rattle.asn_dynamic_values.specs.DynView.{dyn_value}
use Rattle.asn_dynamic_values.specs.declared.value.DynValue.{DynValue}
use Rattle.asn_model.specs.Components.{Component, Standing}
use Rattle.asn_model.specs.Notation.{Notation}
use Rattle.asn_model.specs.Shape.{Presence, Shape}
use Rattle.asn_model.specs.Tree.{Slot, Tree}
use Rattle.asn_model.specs.Value.{may_lack}
use Rattle.asn_parts.specs.Parts.{component_of}
use Rattle.asn_parts.specs.declared.part.PartField.{PartField}
use Rattle.asn_parts.specs.Bodies.{loops_of}
use Rattle.asn_parts.specs.Listed.{TakesComponent, closed_component}

-- The component that a field is within the loops of these bodies.
abbrev pub field_meant : {P : Type 0} → (List P → P → Shape) → List P → PartField P → Component
field_meant shape bodies field = closed_component (loops_of shape bodies) (component_of (shape bodies) field)

-- The first pending slot is taken as the component, or it is refused for a reason that it has.
abbrev pub FieldAnswer : Notation → Component → List Slot → Result (Option DynValue) DynError → List Slot → Type 0
FieldAnswer n c before (Ok o) after = TakesComponent n c before (option_map dyn_value o) after
FieldAnswer n c before (Err e) after = Refuses n (ComponentFailsWith n c.presence c.standing c.shape c.name before) (dyn_failure e)

-- A field is read by its type's own reader, which has to answer an absent slot of a required field of the root too.
abbrev pub IsReadBySlot : Presence → Standing → List Slot → Type 0
IsReadBySlot p at before = ((p ≡ Presence.required) × (at ≡ Standing.root)) ⊎ ((t : Tree) × (rest : List Slot) × (before ≡ Some t ∷ rest))

-- An absent slot of a field that may be absent is taken; any other slot stays to be read, or the field is missing.
abbrev pub AbsenceAnswer : Notation → Presence → Standing → List ℕ → List Slot → Result Bool DynError → List Slot → Type 0
AbsenceAnswer n p at name before (Ok true) after = (before ≡ None ∷ after) × (may_lack p ≡ true)
AbsenceAnswer n p at name before (Ok false) after = (after ≡ before) × IsReadBySlot p at before
AbsenceAnswer n p at name before (Err e) after = (s : Shape) → Refuses n (ComponentFailsWith n p at s name before) (dyn_failure e)

-- The members have these names, and all are absent.
abbrev pub AreAbsent : List (List ℕ) → List (String Global × Option DynValue) → Type 0
AreAbsent names members = (map (λ m. string_bytes m.0) members ≡ names) × All (λ m. m.1 ≡ None) members
