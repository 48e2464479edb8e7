-- What writing a value that a program holds does to what an encoder holds.
use Rattle.std.specs.Prelude.{ℕ, List, ◌∷◌, Option, Some, IfSome, String, map, string_bytes}
use Rattle.std.specs.Option.{option_map}
use Rattle.std.specs.Global.{Global}
use Rattle.asn_coding.specs.Writing.{Frame, Maps, present_values, push}
use Rattle.asn_dynamic_values.specs.DynView.{dyn_value}
use Rattle.asn_dynamic_values.specs.declared.value.DynValue.{DynValue}
use Rattle.asn_model.specs.Notation.{Notation}
use Rattle.asn_model.specs.Value.{Value}
use Rattle.asn_model.specs.Writable.{Writable, WritableEach}

-- The last frame has one more slot: it is absent, or a value that can be written.
pub record SentSlot {S : Type 0} (holds : S → List Frame → Type 0) (n : Notation) (o : Option Value) (old new : S) : Type 0 where
  pub added : Maps holds (push o) old new
  pub writable : IfSome o (Writable n)

-- The last frame has one more slot, the value, which can be written.
abbrev pub Sent : {S : Type 0} → (S → List Frame → Type 0) → Notation → Value → S → S → Type 0
Sent holds n v old new = SentSlot holds n (Some v) old new

-- There is a new last frame of these slots: each is absent, or a value that can be written.
pub record SentFrame {S : Type 0} (holds : S → List Frame → Type 0) (n : Notation) (ss : Frame) (old new : S) : Type 0 where
  pub added : Maps holds (λ fs. ss ∷ fs) old new
  pub writable : WritableEach n (present_values ss)

-- The slots of elements, all of which are present.
abbrev pub element_slots : List DynValue → Frame
element_slots vs = map (λ v. Some (dyn_value v)) vs

-- The slots of members.
abbrev pub member_slots : List (String Global × Option DynValue) → Frame
member_slots ms = map (λ m. option_map dyn_value m.1) ms

-- The names of members.
abbrev pub member_names : List (String Global × Option DynValue) → List (List ℕ)
member_names ms = map (λ m. string_bytes m.0) ms
