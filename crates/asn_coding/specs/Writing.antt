-- What an encoder holds, what a call adds to it, and why it refuses.
use Rattle.std.specs.Prelude.{◌≡◌, ℕ, List, [], ◌∷◌, Option, Some, None}
use Rattle.asn_fault.specs.declared.encode.EncodeError.{EncodeError}
use Rattle.asn_fault.specs.declared.encode.EncodeErrorKind.TheVariants.{OutOfMemory}
use Rattle.asn_fault.specs.EncodeCause.{encode_cause}
use Rattle.asn_model.specs.Canonical.{canonical_tree}
use Rattle.asn_model.specs.Notation.{Notation, notation_of}
use Rattle.asn_model.specs.Shape.{Shape, Fields, Alternatives, shape_under, field_names}
use Rattle.asn_model.specs.Writable.{Writable, WritableSlots, FirstUnencodable}
use Rattle.asn_model.specs.Value.{Value, Values, Slots, bag_of, Fits, FitsFields, FitsAlternative, value_under}
pub use Rattle.asn_slots.specs.Frames.{push, close}
pub use Rattle.asn_slots.specs.Slots.{last_present}

-- A value, or absent.
abbrev pub Frame : Type 0
Frame = List (Option Value)

-- More slots in the last frame, in order.
abbrev pub push_all : Frame → List Frame → List Frame
push_all [] fs = fs
push_all (s ∷ ss) fs = push_all ss (push s fs)

-- The values of the slots that are present.
abbrev pub present_values : Frame → Values
present_values [] = Values.no_values
present_values (None ∷ ss) = present_values ss
present_values (Some v ∷ ss) = Values.value v (present_values ss)

-- The first name, which past the names is empty.
abbrev pub head_name : List (List ℕ) → List ℕ
head_name [] = []
head_name (n ∷ ns) = n

-- The names after the first.
abbrev pub tail_names : List (List ℕ) → List (List ℕ)
tail_names [] = []
tail_names (n ∷ ns) = ns

-- Each slot with the name at its place.
abbrev pub named : Frame → List (List ℕ) → Slots
named [] ns = Slots.no_slots
named (None ∷ ss) ns = Slots.absent (head_name ns) (named ss (tail_names ns))
named (Some v ∷ ss) ns = Slots.present (head_name ns) v (named ss (tail_names ns))

-- The value of a SEQUENCE whose fields have these slots.
abbrev pub members_value : Fields → Frame → Value
members_value fs ss = Value.members (named ss (field_names fs))

-- The list of a frame's present values.
abbrev pub as_list : Frame → Option Value
as_list ss = Some (Value.list (present_values ss))

-- The members that a frame's slots are, by these names.
abbrev pub as_members : List (List ℕ) → Frame → Option Value
as_members names ss = Some (Value.members (named ss names))

-- The choice of this identifier whose payload is a frame's first slot, if that is present.
abbrev pub as_choice : List ℕ → Frame → Option Value
as_choice i [] = None
as_choice i (None ∷ ss) = None
as_choice i (Some v ∷ ss) = Some (Value.choice i v)

-- Memory is out, and the error has the notation's codec.
abbrev pub IsOutOfMemory : Notation → EncodeError → Type 0
IsOutOfMemory n e = (e.kind ≡ OutOfMemory) × (notation_of e.codec ≡ n)

-- Memory is out, or the value has a part that the notation cannot write, or the codec is neither notation.
pub data FailsToEncode (n : Notation) (v : Value) (e : EncodeError) : Type 0 where
  no_memory : IsOutOfMemory n e → FailsToEncode n v e
  blocked : FirstUnencodable n v (encode_cause e.kind) → notation_of e.codec ≡ n → FailsToEncode n v e
  write_free : n ≡ Notation.other → FailsToEncode n v e

-- The same, under constraints that fix this size, or none.
abbrev pub FailsToEncodeUnder : Notation → Option ℕ → Shape → Value → EncodeError → Type 0
FailsToEncodeUnder n size s v e = FailsToEncode n (value_under size s v) e

-- Whatever frames the old state holds, the new state holds these frames turned by f.
abbrev pub Maps : {S : Type 0} → (S → List Frame → Type 0) → (List Frame → List Frame) → S → S → Type 0
Maps holds f old new = (fs : List Frame) → holds old fs → holds new (f fs)

-- The last frame has one more slot, any value that is written as this one is, which can be written.
pub record Puts {S : Type 0} (holds : S → List Frame → Type 0) (n : Notation) (v : Value) (old new : S) : Type 0 where
  pub added : (w : Value) → canonical_tree n w ≡ canonical_tree n v → Maps holds (push (Some w)) old new
  pub writable : Writable n v

-- The value is written as the set of these values is, in whatever order they stand. A codec that is neither notation has their set alone.
pub data IsWrittenAsSet (n : Notation) (vs : Values) (w : Value) : Type 0 where
  written_alike : canonical_tree n w ≡ canonical_tree n (Value.bag vs) → IsWrittenAsSet n vs w
  set_itself : w ≡ bag_of vs → n ≡ Notation.other → IsWrittenAsSet n vs w

-- The last frame becomes one slot of the one before it: any value that is written as the set of its present values.
abbrev pub ClosesSet : {S : Type 0} → (S → List Frame → Type 0) → Notation → S → S → Type 0
ClosesSet holds n old new = (slots : Frame) (fs : List Frame) (w : Value) → holds old (slots ∷ fs) → IsWrittenAsSet n (present_values slots) w → holds new (push (Some w) fs)

-- The last frame has one more slot, the value, which fits its shape and can be written.
pub record Written {S : Type 0} (holds : S → List Frame → Type 0) (n : Notation) (s : Shape) (v : Value) (old new : S) : Type 0 where
  pub added : Maps holds (push (Some v)) old new
  pub fit : Fits s v
  pub writable : Writable n v

-- The same, under constraints that fix this size, or none.
abbrev pub WrittenUnder : {S : Type 0} → (S → List Frame → Type 0) → Notation → Option ℕ → Shape → Value → S → S → Type 0
WrittenUnder holds n size s v old new = Written holds n (shape_under size s) (value_under size s v) old new

-- A scope ran from a new empty frame on the old ones, returned this, and what it left is so.
pub record ScopeRan {S R : Type 0} (holds : S → List Frame → Type 0) (ran : S → R → S → Type 0) (old : S) (answer : R) (Left : S → Type 0) : Type 0 where
  pub start : S
  pub end : S
  pub opened : Maps holds (λ fs. [] ∷ fs) old start
  pub answered : ran start answer end
  pub left : Left end

-- The last frame has these slots more, which fit the fields and can be written.
pub record Filled {S : Type 0} (holds : S → List Frame → Type 0) (n : Notation) (all : Fields) (names : List (List ℕ)) (slots : Frame) (old new : S) : Type 0 where
  pub added : Maps holds (push_all slots) old new
  pub fit : FitsFields all (named slots names)
  pub writable : WritableSlots n (named slots names)

-- Memory is out, or the first of the slots that cannot be written is refused.
pub data FailsToFill (n : Notation) : Frame → EncodeError → Type 0 where
  no_memory_left : {ss : Frame} {e : EncodeError} → IsOutOfMemory n e → FailsToFill n ss e
  slot_refused : {v : Value} {ss : Frame} {e : EncodeError} → FailsToEncode n v e → FailsToFill n (Some v ∷ ss) e
  after_slot : {v : Value} {ss : Frame} {e : EncodeError} → Writable n v → FailsToFill n ss e → FailsToFill n (Some v ∷ ss) e
  after_absent : {ss : Frame} {e : EncodeError} → FailsToFill n ss e → FailsToFill n (None ∷ ss) e

-- The last frame has one more slot, the payload, which fits its alternative and can be written.
pub record Offered {S : Type 0} (holds : S → List Frame → Type 0) (n : Notation) (all : Alternatives) (id : List ℕ) (v : Value) (old new : S) : Type 0 where
  pub added : Maps holds (push (Some v)) old new
  pub fit : FitsAlternative all id v
  pub writable : Writable n v
