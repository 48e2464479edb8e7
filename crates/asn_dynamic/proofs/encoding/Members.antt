-- Frames that are closed as members by their own names.
use Rattle.std.proofs.Common.{◌≡◌, refl, ap, ◌∙◌, subst, ℕ, List, [], ◌∷◌, map, length, Option, Some, None, String, Global, string_bytes}
use Rattle.std.proofs.lemmas.List.{length-map}
use Rattle.asn_coding.proofs.Filling.{refuse_members}
use Rattle.asn_coding.proofs.NameRows.{length-numbered, names-numbered}
use Rattle.asn_coding.specs.Tables.{numbered}
use Rattle.asn_coding.specs.Writing.{FailsToEncode, FailsToFill, Frame, Maps, as_members, close, named, present_values, tail_names}
use Rattle.asn_dynamic_values.specs.DynView.{dyn_value, members_named, named_value}
use Rattle.asn_dynamic_values.specs.declared.value.DynValue.{DynValue}
use Rattle.asn_dynamic.specs.encoding.Sent.{Sent, SentFrame, member_names, member_slots}
use Rattle.asn_fault.specs.declared.encode.EncodeError.{EncodeError}
use Rattle.asn_model.specs.Notation.{Notation}
use Rattle.asn_model.specs.Value.{Value, Slots}
use Rattle.asn_model.specs.Writable.{WritableEach, WritableSlots}
use Rattle.asn_names.specs.Rows.{row_names}

abbrev Members : Type 0
Members = List (String Global × Option DynValue)

-- The slots by their names are the members.
named-members : (ms : Members) → named (member_slots ms) (member_names ms) ≡ members_named (map named_value ms)
named-members [] = refl
named-members ((name, None) ∷ ms) = ap (Slots.absent (string_bytes name)) (named-members ms)
named-members ((name, Some v) ∷ ms) = ap (Slots.present (string_bytes name) (dyn_value v)) (named-members ms)

writable-named : (n : Notation) (ss : Frame) (names : List (List ℕ)) → WritableEach n (present_values ss) → WritableSlots n (named ss names)
writable-named n [] names ws = tt
writable-named n (None ∷ ss) names ws = writable-named n ss (tail_names names) ws
writable-named n (Some v ∷ ss) names ws = (ws.0, writable-named n ss (tail_names names) ws.1)

-- There is a name for each member.
pub count-members : (ms : Members) → length (numbered 0 (member_names ms)) ≡ length ms
count-members ms = length-numbered 0 (member_names ms) ∙ length-map ms (λ (m : String Global × Option DynValue). string_bytes m.0)

-- The refusal of the slots is that of the members.
pub fails-members : {n : Notation} {e : EncodeError} (ms : Members) → FailsToFill n (member_slots ms) e → FailsToEncode n (Value.members (members_named (map named_value ms))) e
fails-members {n} {e} ms r = subst (λ l. FailsToEncode n (Value.members l) e) (named-members ms) (refuse_members (member_names ms) r)

-- The slots are closed as the members.
pub members-sent : {S : Type 0} {holds : S → List Frame → Type 0} {n : Notation} {old mid new : S} (ms : Members) → SentFrame holds n (member_slots ms) old mid → Maps holds (close (as_members (row_names (numbered 0 (member_names ms))))) mid new
    → Sent holds n (Value.members (members_named (map named_value ms))) old new
members-sent {S} {holds} {n} {old} {mid} {new} ms f h =
    subst (λ l. Sent holds n (Value.members l) old new) (ap (named (member_slots ms)) (names-numbered 0 (member_names ms)) ∙ named-members ms)
    (record { added = λ fs o. h (member_slots ms ∷ fs) (f.added fs o); writable = writable-named n (member_slots ms) (row_names (numbered 0 (member_names ms))) f.writable })
