-- Objects that are choices.
use Rattle.std.proofs.Common.{◌≡◌, refl, ap, sym, subst, ℕ, ◌<◌, ◌≤◌, List, [], ◌∷◌, length, Option, Some, None, String, Global, string_bytes, arith}
use Rattle.serde_json.specs.Data.{Data, Members}
use Rattle.serde_json.specs.View.{view, members_view}
use Rattle.serde_json.specs.declared.value.Value.{Value}
use Rattle.asn_traits.specs.Notation.{Notation}
use Rattle.asn_coding.specs.Opening.{IsChoice}
use Rattle.asn_traits.specs.Shape.{place_named}
use Rattle.asn_traits.specs.Tree.{Tree, Slot, as_choice, slot_nodes, same_identifier}
use Rattle.jer_rules.specs.Payload.{Only, NoPayload}

-- An object without entries has no payload.
pub no_payload-empty : (identifiers : List (List ℕ)) (es : List (String Global × Value)) → length es ≡ 0 → NoPayload identifiers (members_view es)
no_payload-empty identifiers [] e = NoPayload.no_member
no_payload-empty identifiers (x ∷ es) e = absurd (omega (arith, e))

abbrev Opens : List (List ℕ) → Members → Option ℕ → Slot → Type 0
Opens identifiers ms place put = (slot_nodes put < slot_nodes (Some (Tree.json (Data.object ms)))) × IsChoice Notation.jer identifiers (Some (Tree.json (Data.object ms))) place put

-- The only member's value is the payload of the alternative that it names.
pub opens : {ms : Members} {name : List ℕ} {d : Data} (identifiers : List (List ℕ)) (k : ℕ) → Only ms name d → place_named same_identifier identifiers name ≡ Some k → Opens identifiers ms (Some k) (Some (Tree.json d))
opens identifiers k (Only.only name d) e = (omega arith, IsChoice.is_choice identifiers _ _ name k refl e)

-- Where none is named, the payload is absent.
pub opens_none : {identifiers : List (List ℕ)} {ms : Members} → NoPayload identifiers ms → Opens identifiers ms None None
opens_none NoPayload.no_member = (omega arith, IsChoice.is_empty _ _ refl)
opens_none (NoPayload.no_such_name name d e) = (omega arith, IsChoice.is_unnamed _ _ _ name refl e)

abbrev Entry : Type 0
Entry = String Global × Value

-- The first of at most one entry is the only one.
only-entry : (old new : List Entry) (x : Entry) → length old ≤ 1 → old ≡ x ∷ new → old ≡ x ∷ []
only-entry old [] x one e = e
only-entry old (y ∷ new) x one e = absurd (omega (arith, one, ap (λ (l : List Entry). length l) e))

-- An object of more than one member is no choice.
pub no_choice-many : (es : List Entry) → 1 < length es → as_choice Notation.jer (Tree.json (Data.object (members_view es))) ≡ None
no_choice-many [] h = absurd (omega (arith, h))
no_choice-many (x ∷ []) h = absurd (omega (arith, h))
no_choice-many (x ∷ y ∷ es) h = refl

-- The only member's name is none of the identifiers.
pub payload_lost : (identifiers : List (List ℕ)) (old new : List Entry) (name : String Global) (v : Value) (text : List ℕ) → length old ≤ 1 → old ≡ (name, v) ∷ new → text ≡ string_bytes name
    → None ≡ place_named same_identifier identifiers text → NoPayload identifiers (members_view old)
payload_lost identifiers old new name v text one e same none =
    subst (λ es. NoPayload identifiers (members_view es)) (sym (only-entry old new (name, v) one e)) (NoPayload.no_such_name (string_bytes name) (view v) (rw (← same) (sym none)))

-- The only member's name is the identifier at this place.
pub payload_found : (identifiers : List (List ℕ)) (old new : List Entry) (name : String Global) (v : Value) (text : List ℕ) (k : ℕ) → length old ≤ 1 → old ≡ (name, v) ∷ new → text ≡ string_bytes name
    → Some k ≡ place_named same_identifier identifiers text → (n : List ℕ) × Only (members_view old) n (view v) × (place_named same_identifier identifiers n ≡ Some k)
payload_found identifiers old new name v text k one e same some =
    (string_bytes name, subst (λ es. Only (members_view es) (string_bytes name) (view v)) (sym (only-entry old new (name, v) one e)) (Only.only (string_bytes name) (view v)), rw (← same) (sym some))
