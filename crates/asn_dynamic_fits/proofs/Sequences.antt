-- The members of a part that is a SEQUENCE or SET, within loops.
use Rattle.std.proofs.Common.{◌≡◌, sym, ap, ◌∙◌, subst, ℕ, ◌+◌, ◌<◌, ◌≤◌, List, length, map, take, get_or, Some, None, Decides, true, false}
use Rattle.std.proofs.lemmas.List.{get_or-map}
use Rattle.asn_coding.specs.SetFields.{component_at, listed_components}
use Rattle.asn_dynamic_fits.proofs.Having.{decides-always, decides-never, members-other}
use Rattle.asn_dynamic_fits.proofs.Meant.{fields-listed_in, fields_meant, seq-meant}
use Rattle.asn_dynamic_fits.proofs.Members.{AreMembers, IsMember, Named, all-done, as-many, fit-members, member-at, members-fit, one-more}
use Rattle.asn_dynamic_fits.specs.Contents.{members_in}
use Rattle.asn_dynamic_values.specs.DynView.{members_named}
use Rattle.asn_model.specs.Components.{Component}
use Rattle.asn_model.specs.Shape.{FieldAdditions, Fields, SeqKind, Shape}
use Rattle.asn_model.specs.Value.{Fits, Value}
use Rattle.asn_parts.specs.Bodies.{loops_of, meant}
use Rattle.asn_parts.specs.Closed.{closed_added_fields, closed_fields}

-- An entry is seen at its place.
pub seen-at : {A B : Type 0} (f : A → B) (xs : List A) (k : ℕ) (x : A) → k < length xs → x ≡ get_or xs k x → f x ≡ get_or (map f xs) k (f x)
seen-at f xs k x h at = ap f at ∙ sym (get_or-map f xs k x (f x) h)

module _ {P : Type 0} (shape : List P → P → Shape) (bodies : List P) (part : P) (kind : SeqKind) (fs : Fields) (added : FieldAdditions) (is : shape bodies part ≡ Shape.seq kind fs added) where
  abbrev cs : List Component
  cs = fields_meant shape bodies part

  abbrev F : Fields
  F = closed_fields 0 (loops_of shape bodies) fs

  abbrev A : FieldAdditions
  A = closed_added_fields 0 (loops_of shape bodies) added

  listed : listed_components F A ≡ cs
  listed = fields-listed_in shape bodies part kind fs added is

  own : Shape.seq kind F A ≡ meant shape bodies part
  own = seq-meant shape bodies part kind fs added is

  to-part : (ms : List Named) → AreMembers cs ms → Fits (meant shape bodies part) (Value.members (members_named ms))
  to-part ms all = subst (λ s. Fits s (Value.members (members_named ms))) own (members-fit kind F A ms (subst (λ l. AreMembers l ms) (sym listed) all))

  from-part : (ms : List Named) → Fits (meant shape bodies part) (Value.members (members_named ms)) → AreMembers cs ms
  from-part ms f = subst (λ l. AreMembers l ms) listed (fit-members kind F A ms (subst (λ s. Fits s (Value.members (members_named ms))) (sym own) f))

  -- A value of another kind is none.
  pub no-members : (v : Value) → None ≡ members_in v → Decides false (Fits (meant shape bodies part) v)
  no-members v e = subst (λ s. Decides false (Fits s v)) own (members-other kind F A v e)

  module _ (ms : List Named) where
    -- There are more or fewer members than fields.
    pub wrong-count : (length ms ≡ length cs → ⊥) → Decides false (Fits (meant shape bodies part) (Value.members (members_named ms)))
    wrong-count none = decides-never (λ f. none (as-many cs ms (from-part ms f)))

    -- One isn't of its field.
    pub wrong-member : (k : ℕ) (c : Component) (m : Named) → component_at cs k ≡ Some c → m ≡ get_or ms k m → (IsMember c m → ⊥) → Decides false (Fits (meant shape bodies part) (Value.members (members_named ms)))
    wrong-member k c m e at none = decides-never (λ f. none (subst (IsMember c) (sym at) (member-at cs ms k c m (from-part ms f) e)))

    -- One more is.
    pub right-member : (k : ℕ) (c : Component) (m : Named) → k < length ms → component_at cs k ≡ Some c → m ≡ get_or ms k m → IsMember c m → AreMembers (take k cs) (take k ms) → AreMembers (take (k + 1) cs) (take (k + 1) ms)
    right-member k c m h e at is all = one-more cs ms k c m h e (subst (IsMember c) at is) all

    -- All are.
    pub right-members : (k : ℕ) → length ms ≡ length cs → length ms ≤ k → AreMembers (take k cs) (take k ms) → Decides true (Fits (meant shape bodies part) (Value.members (members_named ms)))
    right-members k same h all = decides-always (to-part ms (all-done cs ms k same h all))
