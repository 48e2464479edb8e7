-- Members by the components that their fields are.
use Rattle.std.proofs.Common.{◌≡◌, refl, sym, ap, subst, arith, ℕ, zero, suc, ◌+◌, ◌<◌, ◌≤◌, List, [], ◌∷◌, take, get_or, length, Option, Some, None, true}
use Rattle.asn_coding.specs.SetFields.{component_at, listed_components}
use Rattle.asn_coding.proofs.ReadingOrder.{fields_from}
use Rattle.asn_core.specs.declared.tag.Tag.{Tag}
use Rattle.asn_dynamic_fits.specs.Fields.{FitsMember}
use Rattle.asn_dynamic_fits.proofs.Having.{fields-back}
use Rattle.asn_dynamic_values.specs.DynView.{members_named}
use Rattle.asn_model.specs.Components.{Component}
use Rattle.asn_model.specs.Shape.{FieldAdditions, Fields, Presence, SeqKind, Shape}
use Rattle.asn_model.specs.Value.{Fits, FitsFields, Slots, Value, is_kept, may_lack}
use Rattle.asn_parts.proofs.Fields.{fields-listed}

abbrev pub Named : Type 0
Named = List ℕ × Option Value

-- The member is one of the component.
abbrev pub IsMember : Component → Named → Type 0
IsMember c m = FitsMember c.name c.presence c.shape m

-- Each member is one of the component at its place.
abbrev pub AreMembers : List Component → List Named → Type 0
AreMembers [] [] = Unit {0}
AreMembers [] (m ∷ ms) = ⊥
AreMembers (c ∷ cs) [] = ⊥
AreMembers (c ∷ cs) (m ∷ ms) = IsMember c m × AreMembers cs ms

to-fields : (cs : List Component) (ms : List Named) → AreMembers cs ms → FitsFields (fields_from cs) (members_named ms)
to-fields [] [] all = FitsFields.fits_end
to-fields [] (m ∷ ms) all = absurd all
to-fields (c ∷ cs) [] all = absurd all
to-fields (c ∷ cs) ((name, None) ∷ ms) all =
    subst (λ n. FitsFields (fields_from (c ∷ cs)) (Slots.absent n (members_named ms))) (sym all.0.0) (FitsFields.fits_absent all.0.1 (to-fields cs ms all.1))
to-fields (c ∷ cs) ((name, Some v) ∷ ms) all =
    subst (λ n. FitsFields (fields_from (c ∷ cs)) (Slots.present n v (members_named ms))) (sym all.0.0) (FitsFields.fits_present all.0.1.1 all.0.1.0 (to-fields cs ms all.1))

absent-back : {n m : List ℕ} {t : Tag} {p : Presence} {s : Shape} {fs : Fields} {ms : Slots} → FitsFields (Fields.field n t p s fs) (Slots.absent m ms) → (m ≡ n) × (may_lack p ≡ true) × FitsFields fs ms
absent-back (FitsFields.fits_absent lack rest) = (refl, lack, rest)

present-back : {n m : List ℕ} {t : Tag} {p : Presence} {s : Shape} {fs : Fields} {v : Value} {ms : Slots} → FitsFields (Fields.field n t p s fs) (Slots.present m v ms) → (m ≡ n) × ((is_kept p v ≡ true) × Fits s v) × FitsFields fs ms
present-back (FitsFields.fits_present fit kept rest) = (refl, (kept, fit), rest)

absent-none : {m : List ℕ} {ms : Slots} → FitsFields Fields.no_fields (Slots.absent m ms) → ⊥
absent-none f = elim f [ ]

present-none : {m : List ℕ} {v : Value} {ms : Slots} → FitsFields Fields.no_fields (Slots.present m v ms) → ⊥
present-none f = elim f [ ]

lacks-one : {n : List ℕ} {t : Tag} {p : Presence} {s : Shape} {fs : Fields} → FitsFields (Fields.field n t p s fs) Slots.no_slots → ⊥
lacks-one f = elim f [ ]

from-fields : (cs : List Component) (ms : List Named) → FitsFields (fields_from cs) (members_named ms) → AreMembers cs ms
from-fields [] [] f = tt
from-fields [] ((name, None) ∷ ms) f = absent-none f
from-fields [] ((name, Some v) ∷ ms) f = present-none f
from-fields (c ∷ cs) [] f = lacks-one f
from-fields (c ∷ cs) ((name, None) ∷ ms) f = let b = absent-back f in ((b.0, b.1), from-fields cs ms b.2)
from-fields (c ∷ cs) ((name, Some v) ∷ ms) f = let b = present-back f in ((b.0, b.1), from-fields cs ms b.2)

-- The members fit where each one is of its component, and only there.
pub members-fit : (kind : SeqKind) (fs : Fields) (added : FieldAdditions) (ms : List Named) → AreMembers (listed_components fs added) ms → Fits (Shape.seq kind fs added) (Value.members (members_named ms))
members-fit kind fs added ms all = Fits.fits_members (subst (λ f. FitsFields f (members_named ms)) (fields-listed fs added) (to-fields (listed_components fs added) ms all))

pub fit-members : (kind : SeqKind) (fs : Fields) (added : FieldAdditions) (ms : List Named) → Fits (Shape.seq kind fs added) (Value.members (members_named ms)) → AreMembers (listed_components fs added) ms
fit-members kind fs added ms f = from-fields (listed_components fs added) ms (subst (λ f. FitsFields f (members_named ms)) (sym (fields-listed fs added)) (fields-back kind fs added (members_named ms) f))

-- There are as many members as components.
pub as-many : (cs : List Component) (ms : List Named) → AreMembers cs ms → length ms ≡ length cs
as-many [] [] all = refl
as-many [] (m ∷ ms) all = absurd all
as-many (c ∷ cs) [] all = absurd all
as-many (c ∷ cs) (m ∷ ms) all = ap suc (as-many cs ms all.1)

same-some : {A : Type 0} {x y : A} → ◌≡◌ {A = Option A} (Some x) (Some y) → x ≡ y
same-some e = cc e

-- The member at a place is of the component there.
pub member-at : (cs : List Component) (ms : List Named) (k : ℕ) (c : Component) (d : Named) → AreMembers cs ms → component_at cs k ≡ Some c → IsMember c (get_or ms k d)
member-at [] [] k c d all e = let n : ◌≡◌ {A = Option Component} None (Some c) = e in cc n
member-at [] (m ∷ ms) k c d all e = absurd all
member-at (b ∷ cs) [] k c d all e = absurd all
member-at (b ∷ cs) (m ∷ ms) zero c d all e = subst (λ x. IsMember x m) (same-some e) all.0
member-at (b ∷ cs) (m ∷ ms) (suc k) c d all e = member-at cs ms k c d all.1 e

more : (cs : List Component) (ms : List Named) (k : ℕ) (c : Component) (d : Named) → k < length ms → component_at cs k ≡ Some c → IsMember c (get_or ms k d) → AreMembers (take k cs) (take k ms) → AreMembers (take (suc k) cs) (take (suc k) ms)
more [] ms k c d h e is all = let n : ◌≡◌ {A = Option Component} None (Some c) = e in cc n
more (b ∷ cs) [] k c d h e is all = absurd (omega (arith, h))
more (b ∷ cs) (m ∷ ms) zero c d h e is all = (subst (λ x. IsMember x m) (sym (same-some e)) is, tt)
more (b ∷ cs) (m ∷ ms) (suc k) c d h e is all = (all.0, more cs ms k c d (omega (arith, h)) e is all.1)

-- All are, where those at the first places are and those from there on too.
pub one-more : (cs : List Component) (ms : List Named) (k : ℕ) (c : Component) (d : Named) → k < length ms → component_at cs k ≡ Some c → IsMember c (get_or ms k d) → AreMembers (take k cs) (take k ms) → AreMembers (take (k + 1) cs) (take (k + 1) ms)
one-more cs ms k c d h e is all = let next : suc k ≡ k + 1 = omega arith in subst (λ j. AreMembers (take j cs) (take j ms)) next (more cs ms k c d h e is all)

pub none-yet : (cs : List Component) (ms : List Named) → AreMembers (take 0 cs) (take 0 ms)
none-yet cs ms = tt

pub all-done : (cs : List Component) (ms : List Named) (k : ℕ) → length ms ≡ length cs → length ms ≤ k → AreMembers (take k cs) (take k ms) → AreMembers cs ms
all-done [] [] k same h all = tt
all-done [] (m ∷ ms) k same h all = absurd (omega (arith, same))
all-done (c ∷ cs) [] k same h all = absurd (omega (arith, same))
all-done (c ∷ cs) (m ∷ ms) zero same h all = absurd (omega (arith, h))
all-done (c ∷ cs) (m ∷ ms) (suc k) same h all = (all.0, all-done cs ms k (omega (arith, same)) (omega (arith, h)) all.1)
