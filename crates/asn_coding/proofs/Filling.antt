-- What a scope writes is what its type writes.
use Rattle.std.proofs.Common.{Bool, true, false, if◌then◌else◌, Option, ◌≡◌, ℕ, List, [], ◌∷◌, ◌++◌, Some, None, Ok, Result, ap, sym, ◌∙◌, append_assoc, inl, inr, MutBor, append-nil, subst}
use Rattle.std.specs.Fn.{Once, FnOnceReturnsAtMut}
use Rattle.asn_core.specs.declared.tag.Tag.{Tag}
use Rattle.asn_fault.specs.declared.encode.EncodeError.{EncodeError}
use Rattle.asn_model.specs.Notation.{Notation}
use Rattle.asn_model.specs.Shape.{Shape, Fields, Alternatives, AlternativeAdditions, Presence, SeqKind, FieldAdditions, all_fields, all_alternatives, alternative_tagged, tag_eq}
use Rattle.asn_model.specs.Value.{Value, Fits, FitsFields, FitsAlternative, is_kept, may_lack}
use Rattle.asn_coding.specs.Writing.{Frame, push, push_all, close, as_members, as_choice, named, Maps, Written, Filled, FailsToEncode, ScopeRan, FailsToFill, tail_names, Offered}

-- On a new frame the slots are the frame.
pub push_all-new : (ss f : Frame) (fs : List Frame) → push_all ss (f ∷ fs) ≡ (f ++ ss) ∷ fs
push_all-new [] f fs = ap (λ g. g ∷ fs) (sym (append-nil f))
push_all-new (s ∷ ss) f fs = push_all-new ss (f ++ (s ∷ [])) fs ∙ ap (λ g. g ∷ fs) (append_assoc f (s ∷ []) ss)

pub fill_end : {S : Type 0} {holds : S → List Frame → Type 0} {n : Notation} {now : S} → Filled holds n Fields.no_fields [] [] now now
fill_end {S} {holds} {n} {now} = record { added = λ fs h. h; fit = FitsFields.fits_end; writable = tt }

pub fill_present : {S : Type 0} {holds : S → List Frame → Type 0} {n : Notation} {name : List ℕ} {g : Tag} {p : Presence} {s : Shape} {v : Value} {rest : Fields} {names : List (List ℕ)} {ss : Frame} {old mid new : S} → Written holds n s v old mid → is_kept p v ≡ true → Filled holds n rest names ss mid new → Filled holds n (Fields.field name g p s rest) (name ∷ names) (Some v ∷ ss) old new
fill_present {holds = holds} {v = v} {ss = ss} {new = new} w kept f = record { added = λ fs h. f.added (push (Some v) fs) (w.added fs h); fit = FitsFields.fits_present w.fit kept f.fit; writable = (w.writable, f.writable) }

pub fill_absent : {S : Type 0} {holds : S → List Frame → Type 0} {n : Notation} {name : List ℕ} {g : Tag} {p : Presence} {s : Shape} {rest : Fields} {names : List (List ℕ)} {ss : Frame} {old mid new : S} → Maps holds (push None) old mid → may_lack p ≡ true → Filled holds n rest names ss mid new → Filled holds n (Fields.field name g p s rest) (name ∷ names) (None ∷ ss) old new
fill_absent {holds = holds} {ss = ss} {new = new} w lack f = record { added = λ fs h. f.added (push None fs) (w fs h); fit = FitsFields.fits_absent lack f.fit; writable = f.writable }

-- What a scope's refusal is for its type.
pub refuse_members : {n : Notation} {ss : Frame} {e : EncodeError} (names : List (List ℕ)) → FailsToFill n ss e → FailsToEncode n (Value.members (named ss names)) e
refuse_members names (FailsToFill.no_memory_left o) = FailsToEncode.no_memory o
refuse_members names (FailsToFill.slot_refused (FailsToEncode.no_memory o)) = FailsToEncode.no_memory o
refuse_members names (FailsToFill.slot_refused (FailsToEncode.blocked b c)) = FailsToEncode.blocked (inl b) c
refuse_members names (FailsToFill.slot_refused (FailsToEncode.write_free o)) = FailsToEncode.write_free o
refuse_members {n} {ss} {e} names (FailsToFill.after_slot w r) = elim (refuse_members (tail_names names) r) [ FailsToEncode.no_memory o ↦ FailsToEncode.no_memory o | FailsToEncode.blocked b c ↦ FailsToEncode.blocked (inr (w, b)) c | FailsToEncode.write_free o ↦ FailsToEncode.write_free o ]
refuse_members names (FailsToFill.after_absent r) = elim (refuse_members (tail_names names) r) [ FailsToEncode.no_memory o ↦ FailsToEncode.no_memory o | FailsToEncode.blocked b c ↦ FailsToEncode.blocked b c | FailsToEncode.write_free o ↦ FailsToEncode.write_free o ]

-- The whole scope, of a sequence or set with any additions.
pub scope_fields : {S F : Type 0} {g : Once F (MutBor S × Unit {0}) (Result (Unit {0}) EncodeError × (MutBor S × Unit {0}))} {f : F} {holds : S → List Frame → Type 0} {names : List (List ℕ)} {old new : S} (n : Notation) (kind : SeqKind) (root : Fields) (more : FieldAdditions) (slots : Frame)
    → (r : ScopeRan holds (FnOnceReturnsAtMut g f) old (Ok tt) (λ left. Maps holds (close (as_members names)) left new))
    → Filled holds n (all_fields root more) names slots r.answered.shown.now r.answered.left.now
    → Written holds n (Shape.seq kind root more) (Value.members (named slots names)) old new
scope_fields {holds = holds} {names = names} n kind root more slots r f = record {
  added = λ fs h. r.left _ (subst (holds r.end) (push_all-new slots [] fs) (subst (λ e. holds e (push_all slots ([] ∷ fs))) r.answered.leaves (f.added ([] ∷ fs) (subst (λ s. holds s ([] ∷ fs)) (sym r.answered.shows) (r.opened fs h)))));
  fit = Fits.fits_members f.fit;
  writable = f.writable;
}

-- What is written as the payload is offered, where it fits its alternative.
pub offered : {S : Type 0} {holds : S → List Frame → Type 0} {n : Notation} {s : Shape} {v : Value} {all : Alternatives} {id : List ℕ} {old new : S} → Written holds n s v old new → FitsAlternative all id v → Offered holds n all id v old new
offered w fits = record { added = w.added; fit = fits; writable = w.writable }

-- The scope of a choice.
pub scope_choice : {S F : Type 0} {g : Once F (MutBor S × Unit {0}) (Result Tag EncodeError × (MutBor S × Unit {0}))} {f : F} {holds : S → List Frame → Type 0} {old new : S} {answer : Tag} (n : Notation) (alts : Alternatives) (added : AlternativeAdditions) (id : List ℕ) (v : Value)
    → (r : ScopeRan holds (FnOnceReturnsAtMut g f) old (Ok answer) (λ left. Maps holds (close (as_choice id)) left new))
    → Offered holds n (all_alternatives alts added) id v r.answered.shown.now r.answered.left.now
    → Written holds n (Shape.choice alts added) (Value.choice id v) old new
scope_choice {holds = holds} n alts added id v r f = record {
  added = λ fs h. r.left _ (subst (λ e. holds e (push (Some v) ([] ∷ fs))) r.answered.leaves (f.added ([] ∷ fs) (subst (λ s. holds s ([] ∷ fs)) (sym r.answered.shows) (r.opened fs h))));
  fit = Fits.fits_choice f.fit;
  writable = f.writable;
}

tagged_or_later : (b : Bool) (id name : List ℕ) (t : Tag) (s shape : Shape) (alts : Alternatives) (named : Option (List ℕ × Shape)) (v : Value) → (named ≡ Some (name, shape) → FitsAlternative alts name v)
    → (if b then Some (id, s) else named) ≡ Some (name, shape) → Fits shape v → FitsAlternative (Alternatives.alternative id t s alts) name v
tagged_or_later true id name t s shape alts named v later e fit =
    let d : ◌≡◌ {A = Option (List ℕ × Shape)} (Some (id, s)) (Some (name, shape)) = e in
    let p : ◌≡◌ {A = List ℕ × Shape} (id, s) (name, shape) = cc d in
    subst (λ n. FitsAlternative (Alternatives.alternative id t s alts) n v) (ap (λ (r : List ℕ × Shape). r.0) p)
    (FitsAlternative.fits_here (subst (λ r. Fits r v) (sym (ap (λ (r : List ℕ × Shape). r.1) p)) fit))
tagged_or_later false id name t s shape alts named v later e fit = FitsAlternative.fits_later (later e)

-- A value of the shape of the alternative of a tag fits.
pub fits_tagged : (alts : Alternatives) (tag : Tag) (name : List ℕ) (shape : Shape) (v : Value) → alternative_tagged alts tag ≡ Some (name, shape) → Fits shape v → FitsAlternative alts name v
fits_tagged Alternatives.no_alternatives tag name shape v e fit = let d : ◌≡◌ {A = Option (List ℕ × Shape)} None (Some (name, shape)) = e in cc d
fits_tagged (Alternatives.alternative id t s alts) tag name shape v e fit =
    tagged_or_later (tag_eq tag t) id name t s shape alts (alternative_tagged alts tag) v (λ f. fits_tagged alts tag name shape v f fit) e fit
