-- Steps of reading a sequence's slots, component by component.
use Rattle.std.specs.Prelude.{◌≡◌, ℕ, suc, List, [], ◌∷◌, ◌++◌, length, Option, Some, None, Ok, true, false}
use Rattle.std.proofs.Common.{sym, ◌∙◌, subst, arith, inl, inr}
use Rattle.asn_fault.specs.Failure.{Cause}
use Rattle.asn_model.specs.Components.{Component, Standing}
use Rattle.asn_model.specs.Notation.{Notation}
use Rattle.asn_model.specs.Shape.{Presence}
use Rattle.asn_model.specs.Tree.{Tree, Slot, head_slot}
use Rattle.asn_model.specs.Value.{Value, Slots, may_lack, with_field}
use Rattle.asn_model.specs.DecodesTo.{DecodesTo, FieldsDecodeTo}
use Rattle.asn_model.specs.FailsWith.{FailsWith, FieldsFailWith, Path}
use Rattle.asn_coding.specs.Answer.{Answer, OptionalAnswer, OptionalFailsWith}
use Rattle.asn_coding.specs.FieldAnswer.{AdditionFailsWith}
use Rattle.asn_coding.proofs.ReadingOrder.{fields_from}
use Rattle.asn_coding.proofs.Steps.{same_head, same_tail}

-- The members with a component in front that was read as an optional.
abbrev pub optional_field : {A : Type 0} → Presence → List ℕ → (A → Value) → Option A → Slots → Slots
optional_field k name value (Some x) vs = with_field k name (value x) vs
optional_field k name value None vs = Slots.absent name vs

-- Of the slots of cs some are taken, which give front, and those of todo are left.
pub record Taking (n : Notation) (cs : List Component) (slots rest : List Slot) (todo : List Component) (front : Slots → Slots) (now : List Slot) : Type 0 where
  pub left : List Slot
  pub is : now ≡ left ++ rest
  pub count : length left ≡ length todo
  pub said : (vs : Slots) → FieldsDecodeTo n (fields_from todo) left vs → FieldsDecodeTo n (fields_from cs) slots (front vs)
  pub stopped : (p : Path) (w : Cause) → FieldsFailWith n todo left p w → FieldsFailWith n cs slots p w

pub taking_starts : (n : Notation) (cs : List Component) (slots rest now : List Slot) → length slots ≡ length cs → now ≡ slots ++ rest → Taking n cs slots rest cs (λ vs. vs) now
taking_starts n cs slots rest now count e = record { left = slots; is = e; count = count; said = λ vs h. h; stopped = λ p w h. h }

module _ (n : Notation) (cs : List Component) (slots rest : List Slot) (c : Component) (todo : List Component) (front : Slots → Slots) where
  present_at : (now after left : List Slot) → now ≡ left ++ rest → length left ≡ suc (length todo)
      → ((vs : Slots) → FieldsDecodeTo n (fields_from (c ∷ todo)) left vs → FieldsDecodeTo n (fields_from cs) slots (front vs))
      → ((p : Path) (w : Cause) → FieldsFailWith n (c ∷ todo) left p w → FieldsFailWith n cs slots p w)
      → (t : Slot) → now ≡ t ∷ after → (v : Value) → DecodesTo n c.shape t v
      → Taking n cs slots rest todo (λ vs. front (with_field c.presence c.name v vs)) after
  present_at now after [] is count said stopped t shown v says = absurd (omega (arith, count))
  present_at now after (l ∷ left) is count said stopped t shown v says =
      let e : t ∷ after ≡ l ∷ (left ++ rest) = sym shown ∙ is in
      let at : DecodesTo n c.shape l v = subst (λ x. DecodesTo n c.shape x v) (same_head _ _ _ _ e) says in
      record {
        left = left;
        is = same_tail _ _ _ _ e;
        count = omega (arith, count);
        said = λ vs h. said (with_field c.presence c.name v vs) (FieldsDecodeTo.decodes_present c.name c.tag c.presence c.shape (fields_from todo) l left v vs at h);
        stopped = λ p w h. stopped p w (FieldsFailWith.after_present c todo l left v p w at h);
      }

  -- A present component.
  pub takes_present : {A : Type 0} (value : A → Value) (now after : List Slot) (x : A) → Taking n cs slots rest (c ∷ todo) front now
      → Answer n c.shape value now (Ok x) after → Taking n cs slots rest todo (λ vs. front (with_field c.presence c.name (value x) vs)) after
  takes_present value now after x taken (t, shown, says) = present_at now after taken.left taken.is taken.count taken.said taken.stopped t shown (value x) says

  fails_at : (now left : List Slot) → now ≡ left ++ rest → length left ≡ suc (length todo)
      → ((p : Path) (w : Cause) → FieldsFailWith n (c ∷ todo) left p w → FieldsFailWith n cs slots p w)
      → (t : Tree) (more : List Slot) → now ≡ Some t ∷ more → (p : Path) (w : Cause) → FailsWith n c.shape (Some t) p w → FieldsFailWith n cs slots (c.name ∷ p) w
  fails_at now [] is count stopped t more shown p w h = absurd (omega (arith, count))
  fails_at now (l ∷ left) is count stopped t more shown p w h =
      let e : Some t ∷ more ≡ l ∷ (left ++ rest) = sym shown ∙ is in
      let at : Some t ≡ l = same_head _ _ _ _ e in
      stopped (c.name ∷ p) w (subst (λ x. FieldsFailWith n (c ∷ todo) (x ∷ left) (c.name ∷ p) w) at (FieldsFailWith.field_fails c todo t left p w h))

  none_at : (now left : List Slot) → now ≡ left ++ rest → length left ≡ suc (length todo) → now ≡ [] → ⊥
  none_at now [] is count e = omega (arith, count)
  none_at now (l ∷ left) is count e = let d : [] ≡ l ∷ (left ++ rest) = sym e ∙ is in cc d

  -- A component that is refused where it is present.
  pub fails_optional : (now : List Slot) → Taking n cs slots rest (c ∷ todo) front now
      → (p : Path) (w : Cause) → OptionalFailsWith n c.shape now p w → FieldsFailWith n cs slots (c.name ∷ p) w
  fails_optional now taken p w (inl h) = fails_at now taken.left taken.is taken.count taken.stopped h.0 h.1 h.2 p w h.3
  fails_optional now taken p w (inr h) = absurd (none_at now taken.left taken.is taken.count h.none)

module _ (n : Notation) (cs : List Component) (slots rest : List Slot) (c : Component) (todo : List Component) (front : Slots → Slots) (lack : may_lack c.presence ≡ true) where
  absent_at : (now after left : List Slot) → now ≡ left ++ rest → length left ≡ suc (length todo)
      → ((vs : Slots) → FieldsDecodeTo n (fields_from (c ∷ todo)) left vs → FieldsDecodeTo n (fields_from cs) slots (front vs))
      → ((p : Path) (w : Cause) → FieldsFailWith n (c ∷ todo) left p w → FieldsFailWith n cs slots p w)
      → now ≡ None ∷ after
      → Taking n cs slots rest todo (λ vs. front (Slots.absent c.name vs)) after
  absent_at now after [] is count said stopped shown = absurd (omega (arith, count))
  absent_at now after (l ∷ left) is count said stopped shown =
      let e : None ∷ after ≡ l ∷ (left ++ rest) = sym shown ∙ is in
      let at : None ≡ l = same_head _ _ _ _ e in
      record {
        left = left;
        is = same_tail _ _ _ _ e;
        count = omega (arith, count);
        said = λ vs h. said (Slots.absent c.name vs) (subst (λ x. FieldsDecodeTo n (fields_from (c ∷ todo)) (x ∷ left) (Slots.absent c.name vs)) at (FieldsDecodeTo.decodes_absent c.name c.tag c.presence c.shape (fields_from todo) left vs lack h));
        stopped = λ p w h. stopped p w (subst (λ x. FieldsFailWith n (c ∷ todo) (x ∷ left) p w) at (FieldsFailWith.after_absent c todo left p w lack h));
      }

  -- A component that may be absent, and is taken.
  pub takes_optional : {A : Type 0} (value : A → Value) (now after : List Slot) (x : Option A) → Taking n cs slots rest (c ∷ todo) front now
      → OptionalAnswer n c.shape value now (Ok x) after → Taking n cs slots rest todo (λ vs. front (optional_field c.presence c.name value x vs)) after
  takes_optional value now after (Some x) taken (t, shown, says) = takes_present n cs slots rest c todo front value now after x taken (Some t, shown, says)
  takes_optional value now after None taken h = absent_at now after taken.left taken.is taken.count taken.said taken.stopped h

module _ (n : Notation) (cs : List Component) (slots rest : List Slot) (c : Component) (todo : List Component) (front : Slots → Slots) (needed : may_lack c.presence ≡ false) where
  required_at : (now left : List Slot) → now ≡ left ++ rest → length left ≡ suc (length todo)
      → ((p : Path) (w : Cause) → FieldsFailWith n (c ∷ todo) left p w → FieldsFailWith n cs slots p w)
      → c.standing ≡ Standing.root → (p : Path) (w : Cause) → FailsWith n c.shape (head_slot now) p w → FieldsFailWith n cs slots (c.name ∷ p) w
  required_at now [] is count stopped at p w h = absurd (omega (arith, count))
  required_at now (None ∷ left) is count stopped at p w h =
      let stops : FailsWith n c.shape None p w = rw is at h in
      stopped (c.name ∷ p) w (FieldsFailWith.field_is_missing c todo left p w needed at stops)
  required_at now (Some t ∷ left) is count stopped at p w h =
      let stops : FailsWith n c.shape (Some t) p w = rw is at h in
      stopped (c.name ∷ p) w (FieldsFailWith.field_fails c todo t left p w stops)

  -- A component of the root that may not be absent, and is refused.
  pub fails_required : (now : List Slot) → Taking n cs slots rest (c ∷ todo) front now → c.standing ≡ Standing.root
      → (p : Path) (w : Cause) → FailsWith n c.shape (head_slot now) p w → FieldsFailWith n cs slots (c.name ∷ p) w
  fails_required now taken = required_at now taken.left taken.is taken.count taken.stopped

  missing_at : (now left more : List Slot) → now ≡ left ++ rest → length left ≡ suc (length todo)
      → ((p : Path) (w : Cause) → FieldsFailWith n (c ∷ todo) left p w → FieldsFailWith n cs slots p w)
      → c.standing ≡ Standing.addition → now ≡ None ∷ more → FieldsFailWith n cs slots [] (Cause.missing_field c.name)
  missing_at now [] more is count stopped at shown = absurd (omega (arith, count))
  missing_at now (l ∷ left) more is count stopped at shown =
      let e : None ∷ more ≡ l ∷ (left ++ rest) = sym shown ∙ is in
      stopped [] _ (subst (λ x. FieldsFailWith n (c ∷ todo) (x ∷ left) [] (Cause.missing_field c.name)) (same_head _ _ _ _ e) (FieldsFailWith.addition_is_missing c todo left needed at))

  -- An extension addition that may not be absent, and is refused.
  pub fails_addition : (now : List Slot) → Taking n cs slots rest (c ∷ todo) front now → c.standing ≡ Standing.addition
      → (p : Path) (w : Cause) → AdditionFailsWith n c.shape c.name now p w → FieldsFailWith n cs slots p w
  fails_addition now taken at p w (AdditionFailsWith.addition_is_missing more shown) = missing_at now taken.left more taken.is taken.count taken.stopped at shown
  fails_addition now taken at p w (AdditionFailsWith.addition_fails q v h) = fails_optional n cs slots rest c todo front now taken q v h

finish_at : (n : Notation) (cs : List Component) (slots rest : List Slot) (front : Slots → Slots) (now left : List Slot) → now ≡ left ++ rest → length left ≡ 0
    → ((vs : Slots) → FieldsDecodeTo n (fields_from []) left vs → FieldsDecodeTo n (fields_from cs) slots (front vs)) → (now ≡ rest) × FieldsDecodeTo n (fields_from cs) slots (front Slots.no_slots)
finish_at n cs slots rest front now [] is count said = (is, said Slots.no_slots FieldsDecodeTo.decodes_end)
finish_at n cs slots rest front now (l ∷ left) is count said = absurd (omega (arith, count))

-- All are taken.
pub taking_ends : (n : Notation) (cs : List Component) (slots rest : List Slot) (front : Slots → Slots) (now : List Slot) → Taking n cs slots rest [] front now
    → (now ≡ rest) × FieldsDecodeTo n (fields_from cs) slots (front Slots.no_slots)
taking_ends n cs slots rest front now g = finish_at n cs slots rest front now g.left g.is g.count g.said
