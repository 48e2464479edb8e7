-- What is read of a CHOICE, whose payload is open.
use Rattle.std.proofs.Common.{◌≡◌, refl, ap, sym, ◌∙◌, subst, arith, ℕ, zero, suc, ◌+◌, ◌<◌, ◌≤◌, ◌&&◌, List, [], ◌∷◌, Option, Some, None, Result, Ok, Err, Bool, true, false, if◌then◌else◌}
use Rattle.std.specs.Prelude.{option_map}
use Rattle.asn_coding.specs.Answer.{AnswerBy, Refuses}
use Rattle.asn_coding.specs.Opening.{IsChoice, OpensChoice}
use Rattle.asn_coding.specs.Scopes.{NoAlternative}
use Rattle.asn_coding.proofs.Choices.{Found, found, lost}
use Rattle.asn_coding.proofs.Steps.{refuses_by, same_head, same_tail}
use Rattle.asn_core.specs.declared.tag.Tag.{Tag}
use Rattle.asn_fault.specs.Failure.{Cause, Failure}
use Rattle.asn_model.specs.DecodesTo.{DecodesTo}
use Rattle.asn_model.specs.FailsWith.{FailsWith, Path}
use Rattle.asn_model.specs.Notation.{Notation}
use Rattle.asn_model.specs.Readable.{is_readable, are_alternatives_readable, are_added_alternatives_readable, has_alternative, are_distinguishable}
use Rattle.asn_model.specs.Shape.{Shape, Alternatives, AlternativeAdditions, all_alternatives, join_alternatives, alternative_at, alternative_named, place_named, identifiers}
use Rattle.asn_model.specs.Tree.{Slot, head_nodes, head_slot, same_identifier, slot_nodes}
use Rattle.asn_model.specs.Value.{Value}
use Rattle.asn_model.proofs.Readables.{and-left, and-right}
use Rattle.asn_parts.specs.Closed.{closed, closed_alternatives, closed_added_alternatives, IsPart}
use Rattle.asn_parts.specs.Listed.{PayloadBy}
use Rattle.asn_parts.proofs.Costs.{cost, alternatives_cost, added_alternatives_cost, more-nodes}

same-some : {A : Type 0} (x y : A) → Some x ≡ Some y → x ≡ y
same-some x y e = cc e

module _ {n : Notation} (alts : Alternatives) (added : AlternativeAdditions) {names : List (List ℕ)} (spelled : names ≡ identifiers (all_alternatives alts added)) where
  -- The payload is read.
  pub payload-read : {slot put : Slot} {k : ℕ} (a : List ℕ × Shape) (v : Value) → IsChoice n names slot (Some k) put → alternative_at (all_alternatives alts added) k ≡ Some a → DecodesTo n a.1 put v → DecodesTo n (Shape.choice alts added) slot (Value.choice a.0 v)
  payload-read a v (IsChoice.is_choice names t u name k is at) e h =
      let f = found (all_alternatives alts added) name k (subst (λ l. place_named same_identifier l name ≡ Some k) spelled at) in
      let same : a ≡ f.a = same-some a f.a (sym e ∙ f.by_place) in
      DecodesTo.decodes_choice alts added t name u a.0 a.1 v is (f.by_name ∙ ap Some (sym same)) h
  payload-read a v (IsChoice.choice_free names slot place put is) e h = DecodesTo.decodes_free _ slot _ is

  -- It is refused.
  pub payload-fails : {slot put : Slot} {k : ℕ} (a : List ℕ × Shape) (p : Path) (w : Cause) → IsChoice n names slot (Some k) put → alternative_at (all_alternatives alts added) k ≡ Some a → FailsWith n a.1 put p w → FailsWith n (Shape.choice alts added) slot p w
  payload-fails a p w (IsChoice.is_choice names t u name k is at) e h =
      let f = found (all_alternatives alts added) name k (subst (λ l. place_named same_identifier l name ≡ Some k) spelled at) in
      let same : a ≡ f.a = same-some a f.a (sym e ∙ f.by_place) in
      FailsWith.fails_payload alts added t name u a.0 a.1 p w is (f.by_name ∙ ap Some (sym same)) h
  payload-fails a p w (IsChoice.choice_free names slot place put is) e h = FailsWith.fails_free _ slot p w is

  -- No alternative is named.
  pub unnamed-fails : {slot put : Slot} (word : List ℕ) → IsChoice n names slot None put → FailsWith n (Shape.choice alts added) slot [] (Cause.no_valid_choice word)
  unnamed-fails word (IsChoice.is_unnamed names t u name is at) = FailsWith.fails_unnamed alts added t name u word is (lost (all_alternatives alts added) name (subst (λ l. place_named same_identifier l name ≡ None) spelled at))
  unnamed-fails word (IsChoice.is_empty names t is) = FailsWith.fails_no_member alts added t word is
  unnamed-fails word (IsChoice.choice_free names slot place put is) = FailsWith.fails_free _ slot _ _ is

  -- A place is that of an alternative, in either notation.
  pub placed-fails : {slot put : Slot} {k : ℕ} (word : List ℕ) → IsChoice n names slot (Some k) put → alternative_at (all_alternatives alts added) k ≡ None → FailsWith n (Shape.choice alts added) slot [] (Cause.no_valid_choice word)
  placed-fails word (IsChoice.is_choice names t u name k is at) e =
      let f = found (all_alternatives alts added) name k (subst (λ l. place_named same_identifier l name ≡ Some k) spelled at) in
      let d : ◌≡◌ {A = Option (List ℕ × Shape)} None (Some f.a) = sym e ∙ f.by_place in cc d
  placed-fails word (IsChoice.choice_free names slot place put is) e = FailsWith.fails_free _ slot _ _ is

-- The alternatives of a shape within loops are its alternatives within them.
joined-closed : (env : List Shape) (alts more : Alternatives) → join_alternatives (closed_alternatives 0 env alts) (closed_alternatives 0 env more) ≡ closed_alternatives 0 env (join_alternatives alts more)
joined-closed env Alternatives.no_alternatives more = refl
joined-closed env (Alternatives.alternative i t s alts) more = ap (Alternatives.alternative i t (closed env s)) (joined-closed env alts more)

pub all-closed : (env : List Shape) (alts : Alternatives) (added : AlternativeAdditions) → all_alternatives (closed_alternatives 0 env alts) (closed_added_alternatives 0 env added) ≡ closed_alternatives 0 env (all_alternatives alts added)
all-closed env alts AlternativeAdditions.closed_alternatives = refl
all-closed env alts (AlternativeAdditions.extended_alternatives more) = joined-closed env alts more

pub names-closed : (env : List Shape) (alts : Alternatives) → identifiers alts ≡ identifiers (closed_alternatives 0 env alts)
names-closed env Alternatives.no_alternatives = refl
names-closed env (Alternatives.alternative i t s alts) = ap (λ l. i ∷ l) (names-closed env alts)

pub closed-at : (env : List Shape) (alts : Alternatives) (k : ℕ) (a : List ℕ × Shape) → alternative_at alts k ≡ Some a → alternative_at (closed_alternatives 0 env alts) k ≡ Some (a.0, closed env a.1)
closed-at env Alternatives.no_alternatives k a e = let d : ◌≡◌ {A = Option (List ℕ × Shape)} None (Some a) = e in cc d
closed-at env (Alternatives.alternative i t s alts) zero a e = ap (λ (b : List ℕ × Shape). Some (b.0, closed env b.1)) (same-some (i, s) a e)
closed-at env (Alternatives.alternative i t s alts) (suc k) a e = closed-at env alts k a e

closed-none-at : (env : List Shape) (alts : Alternatives) (k : ℕ) → alternative_at alts k ≡ None → alternative_at (closed_alternatives 0 env alts) k ≡ None
closed-none-at env Alternatives.no_alternatives k e = refl
closed-none-at env (Alternatives.alternative i t s alts) zero e = let d : ◌≡◌ {A = Option (List ℕ × Shape)} (Some (i, s)) None = e in cc d
closed-none-at env (Alternatives.alternative i t s alts) (suc k) e = closed-none-at env alts k e

at-cost : (c : Shape → ℕ) (alts : Alternatives) (k : ℕ) (a : List ℕ × Shape) → alternative_at alts k ≡ Some a → c a.1 ≤ alternatives_cost c alts
at-cost c Alternatives.no_alternatives k a e = let d : ◌≡◌ {A = Option (List ℕ × Shape)} None (Some a) = e in cc d
at-cost c (Alternatives.alternative i t s alts) zero a e = let q : c s ≡ c a.1 = ap (λ (b : List ℕ × Shape). c b.1) (same-some (i, s) a e) in omega (arith, q)
at-cost c (Alternatives.alternative i t s alts) (suc k) a e = let q = at-cost c alts k a e in omega (arith, q)

joined-cost : (c : Shape → ℕ) (alts more : Alternatives) → alternatives_cost c (join_alternatives alts more) ≡ alternatives_cost c alts + alternatives_cost c more
joined-cost c Alternatives.no_alternatives more = omega arith
joined-cost c (Alternatives.alternative i t s alts) more = omega (arith, joined-cost c alts more)

all-cost : (c : Shape → ℕ) (alts : Alternatives) (added : AlternativeAdditions) → alternatives_cost c (all_alternatives alts added) ≡ alternatives_cost c alts + added_alternatives_cost c added
all-cost c alts AlternativeAdditions.closed_alternatives = omega arith
all-cost c alts (AlternativeAdditions.extended_alternatives more) = joined-cost c alts more

-- A payload costs less than the choice.
pub payload-costs : (m n k : ℕ) (alts : Alternatives) (added : AlternativeAdditions) (a : List ℕ × Shape) → m < n → alternative_at (all_alternatives alts added) k ≡ Some a → cost m a.1 < cost n (Shape.choice alts added)
payload-costs m zero k alts added a h e = absurd (omega (arith, h))
payload-costs m (suc n) k alts added a h e =
    let q = at-cost (cost n) (all_alternatives alts added) k a e in
    let s = all-cost (cost n) alts added in
    let l = more-nodes m n a.1 (omega (arith, h)) in
    omega (arith, q, s, l)

part-at : (alts : Alternatives) (k : ℕ) (a : List ℕ × Shape) → are_alternatives_readable 0 alts ≡ true → alternative_at alts k ≡ Some a → is_readable a.1 ≡ true
part-at Alternatives.no_alternatives k a h e = let d : ◌≡◌ {A = Option (List ℕ × Shape)} None (Some a) = e in cc d
part-at (Alternatives.alternative i t s alts) zero a h e = ap (λ (b : List ℕ × Shape). is_readable b.1) (sym (same-some (i, s) a e)) ∙ and-left (is_readable s) (are_alternatives_readable 0 alts) h
part-at (Alternatives.alternative i t s alts) (suc k) a h e = part-at alts k a (and-right (is_readable s) (are_alternatives_readable 0 alts) h) e

and-join : (a b : Bool) → a ≡ true → b ≡ true → (a && b) ≡ true
and-join true b e f = f
and-join false b e f = e

both-readable : (alts more : Alternatives) → are_alternatives_readable 0 alts ≡ true → are_alternatives_readable 0 more ≡ true → are_alternatives_readable 0 (join_alternatives alts more) ≡ true
both-readable Alternatives.no_alternatives more h l = l
both-readable (Alternatives.alternative i t s alts) more h l = and-join (is_readable s) _ (and-left (is_readable s) (are_alternatives_readable 0 alts) h) (both-readable alts more (and-right (is_readable s) (are_alternatives_readable 0 alts) h) l)

all-readable : (alts : Alternatives) (added : AlternativeAdditions) → are_alternatives_readable 0 alts ≡ true → are_added_alternatives_readable 0 added ≡ true → are_alternatives_readable 0 (all_alternatives alts added) ≡ true
all-readable alts AlternativeAdditions.closed_alternatives h l = h
all-readable alts (AlternativeAdditions.extended_alternatives more) h l = both-readable alts more h l

module _ (n : Notation) (env : List Shape) (alts : Alternatives) (added : AlternativeAdditions) where
  abbrev C : Alternatives
  C = closed_alternatives 0 env alts

  abbrev A : AlternativeAdditions
  A = closed_added_alternatives 0 env added

  abbrev names : List (List ℕ)
  names = identifiers (all_alternatives alts added)

  spelled : names ≡ identifiers (all_alternatives C A)
  spelled = names-closed env (all_alternatives alts added) ∙ ap identifiers (sym (all-closed env alts added))

  at-closed : (k : ℕ) (a : List ℕ × Shape) → alternative_at (all_alternatives alts added) k ≡ Some a → alternative_at (all_alternatives C A) k ≡ Some (a.0, closed env a.1)
  at-closed k a e = ap (λ l. alternative_at l k) (all-closed env alts added) ∙ closed-at env (all_alternatives alts added) k a e

  none-closed : (k : ℕ) → alternative_at (all_alternatives alts added) k ≡ None → alternative_at (all_alternatives C A) k ≡ None
  none-closed k e = ap (λ l. alternative_at l k) (all-closed env alts added) ∙ closed-none-at env (all_alternatives alts added) k e

  -- The payload's shape is a part.
  pub payload-part : (k : ℕ) (a : List ℕ × Shape) → IsPart env (Shape.choice alts added) → alternative_at (all_alternatives alts added) k ≡ Some a → IsPart env a.1
  payload-part k a p e =
      let read = are_alternatives_readable 0 C in
      let more = are_added_alternatives_readable 0 A in
      let parts = and-right (has_alternative (all_alternatives C A) && are_distinguishable (all_alternatives C A)) (read && more) p.1 in
      (p.0, part-at (all_alternatives C A) k (a.0, closed env a.1) (all-readable C A (and-left read more parts) (and-right read more parts)) (at-closed k a e))

  module _ (before mid : List Slot) where
    -- What is read of the payload is read of the choice.
    pub chosen-answer : {T E : Type 0} (failure : E → Failure) (value : T → Value) (k : ℕ) (a : List ℕ × Shape) → OpensChoice n names before (Ok (Some k)) mid → alternative_at (all_alternatives alts added) k ≡ Some a
        → (r : Result T E) (after : List Slot) → PayloadBy failure n a.0 (closed env a.1) value mid r after → AnswerBy failure n (Shape.choice C A) value before r after
    chosen-answer failure value k a (slot, put, rest, was, is, fewer, choice) e (Ok x) after (other, v, shown, says, stands) =
        let at = same_head _ _ _ _ (sym shown ∙ is) in
        let left = same_tail _ _ _ _ (sym is ∙ shown) in
        (slot, was ∙ ap (λ l. slot ∷ l) left, subst (DecodesTo n (Shape.choice C A) slot) (sym stands) (payload-read C A spelled (a.0, closed env a.1) v choice (at-closed k a e) (subst (λ s. DecodesTo n (closed env a.1) s v) at says)))
    chosen-answer failure value k a (slot, put, rest, was, is, fewer, choice) e (Err x) after h =
        refuses_by {n = n} {P = FailsWith n (closed env a.1) (head_slot mid)} {Q = FailsWith n (Shape.choice C A) (head_slot before)}
        (λ p w f. subst (λ l. FailsWith n (Shape.choice C A) (head_slot l) p w) (sym was) (payload-fails C A spelled (a.0, closed env a.1) p w choice (at-closed k a e) (subst (λ l. FailsWith n (closed env a.1) (head_slot l) p w) is f))) (failure x) h

    none-fails : (slot : Slot) (rest : List Slot) → before ≡ slot ∷ rest → ((word : List ℕ) → FailsWith n (Shape.choice C A) slot [] (Cause.no_valid_choice word)) → (e : Failure) → Refuses n NoAlternative e → Refuses n (FailsWith n (Shape.choice C A) (head_slot before)) e
    none-fails slot rest was f e h = refuses_by {n = n} {P = NoAlternative} {Q = FailsWith n (Shape.choice C A) (head_slot before)} (λ p w k. rw (was, k.1, k.2) (f k.0)) e h

    -- No alternative is named.
    pub unnamed-answer : OpensChoice n names before (Ok None) mid → (e : Failure) → Refuses n NoAlternative e → Refuses n (FailsWith n (Shape.choice C A) (head_slot before)) e
    unnamed-answer (slot, put, rest, was, is, fewer, choice) e h = none-fails slot rest was (λ word. unnamed-fails C A spelled word choice) e h

    -- A place is that of an alternative in either notation.
    pub placed-answer : (k : ℕ) → OpensChoice n names before (Ok (Some k)) mid → alternative_at (all_alternatives alts added) k ≡ None → (e : Failure) → Refuses n NoAlternative e → Refuses n (FailsWith n (Shape.choice C A) (head_slot before)) e
    placed-answer k (slot, put, rest, was, is, fewer, choice) none e h = none-fails slot rest was (λ word. placed-fails C A spelled word choice (none-closed k none)) e h

    -- The payload costs less than the choice.
    pub choice-less : (k : ℕ) (a : List ℕ × Shape) → OpensChoice n names before (Ok (Some k)) mid → alternative_at (all_alternatives alts added) k ≡ Some a → cost (head_nodes mid) (closed env a.1) < cost (head_nodes before) (Shape.choice C A)
    choice-less k a (slot, put, rest, was, is, fewer, choice) e =
        let q = payload-costs (slot_nodes put) (slot_nodes slot) k C A (a.0, closed env a.1) fewer (at-closed k a e) in
        rw (was, is) q
