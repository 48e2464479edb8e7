-- Steps of reading the payload of a part that is a CHOICE.
use Rattle.std.proofs.Common.{◌≡◌, refl, ap, sym, ◌∙◌, subst, arith, ℕ, zero, suc, ◌+◌, ◌*◌, ◌<◌, List, [], ◌∷◌, map, Option, Some, None, Result, Ok}
use Rattle.std.specs.Prelude.{option_map}
use Rattle.asn_coding.specs.Answer.{AnswerBy, Refuses}
use Rattle.asn_coding.specs.Opening.{OpensChoice}
use Rattle.asn_coding.specs.Scopes.{NoAlternative}
use Rattle.asn_fault.specs.Failure.{Failure}
use Rattle.asn_model.specs.FailsWith.{FailsWith}
use Rattle.asn_model.specs.Notation.{Notation}
use Rattle.asn_model.specs.Shape.{AlternativeAdditions, Alternatives, Shape, all_alternatives, alternative_at, identifiers}
use Rattle.asn_model.specs.Tree.{Slot, head_nodes, head_slot}
use Rattle.asn_model.specs.Value.{Value}
use Rattle.asn_names.specs.Rows.{NameRow, row_names}
use Rattle.asn_coding.specs.Tables.{numbered}
use Rattle.asn_coding.proofs.NameRows.{names-numbered}
use Rattle.asn_parts.specs.Parts.{alternative_of}
use Rattle.asn_parts.specs.declared.part.PartAlternative.{PartAlternative}
use Rattle.asn_parts.specs.Bodies.{IsReadablePart, loops_of, meant}
use Rattle.asn_parts.specs.Closed.{IsPart, closed, closed_added_alternatives, closed_alternatives}
use Rattle.asn_parts.specs.Listed.{PayloadBy, alternatives_in}
use Rattle.asn_parts.proofs.Choices.{choice-less, chosen-answer, payload-part, placed-answer, unnamed-answer}
use Rattle.asn_parts.proofs.Costs.{cost}

module _ {P : Type 0} (shape : List P → P → Shape) (bodies : List P) (part : P) (names : identifiers (alternatives_in (shape bodies part)) ≡ identifiers (alternatives_in (shape [] part))) (alts : Alternatives) (added : AlternativeAdditions) (is : shape bodies part ≡ Shape.choice alts added) (n : Notation) where
  abbrev env : List Shape
  env = loops_of shape bodies

  same : Shape.choice (closed_alternatives 0 env alts) (closed_added_alternatives 0 env added) ≡ meant shape bodies part
  same = sym (ap (closed env) is)

  shown : row_names (numbered 0 (identifiers (alternatives_in (shape [] part)))) ≡ identifiers (all_alternatives alts added)
  shown = names-numbered 0 (identifiers (alternatives_in (shape [] part))) ∙ sym names ∙ ap (λ s. identifiers (alternatives_in s)) is

  -- Any refusal of the opening.
  pub unopened : (before : List Slot) (e : Failure) → ((a : Alternatives) (b : AlternativeAdditions) → Refuses n (FailsWith n (Shape.choice a b) (head_slot before)) e) → Refuses n (FailsWith n (meant shape bodies part) (head_slot before)) e
  unopened before e h = subst (λ s. Refuses n (FailsWith n s (head_slot before)) e) same (h (closed_alternatives 0 env alts) (closed_added_alternatives 0 env added))

  module _ (before mid : List Slot) where
    opened : {o : Option ℕ} → OpensChoice n (row_names (numbered 0 (identifiers (alternatives_in (shape [] part))))) before (Ok o) mid → OpensChoice n (identifiers (all_alternatives alts added)) before (Ok o) mid
    opened {o} h = subst (λ ns. OpensChoice n ns before (Ok o) mid) shown h

    -- No alternative is named.
    pub choice-unnamed : OpensChoice n (row_names (numbered 0 (identifiers (alternatives_in (shape [] part))))) before (Ok None) mid → (e : Failure) → Refuses n NoAlternative e → Refuses n (FailsWith n (meant shape bodies part) (head_slot before)) e
    choice-unnamed h e k = subst (λ s. Refuses n (FailsWith n s (head_slot before)) e) same (unnamed-answer n env alts added before mid (opened h) e k)

    module _ (k : ℕ) (shut : OpensChoice n (row_names (numbered 0 (identifiers (alternatives_in (shape [] part))))) before (Ok (Some k)) mid) where
      -- The place is that of no alternative.
      pub choice-placed : alternative_at (alternatives_in (shape bodies part)) k ≡ None → (e : Failure) → Refuses n NoAlternative e → Refuses n (FailsWith n (meant shape bodies part) (head_slot before)) e
      choice-placed none e h =
          subst (λ s. Refuses n (FailsWith n s (head_slot before)) e) same
          (placed-answer n env alts added before mid k (opened shut) (ap (λ s. alternative_at (alternatives_in s) k) (sym is) ∙ none) e h)

      module _ (alternative : PartAlternative P) (at : alternative_at (alternatives_in (shape bodies part)) k ≡ Some (alternative_of (shape bodies) alternative)) where
        there : alternative_at (all_alternatives alts added) k ≡ Some (alternative_of (shape bodies) alternative)
        there = ap (λ s. alternative_at (alternatives_in s) k) (sym is) ∙ at

        pub choice-part : IsReadablePart shape bodies part → IsReadablePart shape bodies alternative.part
        choice-part p = payload-part n env alts added k (alternative_of (shape bodies) alternative) (subst (IsPart env) is p) there

        pub choice-costs : 5 * cost (head_nodes mid) (meant shape bodies alternative.part) + 4 < 5 * cost (head_nodes before) (meant shape bodies part) + 2
        choice-costs =
            let q = choice-less n env alts added before mid k (alternative_of (shape bodies) alternative) (opened shut) there in
            let e = ap (cost (head_nodes before)) same in
            omega (arith, q, e)

        pub choice-read : {T E : Type 0} (failure : E → Failure) (value : T → Value) (r : Result T E) (after : List Slot) → PayloadBy failure n alternative.identifier.now (meant shape bodies alternative.part) value mid r after → AnswerBy failure n (meant shape bodies part) value before r after
        choice-read failure value r after h =
            subst (λ s. AnswerBy failure n s value before r after) same
            (chosen-answer n env alts added before mid failure value k (alternative_of (shape bodies) alternative) (opened shut) there r after h)
