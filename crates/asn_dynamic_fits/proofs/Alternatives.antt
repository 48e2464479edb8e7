-- The alternatives of a part that is a CHOICE, within loops.
use Rattle.std.proofs.Common.{◌≡◌, ap, sym, ◌∙◌, subst, arith, ℕ, ◌+◌, ◌<◌, ◌≤◌, List, [], length, Some, None, Decides, true, false}
use Rattle.asn_dynamic_fits.specs.Contents.{choice_in}
use Rattle.asn_dynamic_fits.proofs.Chosen.{choice-first, choice-fits, chosen-later, chosen-none, from_place, past-all}
use Rattle.asn_dynamic_fits.proofs.Having.{choice-other, decides-always, decides-never}
use Rattle.asn_model.specs.Notation.{Notation}
use Rattle.asn_model.specs.Shape.{AlternativeAdditions, Alternatives, Shape, all_alternatives, alternative_at, identifiers}
use Rattle.asn_model.specs.Value.{Fits, FitsAlternative, Value}
use Rattle.asn_parts.specs.Parts.{alternative_of}
use Rattle.asn_parts.specs.declared.part.PartAlternative.{PartAlternative}
use Rattle.asn_parts.specs.Bodies.{IsReadablePart, loops_of, meant}
use Rattle.asn_parts.specs.Closed.{IsPart, closed, closed_added_alternatives, closed_alternatives}
use Rattle.asn_parts.specs.Listed.{alternatives_in}
use Rattle.asn_parts.proofs.Choices.{all-closed, closed-at, names-closed, payload-costs, payload-part}
use Rattle.asn_parts.proofs.Costs.{cost}

-- The alternatives of a part, within the loops of these bodies.
abbrev pub alternatives_meant : {P : Type 0} → (List P → P → Shape) → List P → P → Alternatives
alternatives_meant shape bodies part = closed_alternatives 0 (loops_of shape bodies) (alternatives_in (shape bodies part))

module _ {P : Type 0} (shape : List P → P → Shape) (bodies : List P) (part : P) where
  abbrev env : List Shape
  env = loops_of shape bodies

  -- The payload is of an alternative from this place on, if of any.
  abbrev pub StillAhead : List ℕ → Value → ℕ → Type 0
  StillAhead i v k = Fits (meant shape bodies part) (Value.choice i v) → FitsAlternative (from_place k (alternatives_meant shape bodies part)) i v

  -- A place that has none is past all.
  pub none-past : (k : ℕ) → identifiers (alternatives_in (shape bodies part)) ≡ identifiers (alternatives_in (shape [] part)) → alternative_at (alternatives_in (shape bodies part)) k ≡ None → length (identifiers (alternatives_in (shape [] part))) ≤ k
  none-past k names none =
      let past = past-all (alternatives_in (shape bodies part)) k none in
      let count = ap length names in
      omega (arith, past, count)

  pub count-alternatives : identifiers (alternatives_in (shape bodies part)) ≡ identifiers (alternatives_in (shape [] part)) → length (identifiers (alternatives_in (shape [] part))) ≡ length (identifiers (alternatives_meant shape bodies part))
  count-alternatives names = sym (ap length names) ∙ ap length (names-closed env (alternatives_in (shape bodies part)))

  -- The alternative at a place, with the shape of its payload.
  pub alternative-at : (alternative : PartAlternative P) (k : ℕ) → alternative_at (alternatives_in (shape bodies part)) k ≡ Some (alternative_of (shape bodies) alternative)
      → alternative_at (alternatives_meant shape bodies part) k ≡ Some (alternative.identifier.now, meant shape bodies alternative.part)
  alternative-at alternative k at = closed-at env (alternatives_in (shape bodies part)) k (alternative_of (shape bodies) alternative) at

  module _ (alts : Alternatives) (added : AlternativeAdditions) (is : shape bodies part ≡ Shape.choice alts added) where
    abbrev C : Alternatives
    C = closed_alternatives 0 env alts

    abbrev A : AlternativeAdditions
    A = closed_added_alternatives 0 env added

    pub choice-meant : Shape.choice C A ≡ meant shape bodies part
    choice-meant = sym (ap (closed env) is)

    pub alternatives-all : all_alternatives C A ≡ alternatives_meant shape bodies part
    alternatives-all = all-closed env alts added ∙ ap (λ s. closed_alternatives 0 env (alternatives_in s)) (sym is)

    module _ (alternative : PartAlternative P) (k : ℕ) (at : alternative_at (alternatives_in (shape bodies part)) k ≡ Some (alternative_of (shape bodies) alternative)) where
      pub alternative-part : IsReadablePart shape bodies part → IsReadablePart shape bodies alternative.part
      alternative-part p =
          payload-part Notation.jer env alts added k (alternative_of (shape bodies) alternative) (subst (IsPart env) is p)
          (ap (λ s. alternative_at (alternatives_in s) k) (sym is) ∙ at)

      pub alternative-less : (m n : ℕ) → m < n → cost m (meant shape bodies alternative.part) < cost n (meant shape bodies part)
      alternative-less m n h =
          let q = payload-costs m n k C A (alternative.identifier.now, meant shape bodies alternative.part) h (ap (λ l. alternative_at l k) alternatives-all ∙ alternative-at alternative k at) in
          let e = ap (cost n) choice-meant in
          omega (arith, q, e)

    -- A value of another kind is none.
    pub no-choice : (v : Value) → None ≡ choice_in v → Decides false (Fits (meant shape bodies part) v)
    no-choice v e = subst (λ s. Decides false (Fits s v)) choice-meant (choice-other C A v e)

    module _ (i : List ℕ) (v : Value) where
      pub all-ahead : StillAhead i v 0
      all-ahead f = subst (λ l. FitsAlternative (from_place 0 l) i v) alternatives-all (choice-first C A i v (subst (λ s. Fits s (Value.choice i v)) (sym choice-meant) f))

      module _ (alternative : PartAlternative P) (k : ℕ) (at : alternative_at (alternatives_in (shape bodies part)) k ≡ Some (alternative_of (shape bodies) alternative)) where
        own : alternative_at (alternatives_meant shape bodies part) k ≡ Some (alternative.identifier.now, meant shape bodies alternative.part)
        own = alternative-at alternative k at

        -- It is of the one at the place.
        pub is-here : (alternative.identifier.now ≡ i) × Fits (meant shape bodies alternative.part) v → Decides true (Fits (meant shape bodies part) (Value.choice i v))
        is-here p =
            decides-always (subst (λ s. Fits s (Value.choice i v)) choice-meant
            (choice-fits C A k i (meant shape bodies alternative.part) v (ap (λ l. alternative_at l k) alternatives-all ∙ subst (λ n. alternative_at (alternatives_meant shape bodies part) k ≡ Some (n, meant shape bodies alternative.part)) p.0 own) p.1))

        -- It isn't.
        pub is-later : ((alternative.identifier.now ≡ i) × Fits (meant shape bodies alternative.part) v → ⊥) → StillAhead i v k → StillAhead i v (k + 1)
        is-later none ahead f = chosen-later (alternatives_meant shape bodies part) k i alternative.identifier.now (meant shape bodies alternative.part) v own none (ahead f)

      -- It is of none.
      pub none-ahead : (k : ℕ) → length (identifiers (alternatives_meant shape bodies part)) ≤ k → StillAhead i v k → Decides false (Fits (meant shape bodies part) (Value.choice i v))
      none-ahead k h ahead = decides-never (λ f. chosen-none (alternatives_meant shape bodies part) k i v h (ahead f))
