-- Shapes with the loops around them in the place of each `back` that means one.
use Rattle.std.specs.Prelude.{◌≡◌, ℕ, suc, ◌-◌, nat_lt, get_or, List, true, if◌then◌else◌}
use Rattle.std.specs.List.{AllByRecursion}
use Rattle.asn_model.specs.Readable.{is_readable}
use Rattle.asn_model.specs.Shape.{Shape, Fields, FieldAdditions, Alternatives, AlternativeAdditions}

abbrev mutual
  -- The shape with these loops, the innermost first, in the place of each `back` that means one of them and none of the k loops within.
  pub closed_in : ℕ → List Shape → Shape → Shape
  closed_in k env (Shape.seq kind fs added) = Shape.seq kind (closed_fields k env fs) (closed_added_fields k env added)
  closed_in k env (Shape.list_of s) = Shape.list_of (closed_in k env s)
  closed_in k env (Shape.set_of s) = Shape.set_of (closed_in k env s)
  closed_in k env (Shape.table s) = Shape.table (closed_in k env s)
  closed_in k env (Shape.choice alts added) = Shape.choice (closed_alternatives k env alts) (closed_added_alternatives k env added)
  closed_in k env (Shape.loop s) = Shape.loop (closed_in (suc k) env s)
  closed_in k env (Shape.back j) = if nat_lt j k then Shape.back j else get_or env (j - k) (Shape.back j)
  closed_in k env s = s

  -- The fields, in the same way.
  pub closed_fields : ℕ → List Shape → Fields → Fields
  closed_fields k env Fields.no_fields = Fields.no_fields
  closed_fields k env (Fields.field n t p s fs) = Fields.field n t p (closed_in k env s) (closed_fields k env fs)

  -- The extension additions, in the same way.
  pub closed_added_fields : ℕ → List Shape → FieldAdditions → FieldAdditions
  closed_added_fields k env FieldAdditions.closed_fields = FieldAdditions.closed_fields
  closed_added_fields k env (FieldAdditions.extended_fields fs) = FieldAdditions.extended_fields (closed_fields k env fs)

  -- The alternatives, in the same way.
  pub closed_alternatives : ℕ → List Shape → Alternatives → Alternatives
  closed_alternatives k env Alternatives.no_alternatives = Alternatives.no_alternatives
  closed_alternatives k env (Alternatives.alternative i t s alts) = Alternatives.alternative i t (closed_in k env s) (closed_alternatives k env alts)

  -- The extension additions, in the same way.
  pub closed_added_alternatives : ℕ → List Shape → AlternativeAdditions → AlternativeAdditions
  closed_added_alternatives k env AlternativeAdditions.closed_alternatives = AlternativeAdditions.closed_alternatives
  closed_added_alternatives k env (AlternativeAdditions.extended_alternatives alts) = AlternativeAdditions.extended_alternatives (closed_alternatives k env alts)

-- The shape of a part within these loops.
abbrev pub closed : List Shape → Shape → Shape
closed env s = closed_in 0 env s

-- Each loop can be read.
abbrev pub AreReadable : List Shape → Type 0
AreReadable env = AllByRecursion (λ s. is_readable s ≡ true) env

-- The part can be read within these loops.
abbrev pub IsPart : List Shape → Shape → Type 0
IsPart env s = AreReadable env × (is_readable (closed env s) ≡ true)
