-- A number that falls with each call of a reader by a shape: with the nodes of the slot that it reads, and while these stay, with the loops at the head of the shape.
use Rattle.std.proofs.Common.{◌≡◌, refl, ap, sym, subst, arith, ℕ, zero, suc, ◌+◌, ◌-◌, ◌≤◌, ◌<◌, nat_eq, nat_le, nat_lt, Bool, true, false, if◌then◌else◌}
use Rattle.std.proofs.lemmas.Bool.{leb-true, eqb-true}
use Rattle.asn_model.specs.Readable.{is_readable, is_readable_in}
use Rattle.asn_model.specs.Shape.{Shape, Fields, FieldAdditions, Alternatives, AlternativeAdditions, fill, unfold_loop, opened}
use Rattle.asn_model.proofs.Readables.{and-left}

-- How many loops stand one within another at the head of a shape.
abbrev pub head_loops : Shape → ℕ
head_loops (Shape.loop body) = suc (head_loops body)
head_loops s = 0

abbrev opened_times : ℕ → Shape → Shape
opened_times zero s = s
opened_times (suc n) s = opened_times n (opened s)

abbrev pub without_loops : Shape → Shape
without_loops s = opened_times (head_loops s) s

-- One for each field, and what its shape costs.
abbrev pub fields_cost : (Shape → ℕ) → Fields → ℕ
fields_cost c Fields.no_fields = 0
fields_cost c (Fields.field n t p s fs) = suc (c s) + fields_cost c fs

abbrev pub added_fields_cost : (Shape → ℕ) → FieldAdditions → ℕ
added_fields_cost c FieldAdditions.closed_fields = 0
added_fields_cost c (FieldAdditions.extended_fields fs) = fields_cost c fs

abbrev pub alternatives_cost : (Shape → ℕ) → Alternatives → ℕ
alternatives_cost c Alternatives.no_alternatives = 0
alternatives_cost c (Alternatives.alternative i t s alts) = c s + alternatives_cost c alts

abbrev pub added_alternatives_cost : (Shape → ℕ) → AlternativeAdditions → ℕ
added_alternatives_cost c AlternativeAdditions.closed_alternatives = 0
added_alternatives_cost c (AlternativeAdditions.extended_alternatives alts) = alternatives_cost c alts

-- What the parts of a shape cost.
abbrev pub parts_cost : (Shape → ℕ) → Shape → ℕ
parts_cost c (Shape.seq kind fs added) = fields_cost c fs + added_fields_cost c added
parts_cost c (Shape.list_of s) = c s
parts_cost c (Shape.set_of s) = c s
parts_cost c (Shape.table s) = c s
parts_cost c (Shape.choice alts added) = alternatives_cost c alts + added_alternatives_cost c added
parts_cost c s = 0

-- What reading a slot of so many nodes by a shape costs at most.
abbrev pub cost : ℕ → Shape → ℕ
cost zero s = head_loops s
cost (suc m) s = suc (head_loops s + parts_cost (cost m) (without_loops s))

module _ (c d : Shape → ℕ) (le : (s : Shape) → c s ≤ d s) where
  fields-mono : (fs : Fields) → fields_cost c fs ≤ fields_cost d fs
  fields-mono Fields.no_fields = omega arith
  fields-mono (Fields.field n t p s fs) = omega (arith, le s, fields-mono fs)

  added_fields-mono : (added : FieldAdditions) → added_fields_cost c added ≤ added_fields_cost d added
  added_fields-mono FieldAdditions.closed_fields = omega arith
  added_fields-mono (FieldAdditions.extended_fields fs) = fields-mono fs

  alternatives-mono : (alts : Alternatives) → alternatives_cost c alts ≤ alternatives_cost d alts
  alternatives-mono Alternatives.no_alternatives = omega arith
  alternatives-mono (Alternatives.alternative i t s alts) = omega (arith, le s, alternatives-mono alts)

  added_alternatives-mono : (added : AlternativeAdditions) → added_alternatives_cost c added ≤ added_alternatives_cost d added
  added_alternatives-mono AlternativeAdditions.closed_alternatives = omega arith
  added_alternatives-mono (AlternativeAdditions.extended_alternatives alts) = alternatives-mono alts

  parts-mono : (s : Shape) → parts_cost c s ≤ parts_cost d s
  parts-mono (Shape.seq kind fs added) = omega (arith, fields-mono fs, added_fields-mono added)
  parts-mono (Shape.list_of s) = le s
  parts-mono (Shape.set_of s) = le s
  parts-mono (Shape.table s) = le s
  parts-mono (Shape.choice alts added) = omega (arith, alternatives-mono alts, added_alternatives-mono added)
  parts-mono s = omega arith

one-more : (m : ℕ) (s : Shape) → cost m s ≤ cost (suc m) s
one-more zero s = omega arith
one-more (suc m) s = omega (arith, parts-mono (cost m) (cost (suc m)) (one-more m) (without_loops s))

upto : (d m k : ℕ) (s : Shape) → m + d ≡ k → cost m s ≤ cost k s
upto zero m k s e = let same : m ≡ k = omega (arith, e) in subst (λ x. cost m s ≤ cost x s) same (omega arith)
upto (suc d) m k s e = omega (arith, upto d (suc m) k s (omega (arith, e)), one-more m s)

-- More nodes cost no less.
pub more-nodes : (m k : ℕ) (s : Shape) → m ≤ k → cost m s ≤ cost k s
more-nodes m k s h = upto (k - m) m k s (omega (arith, h))

-- An element costs less than the list.
pub element-costs : (m n : ℕ) (s : Shape) → m < n → cost m s < cost n (Shape.list_of s)
element-costs m zero s h = absurd (omega (arith, h))
element-costs m (suc n) s h = omega (arith, more-nodes m n s (omega (arith, h)))

far-back : (b : Bool) (j k : ℕ) (r : Shape) → nat_eq j k ≡ b → k < j → head_loops (if b then r else Shape.back j) ≡ 0
far-back true j k r e h = let same = eqb-true j k e in absurd (omega (arith, same, h))
far-back false j k r e h = refl

head-fill : (s : Shape) (loops bare k : ℕ) (r : Shape) → is_readable_in loops bare s ≡ true → k < bare → head_loops (fill s k r) ≡ head_loops s
head-fill (Shape.loop s) loops bare k r e h = ap suc (head-fill s (suc loops) (suc bare) (suc k) r e (omega (arith, h)))
head-fill (Shape.back j) loops bare k r e h = let far = leb-true bare j (and-left (nat_le bare j) (nat_lt j loops) e) in far-back (nat_eq j k) j k r refl (omega (arith, far, h))
head-fill s loops bare k r e h = refl

head-opened : (b : Shape) → is_readable (Shape.loop b) ≡ true → head_loops (unfold_loop b) ≡ head_loops b
head-opened b e = head-fill b 1 1 0 (Shape.loop b) e (omega arith)

-- A loop costs one more than the loop opened.
pub loop-costs : (n : ℕ) (b : Shape) → is_readable (Shape.loop b) ≡ true → cost n (Shape.loop b) ≡ suc (cost n (unfold_loop b))
loop-costs zero b e = ap suc (sym (head-opened b e))
loop-costs (suc n) b e = rw (head-opened b e) (omega arith)
