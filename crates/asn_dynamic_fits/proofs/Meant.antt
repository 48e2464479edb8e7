-- What a part means, by the kind that it shows.
use Rattle.std.proofs.Common.{◌≡◌, refl, ap, sym, ◌∙◌, subst, arith, ℕ, zero, suc, ◌<◌, List, [], ◌∷◌, drop, map, length, Bool as Bool', Bor, Decides, Option, Some, true}
use Rattle.std.proofs.lemmas.List.{length-map}
use Rattle.asn_coding.specs.SetFields.{component_at, listed_components}
use Rattle.asn_dynamic_fits.proofs.Having.{loop-decides}
use Rattle.asn_model.specs.Components.{Component, component_names}
use Rattle.asn_model.specs.Readable.{is_entry, is_readable}
use Rattle.asn_model.specs.Shape.{FieldAdditions, Fields, SeqKind, Shape}
use Rattle.asn_model.specs.Value.{Fits, Value}
use Rattle.asn_model.proofs.Readables.{and-right}
use Rattle.asn_parts.specs.Chain.{bodies_of}
use Rattle.asn_parts.specs.Parts.{component_of, leaf_shape}
use Rattle.asn_parts.specs.declared.loops.Loops.{Loops}
use Rattle.asn_parts.specs.declared.loops.Loops.TheVariants.{Outermost, Within}
use Rattle.asn_parts.proofs.Chains.{bodies-outermost, bodies-within}
use Rattle.asn_parts.specs.declared.part.LeafPart.{LeafPart}
use Rattle.asn_parts.specs.declared.part.LeafPart.TheVariants.{Null, Bool, Int, Bits, Octets, Any, Oid, Str, Bmp, Utc, Gen, Day, Decimal}
use Rattle.asn_parts.specs.declared.part.PartField.{PartField}
use Rattle.asn_parts.specs.Bodies.{IsReadablePart, loops_of, meant}
use Rattle.asn_parts.specs.Closed.{closed, closed_added_fields, closed_fields, closed_in}
use Rattle.asn_parts.specs.Listed.{closed_component, fields_in}
use Rattle.asn_parts.proofs.Closing.{back-is, body-closed, closed-none, head-drop}
use Rattle.asn_parts.proofs.Costs.{cost}
use Rattle.asn_parts.proofs.Fields.{component-closed, field-costs, field-readable, listed-closed}
use Rattle.asn_parts.proofs.Opened.{back-inside, back-less, back-part, within-less, within-part}

leaf-closed : (env : List Shape) (leaf : LeafPart) → closed env (leaf_shape leaf) ≡ leaf_shape leaf
leaf-closed env Null = refl
leaf-closed env Bool = refl
leaf-closed env (Int l g w) = refl
leaf-closed env (Bits n) = refl
leaf-closed env Octets = refl
leaf-closed env Any = refl
leaf-closed env Oid = refl
leaf-closed env (Str a) = refl
leaf-closed env Bmp = refl
leaf-closed env Utc = refl
leaf-closed env Gen = refl
leaf-closed env Day = refl
leaf-closed env Decimal = refl

as-long : (cs ds : List Component) → component_names cs ≡ component_names ds → length cs ≡ length ds
as-long cs ds e = sym (length-map cs (λ (c : Component). c.name)) ∙ ap length e ∙ length-map ds (λ (c : Component). c.name)

-- The fields of a part, within the loops of these bodies.
abbrev pub fields_meant : {P : Type 0} → (List P → P → Shape) → List P → P → List Component
fields_meant shape bodies part = map (closed_component (loops_of shape bodies)) (fields_in (shape bodies part))

module _ {P : Type 0} (shape : List P → P → Shape) (bodies : List P) (part : P) where
  abbrev env : List Shape
  env = loops_of shape bodies

  pub leaf-meant : (leaf : LeafPart) → shape bodies part ≡ leaf_shape leaf → leaf_shape leaf ≡ meant shape bodies part
  leaf-meant leaf is = sym (ap (closed env) is ∙ leaf-closed env leaf)

  pub enum-meant : (items : List (List ℕ)) (added : Option (List (List ℕ))) → shape bodies part ≡ Shape.enum items added → Shape.enum items added ≡ meant shape bodies part
  enum-meant items added is = sym (ap (closed env) is)

  -- The elements of a list, a set or a table.
  module _ (element : P) where
    pub list-meant : shape bodies part ≡ Shape.list_of (shape bodies element) → Shape.list_of (meant shape bodies element) ≡ meant shape bodies part
    list-meant is = sym (ap (closed env) is)

    pub list-part : shape bodies part ≡ Shape.list_of (shape bodies element) → IsReadablePart shape bodies part → IsReadablePart shape bodies element
    list-part is p = (p.0, ap is_readable (list-meant is) ∙ p.1)

    pub set-meant : shape bodies part ≡ Shape.set_of (shape bodies element) → Shape.set_of (meant shape bodies element) ≡ meant shape bodies part
    set-meant is = sym (ap (closed env) is)

    pub set-part : shape bodies part ≡ Shape.set_of (shape bodies element) → IsReadablePart shape bodies part → IsReadablePart shape bodies element
    set-part is p = (p.0, ap is_readable (set-meant is) ∙ p.1)

    pub table-meant : shape bodies part ≡ Shape.table (shape bodies element) → Shape.table (meant shape bodies element) ≡ meant shape bodies part
    table-meant is = sym (ap (closed env) is)

    pub table-part : shape bodies part ≡ Shape.table (shape bodies element) → IsReadablePart shape bodies part → IsReadablePart shape bodies element
    table-part is p = (p.0, and-right (is_entry (meant shape bodies element)) (is_readable (meant shape bodies element)) (ap is_readable (table-meant is) ∙ p.1))

  -- A SEQUENCE or SET.
  module _ (kind : SeqKind) (fs : Fields) (added : FieldAdditions) (is : shape bodies part ≡ Shape.seq kind fs added) where
    abbrev F : Fields
    F = closed_fields 0 env fs

    abbrev A : FieldAdditions
    A = closed_added_fields 0 env added

    pub seq-meant : Shape.seq kind F A ≡ meant shape bodies part
    seq-meant = sym (ap (closed env) is)

    pub fields-listed_in : listed_components F A ≡ fields_meant shape bodies part
    fields-listed_in = listed-closed env fs added ∙ ap (λ s. map (closed_component env) (fields_in s)) (sym is)

    -- The component that a field is.
    module _ (field : PartField P) (k : ℕ) (at : component_at (fields_in (shape bodies part)) k ≡ Some (component_of (shape bodies) field)) where
      abbrev c : Component
      c = closed_component env (component_of (shape bodies) field)

      pub field-at : component_at (fields_meant shape bodies part) k ≡ Some c
      field-at = component-closed env (fields_in (shape bodies part)) k (component_of (shape bodies) field) at

      listed-at : component_at (listed_components F A) k ≡ Some c
      listed-at = ap (λ cs. component_at cs k) fields-listed_in ∙ field-at

      pub field-part : IsReadablePart shape bodies part → IsReadablePart shape bodies field.part
      field-part p = (p.0, field-readable kind F A k c (ap is_readable seq-meant ∙ p.1) listed-at)

      -- It costs less.
      pub field-less : (m n : ℕ) → m < n → cost m (meant shape bodies field.part) < cost n (meant shape bodies part)
      field-less m n h = let q = field-costs m n kind F A k c h listed-at in let e = ap (cost n) seq-meant in omega (arith, q, e)

  -- There are as many fields within loops.
  pub count-fields : component_names (fields_in (shape bodies part)) ≡ component_names (fields_in (shape [] part)) → length (fields_in (shape [] part)) ≡ length (fields_meant shape bodies part)
  count-fields names = sym (as-long (fields_in (shape bodies part)) (fields_in (shape [] part)) names) ∙ sym (length-map (fields_in (shape bodies part)) (closed_component env))

drop-loops : {P : Type 0} (shape : List P → P → Shape) (k : ℕ) (bodies : List P) → loops_of shape (drop k bodies) ≡ drop k (loops_of shape bodies)
drop-loops shape zero bodies = refl
drop-loops shape (suc k) [] = refl
drop-loops shape (suc k) (b ∷ bs) = drop-loops shape k bs

module _ {P : Type 0} (shape : List P → P → Shape) (loops : Loops P) (part : P) (p : IsReadablePart shape (bodies_of loops) part) where
  abbrev bodies : List P
  bodies = bodies_of loops

  -- A part that is a loop of this body, which stands within that loop.
  module _ (body : P) (is : shape bodies part ≡ Shape.loop (shape (body ∷ bodies) body)) (outer : Bor (Loops P)) (there : outer.now ≡ loops) where
    inner : bodies_of (Within body outer) ≡ body ∷ bodies
    inner = bodies-within P body outer ∙ ap (λ l. body ∷ bodies_of l) there

    pub inner-part : IsReadablePart shape (bodies_of (Within body outer)) body
    inner-part = subst (λ bs. IsReadablePart shape bs body) (sym inner) (within-part shape bodies part p body is)

    pub inner-less : (n : ℕ) → cost n (meant shape (bodies_of (Within body outer)) body) < cost n (meant shape bodies part)
    inner-less n = let q = within-less shape bodies part p body is n in let same = ap (λ bs. cost n (meant shape bs body)) inner in omega (arith, q, same)

    -- It has the values of its body.
    pub inner-has : (v : Value) (r : Bool') → Decides r (Fits (meant shape (bodies_of (Within body outer)) body) v) → Decides r (Fits (meant shape bodies part) v)
    inner-has v r d =
        let b = closed_in 1 (loops_of shape bodies) (shape (body ∷ bodies) body) in
        subst (λ s. Decides r (Fits s v)) (sym (ap (closed (loops_of shape bodies)) is))
        (loop-decides b v r (subst (λ s. Decides r (Fits s v)) (ap (λ bs. meant shape bs body) inner ∙ body-closed (shape (body ∷ bodies) body) (loops_of shape bodies) p.0) d))

  -- A part that means a loop around it.
  module _ (k : ℕ) (is : shape bodies part ≡ Shape.back k) (around : Loops P) (from : bodies_of around ≡ drop k bodies) where
    -- There is one.
    pub some-around : around ≡ Outermost → ⊥
    some-around at = back-inside shape bodies part p k is (sym (ap bodies_of at ∙ bodies-outermost P) ∙ from)

    module _ (body : P) (outer : Bor (Loops P)) (at : around ≡ Within body outer) where
      abbrev left : List P
      left = bodies_of outer.now

      opened : bodies_of around ≡ body ∷ left
      opened = ap bodies_of at ∙ bodies-within P body outer

      rest : body ∷ left ≡ drop k bodies
      rest = sym opened ∙ from

      pub around-part : IsReadablePart shape (bodies_of around) body
      around-part = subst (λ bs. IsReadablePart shape bs body) (sym opened) (back-part shape bodies part p k is body left rest)

      pub around-less : (n : ℕ) → cost n (meant shape (bodies_of around) body) < cost n (meant shape bodies part)
      around-less n = let q = back-less shape bodies part p k is body left rest n in let same = ap (λ bs. cost n (meant shape bs body)) opened in omega (arith, q, same)

      its-shape : meant shape bodies part ≡ Shape.loop (closed_in 1 (loops_of shape left) (shape (body ∷ left) body))
      its-shape =
          ap (closed (loops_of shape bodies)) is ∙ back-is (loops_of shape bodies) k
          ∙ head-drop (loops_of shape bodies) k (Shape.loop (closed_in 1 (loops_of shape left) (shape (body ∷ left) body))) (Shape.back k) (loops_of shape left) (sym (ap (loops_of shape) rest ∙ drop-loops shape k bodies))

      -- It has the values of the body of that loop.
      pub around-has : (v : Value) (r : Bool') → Decides r (Fits (meant shape (bodies_of around) body) v) → Decides r (Fits (meant shape bodies part) v)
      around-has v r d =
          let b = closed_in 1 (loops_of shape left) (shape (body ∷ left) body) in
          let inside = back-part shape bodies part p k is body left rest in
          subst (λ s. Decides r (Fits s v)) (sym its-shape)
          (loop-decides b v r (subst (λ s. Decides r (Fits s v)) (ap (λ bs. meant shape bs body) opened ∙ body-closed (shape (body ∷ left) body) (loops_of shape left) inside.0.1) d))

-- A part around which no loop is open.
module _ {P : Type 0} (shape : List P → P → Shape) (part : P) where
  pub root-part : is_readable (shape [] part) ≡ true → IsReadablePart shape (bodies_of {P = P} Outermost) part
  root-part e = subst (λ bs. IsReadablePart shape bs part) (sym (bodies-outermost P)) (tt, ap is_readable (closed-none (shape [] part) 0) ∙ e)

  pub root-meant : meant shape (bodies_of {P = P} Outermost) part ≡ shape [] part
  root-meant = ap (λ bs. meant shape bs part) (bodies-outermost P) ∙ closed-none (shape [] part) 0
