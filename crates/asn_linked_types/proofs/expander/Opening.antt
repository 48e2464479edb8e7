-- What the type of a number is expanded to among those that are open.
use Rattle.std.proofs.Common.{◌≡◌, ◌<◌, ◌≤◌, refl, ap, sym, subst, ◌∙◌, arith, rules, ℕ, zero, suc, ◌+◌, ◌-◌, List, [], ◌∷◌, get_or, length, map, Some, None, inl, inr}
use Rattle.std.specs.Borrow.{Bor}
use Rattle.asn_growth.specs.Parts.{node_count}
use Rattle.asn_growth.proofs.Walking.{nodes-parts}
use Rattle.asn_linked_types.specs.expander.Large.{IsBeyond}
use Rattle.asn_linked_types.specs.expander.Loops.{loop_depth}
use Rattle.asn_linked_types.specs.expander.OpenTypes.{open_numbers, open_step}
use Rattle.asn_linked_types.specs.declared.expander.opened.Opened.{Opened, fold-roll-Opened}
use Rattle.asn_linked_types.specs.declared.expander.opened.Opened.TheVariants.{Nothing, rolls-Nothing, rolls-Number}
use Rattle.asn_linked_types.specs.declared.expander.opened.Opened.TheViews.{Number}
use Rattle.asn_linked_types.specs.Expansion.{expansion, linked_shape, place_of, type_at}
use Rattle.asn_linked_types.proofs.Expanding.{expands-loop}
use Rattle.asn_model.specs.Shape.{Shape}
use Rattle.asn_model.specs.ShapeView.{shape_view}
use Rattle.asn_model.specs.declared.shape_type.Shape as code

-- The types that are open, with one more.
pub none-opened : open_numbers Nothing ≡ []
none-opened = let layer = fold-roll-Opened (List ℕ) open_step in let rolled = rolls-Nothing in search rules

pub one-opened : (number : ℕ) (outer : Bor Opened) → open_numbers (Number number outer) ≡ number ∷ open_numbers outer.now
one-opened number outer = let layer = fold-roll-Opened (List ℕ) open_step in let rolled = rolls-Number number outer in search rules

-- The type of a number, if there is one.
pub type-there : (types : List code.Shape) (k : ℕ) (d : code.Shape) → k < length types → type_at (map shape_view types) k ≡ Some (shape_view (get_or types k d))
type-there [] k d h = absurd (omega (arith, h))
type-there (s ∷ types) zero d h = refl
type-there (s ∷ types) (suc k) d h = type-there types k d (omega (arith, h))

pub type-past : (types : List code.Shape) (k : ℕ) → length types ≤ k → type_at (map shape_view types) k ≡ None
type-past [] k h = refl
type-past (s ∷ types) zero h = absurd (omega (arith, h))
type-past (s ∷ types) (suc k) h = type-past types k (omega (arith, h))

-- No node is left.
pub beyond-none : (left loops : ℕ) (s : Shape) → left ≡ 0 → IsBeyond node_count loop_depth left loops s
beyond-none left loops s e = inl (omega (arith, e, nodes-parts s))

-- The type is opened.
module _ (types : List code.Shape) (number : ℕ) (body : code.Shape) (opened : Bor Opened) (closed : place_of (open_numbers opened.now) number ≡ None) (there : number < length types) (is : body ≡ get_or types number body)
    (few : length (open_numbers opened.now) < length types) where
  abbrev depth : ℕ
  depth = length (open_numbers opened.now)

  abbrev within : List ℕ
  within = open_numbers (Number number opened)

  -- What names in it stand for.
  abbrev named : ℕ → Shape
  named = expansion (map shape_view types) (length types - length within) within

  pub opens : expansion (map shape_view types) (length types - depth) (open_numbers opened.now) number ≡ Shape.loop (linked_shape named (shape_view body))
  opens =
      let one = one-opened number opened in
      let less : length types - depth ≡ suc (length types - length within) = omega (arith, few, ap length one) in
      let found = type-there types number body there ∙ ap (λ s. Some (shape_view s)) (sym is) in
      expands-loop (map shape_view types) (length types - depth) (length types - length within) (open_numbers opened.now) number (shape_view body) closed found less
      ∙ ap (λ l. Shape.loop (linked_shape (expansion (map shape_view types) (length types - length within) l) (shape_view body))) (sym one)

  -- No more types may be open.
  pub opens-beyond : (left loops : ℕ) → loops ≡ 0 → IsBeyond node_count loop_depth left loops (expansion (map shape_view types) (length types - depth) (open_numbers opened.now) number)
  opens-beyond left loops e = subst (IsBeyond node_count loop_depth left loops) (sym opens) (inr (omega (arith, e)))

  -- The type is beyond what is left.
  pub body-beyond : (left loops less : ℕ) → loops ≡ less + 1 → IsBeyond node_count loop_depth left less (linked_shape named (shape_view body))
      → IsBeyond node_count loop_depth (left + 1) loops (expansion (map shape_view types) (length types - depth) (open_numbers opened.now) number)
  body-beyond left loops less e b = subst (IsBeyond node_count loop_depth (left + 1) loops) (sym opens) (by b)
    where
      by : IsBeyond node_count loop_depth left less (linked_shape named (shape_view body)) → IsBeyond node_count loop_depth (left + 1) loops (Shape.loop (linked_shape named (shape_view body)))
      by (inl h) = inl (omega (arith, h))
      by (inr h) = inr (omega (arith, h, e))

-- Where no type is open, a number means its type.
pub outermost : (types : List code.Shape) (number : ℕ) → expansion (map shape_view types) (length types - length (open_numbers Nothing)) (open_numbers Nothing) number ≡ expansion (map shape_view types) (length types) [] number
outermost types number = let all : length types - length (open_numbers Nothing) ≡ length types = omega (arith, ap length none-opened) in (λ i. expansion (map shape_view types) (all i) (none-opened i) number)
