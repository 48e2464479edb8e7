-- What a name is expanded to among those that are open.
use Rattle.std.proofs.Common.{◌≡◌, ℕ, ◌+◌, List, [], ◌∷◌, Option, Some, None, option_map, String, string_bytes, sym, ap, subst, ◌∙◌, arith, rules}
use Rattle.std.specs.Borrow.{Bor}
use Rattle.std.specs.Global.{Box, Global}
use Rattle.std.specs.Str.{bytes_eq}
use Rattle.asn_growth.specs.Parts.{node_count}
use Rattle.asn_growth.proofs.Walking.{nodes-parts}
use Rattle.asn_model.specs.Shape.{Shape, SeqKind, Fields, Alternatives, place_named}
use Rattle.asn_model.specs.ShapeView.{shape_view, shape_step, alternative_step, field_step}
use Rattle.asn_model.specs.declared.shape_type.Shape as code
use Rattle.asn_model.specs.declared.shape_type.Shape.TheOpen as layer
use Rattle.asn_model.specs.declared.shape_type.Shape.TheVariants.{Back, rolls-Back, rolls-Loop, rolls-ListOf, rolls-SetOf}
use Rattle.asn_model.specs.declared.shape_type.Shape.TheViews.{Loop, ListOf, SetOf}
use Rattle.asn_model.specs.declared.shape_type.Shape.TheFolds.{fold-roll-Shape}
use Rattle.asn_notation.specs.Notation.{Notation, Element, Assignment, list_of, reference}
use Rattle.asn_notation.specs.View.{notation_view, notation_step, component_step, components_step}
use Rattle.asn_notation.specs.declared.notation.Notation.TheOpen as notation_layer
use Rattle.asn_notation.specs.declared.notation.Notation.TheVariants.{rolls-Reference, Reference}
use Rattle.asn_notation.specs.declared.notation.Notation.TheFolds.{fold-roll-Notation}
use Rattle.asn_expansion.specs.Expansion.{expansion, list_shape, notation_named, notation_shape}
use Rattle.asn_expansion.specs.Large.{HasMore}
use Rattle.asn_expansion.specs.OpenNames.{open_names, open_step}
use Rattle.asn_expansion.specs.declared.opened.Opened.{Opened, fold-roll-Opened}
use Rattle.asn_expansion.specs.declared.opened.Opened.TheVariants.{Nothing, rolls-Name, rolls-Nothing}
use Rattle.asn_expansion.specs.declared.opened.Opened.TheViews.{Name}
use Rattle.asn_expansion.proofs.Expanding.{expands_back, expands_loop, more_loop}

-- The names that are open, with one more.
names_opened : (name : Bor (List ℕ)) (outer : Bor Opened) → open_names (Name name outer) ≡ name.now ∷ open_names outer.now
names_opened name outer = let layer = fold-roll-Opened (List (List ℕ)) open_step in let rolled = rolls-Name name outer in search rules

pub none_opened : open_names Nothing ≡ []
none_opened = let layer = fold-roll-Opened (List (List ℕ)) open_step in let rolled = rolls-Nothing in search rules

back_viewed : (place : ℕ) → shape_view (Back place) ≡ Shape.back place
back_viewed place = ap shape_view (sym (rolls-Back place)) ∙ fold-roll-Shape Shape (Alternatives → Alternatives) (Fields → Fields) shape_step alternative_step field_step (layer.Back place)

loop_viewed : (b : Box code.Shape) → shape_view (Loop b) ≡ Shape.loop (shape_view b.value)
loop_viewed b = ap shape_view (sym (rolls-Loop b)) ∙ fold-roll-Shape Shape (Alternatives → Alternatives) (Fields → Fields) shape_step alternative_step field_step (layer.Loop b)

pub list_viewed : (b : Box code.Shape) → shape_view (ListOf b) ≡ Shape.list_of (shape_view b.value)
list_viewed b = ap shape_view (sym (rolls-ListOf b)) ∙ fold-roll-Shape Shape (Alternatives → Alternatives) (Fields → Fields) shape_step alternative_step field_step (layer.ListOf b)

pub set_viewed : (b : Box code.Shape) → shape_view (SetOf b) ≡ Shape.set_of (shape_view b.value)
set_viewed b = ap shape_view (sym (rolls-SetOf b)) ∙ fold-roll-Shape Shape (Alternatives → Alternatives) (Fields → Fields) shape_step alternative_step field_step (layer.SetOf b)

-- The name of a type, as a notation.
pub reference_viewed : (name : String Global) → notation_view (Reference name) ≡ reference (string_bytes name)
reference_viewed name = ap notation_view (sym (rolls-Reference name)) ∙ fold-roll-Notation Notation Element (List Element) notation_step component_step components_step (notation_layer.Reference name)

-- A name that is open.
pub back_made : (assignments : List Assignment) (more : ℕ) (names : List (List ℕ)) (name : List ℕ) (place : ℕ) → Some place ≡ place_named bytes_eq names name → expansion assignments more names name ≡ Some (shape_view (Back place))
back_made assignments more names name place e = expands_back assignments more names name place (sym e) ∙ ap (λ x. Some x) (sym (back_viewed place))

-- One that is not open and is assigned.
pub loop_made : (assignments : List Assignment) (more less : ℕ) (opened : Bor Opened) (name : Bor (List ℕ)) (n : Notation) (b : Box code.Shape) → place_named bytes_eq (open_names opened.now) name.now ≡ None → notation_named assignments name.now ≡ Some n → more ≡ less + 1
    → notation_shape (expansion assignments less (open_names (Name name opened))) n ≡ Some (shape_view b.value) → expansion assignments more (open_names opened.now) name.now ≡ Some (shape_view (Loop b))
loop_made assignments more less opened name n b e f m s =
    expands_loop assignments more less (open_names opened.now) name.now n e f m
    ∙ ap (λ l. option_map (λ x. Shape.loop x) (notation_shape (expansion assignments less l) n)) (sym (names_opened name opened))
    ∙ ap (λ o. option_map (λ x. Shape.loop x) o) s ∙ ap (λ x. Some x) (sym (loop_viewed b))

pub loop_large : (assignments : List Assignment) (more less left : ℕ) (opened : Bor Opened) (name : Bor (List ℕ)) (n : Notation) → place_named bytes_eq (open_names opened.now) name.now ≡ None → notation_named assignments name.now ≡ Some n → more ≡ less + 1
    → HasMore node_count left (notation_shape (expansion assignments less (open_names (Name name opened))) n) → HasMore node_count (left + 1) (expansion assignments more (open_names opened.now) name.now)
loop_large assignments more less left opened name n e f m h =
    subst (HasMore node_count (left + 1)) (sym (expands_loop assignments more less (open_names opened.now) name.now n e f m
    ∙ ap (λ l. option_map (λ x. Shape.loop x) (notation_shape (expansion assignments less l) n)) (sym (names_opened name opened)))) (more_loop left _ h)

-- No node is left.
pub more_none : (left : ℕ) (o : Option Shape) → left ≡ 0 → HasMore node_count left o
more_none left None e = tt
more_none left (Some s) e = omega (arith, e, nodes-parts s)

-- A list with its own node.
pub more_list : (kind : SeqKind) (left : ℕ) (o : Option Shape) → HasMore node_count left o → HasMore node_count (left + 1) (option_map (λ s. list_shape kind s) o)
more_list kind left None h = tt
more_list SeqKind.sequence left (Some s) h = omega (arith, h)
more_list SeqKind.set left (Some s) h = omega (arith, h)

-- A notation by what it is, with its own node.
pub large_as : (f : List ℕ → Option Shape) (old new : ℕ) (n m : Notation) → old ≡ new + 1 → n ≡ m → HasMore node_count (new + 1) (notation_shape f m) → HasMore node_count old (notation_shape f n)
large_as f old new n m e v h = subst (λ k. HasMore node_count k (notation_shape f n)) (sym e) (subst (λ x. HasMore node_count (new + 1) (notation_shape f x)) (sym v) h)

-- A list by its elements.
pub list_large : (f : List ℕ → Option Shape) (old new : ℕ) (kind : SeqKind) (n m : Notation) → old ≡ new + 1 → n ≡ list_of kind m → HasMore node_count new (notation_shape f m) → HasMore node_count old (notation_shape f n)
list_large f old new kind n m e v h = large_as f old new n (list_of kind m) e v (more_list kind new (notation_shape f m) h)

pub list_made : (f : List ℕ → Option Shape) (kind : SeqKind) (n m : Notation) (s : Shape) → n ≡ list_of kind m → notation_shape f m ≡ Some s → notation_shape f n ≡ Some (list_shape kind s)
list_made f kind n m s v e = ap (λ x. notation_shape f x) v ∙ ap (λ o. option_map (λ x. list_shape kind x) o) e
