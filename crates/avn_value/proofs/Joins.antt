-- Rows of trees, joined.
use Rattle.std.proofs.Common.{◌≡◌, ◌≢◌, ℕ, ◌+◌, ◌<◌, List, [], ◌∷◌, ◌++◌, Option, Some, None, String, string_bytes, refl, sym, ap, ◌∙◌, take, get_or, length}
use Rattle.std.specs.Prelude.{map}
use Rattle.std.specs.Fmt.{decimal}
use Rattle.std.proofs.lemmas.List.{take_more}
use Rattle.avn_grammar.specs.Tree.{Tree, Fields, integer, sequence, tree, no_fields, field, absent}
use Rattle.avn_grammar.specs.Normal.{normal, normal_trees, normal_fields, arc_trees, braced}
use Rattle.avn_value.specs.declared.value.AvnValue.{AvnValue}
use Rattle.avn_nodes.specs.TreeLists.{trees_in}
use Rattle.avn_nodes.proofs.JoinedFields.{join, join-nil, seen, fields-push, fields-next}
use Rattle.avn_value.specs.View.{fields_trees}

pub normal-list : {A : Type 0} (see : A → Tree) (xs : List A) → trees_in (map (λ x. normal (see x)) xs) ≡ normal_trees (trees_in (map see xs))
unfolding normal
normal-list see [] = refl
normal-list see (x ∷ xs) = ap (tree (normal (see x))) (normal-list see xs)

pub arcs-list : (arcs : List ℕ) → trees_in (map (λ a. integer (decimal a)) arcs) ≡ arc_trees arcs
arcs-list [] = refl
arcs-list (a ∷ arcs) = ap (tree (integer (decimal a))) (arcs-list arcs)

map-push : {A B : Type 0} (f : A → B) (xs : List A) (x : A) → map f (xs ++ (x ∷ [])) ≡ map f xs ++ (f x ∷ [])
map-push f [] x = refl
map-push f (y ∷ xs) x = ap (λ z. f y ∷ z) (map-push f xs x)

pub map-next : {A B C : Type 0} (f : A → C) (g : B → C) (ys zs : List A) (xs : List B) (i : ℕ) (y : A) (x : B) → i < length xs → map f ys ≡ map g (take i xs) → zs ≡ ys ++ (y ∷ []) → f y ≡ g (get_or xs i x) → map f zs ≡ map g (take (i + 1) xs)
map-next f g ys zs xs i y x l h e s =
    ap (map f) e ∙ map-push f ys y ∙ ap (λ z. z ++ (f y ∷ [])) h ∙ ap (λ z. map g (take i xs) ++ (z ∷ [])) s ∙ sym (ap (map g) (take_more xs i x l) ∙ map-push g (take i xs) (get_or xs i x))

normal-join : (fs gs : Fields) → normal_fields (join fs gs) ≡ join (normal_fields fs) (normal_fields gs)
unfolding normal
normal-join no_fields gs = refl
normal-join (field id t fs) gs = ap (field id (normal t)) (normal-join fs gs)
normal-join (absent id fs) gs = normal-join fs gs

module _ {S A : Type 0} (see : A → Tree) where
  -- A field is copied where its name and its value are.
  pub copy-some : (f g : String S × Option A) (v w : A) → string_bytes (g.0) ≡ string_bytes (f.0) → f.1 ≡ Some v → g.1 ≡ Some w → see w ≡ see v → seen see (g ∷ []) ≡ seen see (f ∷ [])
  copy-some (m, o) (n, p) v w e a b s =
      ap (λ x. seen see ((n, x) ∷ [])) b ∙ ap (λ x. field x (see w) no_fields) e ∙ ap (λ x. field (string_bytes m) x no_fields) s ∙ ap (λ x. seen see ((m, x) ∷ [])) (sym a)

  pub copy-none : (f g : String S × Option A) → string_bytes (g.0) ≡ string_bytes (f.0) → f.1 ≡ None → g.1 ≡ None → seen see (g ∷ []) ≡ seen see (f ∷ [])
  copy-none (m, o) (n, p) e a b = ap (λ x. seen see ((n, x) ∷ [])) b ∙ ap (λ x. absent x no_fields) e ∙ ap (λ x. seen see ((m, x) ∷ [])) (sym a)

  pub copy-next : (xs ys zs : List (String S × Option A)) (i : ℕ) (f g : String S × Option A) → i < length xs → f ≡ get_or xs i f → seen see ys ≡ seen see (take i xs) → zs ≡ ys ++ (g ∷ []) → seen see (g ∷ []) ≡ seen see (f ∷ [])
      → seen see zs ≡ seen see (take (i + 1) xs)
  copy-next xs ys zs i f g l e h p s = ap (seen see) p ∙ fields-push see ys g ∙ ap (λ x. join x (seen see (g ∷ []))) h ∙ ap (join (seen see (take i xs))) s ∙ fields-next see xs i f l e

  -- The normal form of a field is there where its value is.
  pub normal-some : (xs ys zs : List (String S × Option A)) (i : ℕ) (f : String S × Option A) (name : String S) (v w : A) → i < length xs → f ≡ get_or xs i f → seen see ys ≡ normal_fields (seen see (take i xs)) → zs ≡ ys ++ ((name, Some w) ∷ [])
      → string_bytes name ≡ string_bytes (f.0) → f.1 ≡ Some v → see w ≡ normal (see v) → seen see zs ≡ normal_fields (seen see (take (i + 1) xs))
  unfolding normal
  normal-some xs ys zs i (m, o) name v w l e h p n a s =
      ap (seen see) p ∙ fields-push see ys (name, Some w) ∙ ap (λ x. join x (field (string_bytes name) (see w) no_fields)) h
      ∙ ap (λ x. join (normal_fields (seen see (take i xs))) (field x (see w) no_fields)) n ∙ ap (λ x. join (normal_fields (seen see (take i xs))) (field (string_bytes m) x no_fields)) s
      ∙ ap (λ x. join (normal_fields (seen see (take i xs))) (normal_fields (seen see ((m, x) ∷ [])))) (sym a) ∙ sym (normal-join (seen see (take i xs)) (seen see ((m, o) ∷ []))) ∙ ap normal_fields (fields-next see xs i (m, o) l e)

  pub normal-none : (xs ys : List (String S × Option A)) (i : ℕ) (f : String S × Option A) → i < length xs → f ≡ get_or xs i f → seen see ys ≡ normal_fields (seen see (take i xs)) → f.1 ≡ None → seen see ys ≡ normal_fields (seen see (take (i + 1) xs))
  unfolding normal
  normal-none xs ys i (m, o) l e h a =
      h ∙ sym (join-nil (normal_fields (seen see (take i xs)))) ∙ ap (λ x. join (normal_fields (seen see (take i xs))) (normal_fields (seen see ((m, x) ∷ [])))) (sym a)
      ∙ sym (normal-join (seen see (take i xs)) (seen see ((m, o) ∷ []))) ∙ ap normal_fields (fields-next see xs i (m, o) l e)

pub braced-some : {S : Type 0} (v : List (String S × Option AvnValue)) (fs : Fields) → fields_trees v ≡ normal_fields fs → v ≢ [] → sequence (fields_trees v) ≡ normal (sequence fs)
unfolding normal
braced-some [] fs e n = absurd (n refl)
braced-some ((name, Some x) ∷ v) fs e n = ap braced e
braced-some ((name, None) ∷ v) fs e n = ap braced e

pub no-fields-normal : no_fields ≡ normal_fields no_fields
unfolding normal
no-fields-normal = refl
