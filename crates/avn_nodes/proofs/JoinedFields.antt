-- Fields of a sequence, joined.
use Rattle.std.proofs.Common.{◌≡◌, ℕ, ◌+◌, ◌<◌, List, [], ◌∷◌, ◌++◌, Option, Some, None, String, string_bytes, refl, sym, ap, ◌∙◌, take, get_or, length}
use Rattle.std.specs.Prelude.{map, option_map}
use Rattle.std.proofs.lemmas.List.{take_more}
use Rattle.avn_grammar.specs.Tree.{Tree, Fields, no_fields, field, absent}
use Rattle.avn_nodes.specs.TreeLists.{fields_in}

-- Fields, and then others.
abbrev pub join : Fields → Fields → Fields
join no_fields gs = gs
join (field id t fs) gs = field id t (join fs gs)
join (absent id fs) gs = absent id (join fs gs)

pub join-nil : (fs : Fields) → join fs no_fields ≡ fs
join-nil no_fields = refl
join-nil (field id t fs) = ap (field id t) (join-nil fs)
join-nil (absent id fs) = ap (absent id) (join-nil fs)

module _ {S A : Type 0} (see : A → Tree) where
  abbrev pub seen : List (String S × Option A) → Fields
  seen xs = fields_in (map (λ f. (f.0, option_map see f.1)) xs)

  pub fields-push : (xs : List (String S × Option A)) (f : String S × Option A) → seen (xs ++ (f ∷ [])) ≡ join (seen xs) (seen (f ∷ []))
  fields-push [] f = refl
  fields-push ((name, Some v) ∷ xs) f = ap (field (string_bytes name) (see v)) (fields-push xs f)
  fields-push ((name, None) ∷ xs) f = ap (absent (string_bytes name)) (fields-push xs f)

  pub fields-next : (xs : List (String S × Option A)) (i : ℕ) (f : String S × Option A) → i < length xs → f ≡ get_or xs i f → join (seen (take i xs)) (seen (f ∷ [])) ≡ seen (take (i + 1) xs)
  fields-next xs i f l e = ap (λ x. join (seen (take i xs)) (seen (x ∷ []))) e ∙ sym (ap seen (take_more xs i f l) ∙ fields-push (take i xs) (get_or xs i f))
