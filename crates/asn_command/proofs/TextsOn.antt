-- Texts on types, one after another.
use Rattle.std.proofs.Common.{◌≡◌, ◌<◌, ◌≤◌, ◌+◌, ◌++◌, ℕ, List, [], ◌∷◌, length, take, drop, get_or, map, min, Bool, true, false, nat_le, String, Global, string_bytes, refl, sym, ap, ap₂, ◌∙◌, append_assoc, append-nil, arith}
use Rattle.std.proofs.lemmas.Bool.{leb-true, leb-false}
use Rattle.std.specs.List.{flat_map}
use Rattle.std.proofs.lemmas.List.{drop_all, drop_more, flat_map_more, map-append, take_more}
use Rattle.asn_model.specs.Shape as spec
use Rattle.asn_model.specs.ShapeView.{shape_view}
use Rattle.asn_model.specs.declared.shape_type.Shape.{Shape}
use Rattle.asn_modules.specs.Missing.{missing_view}
use Rattle.asn_modules.specs.declared.missing.MissingModule.{MissingModule}
use Rattle.asn_modules.specs.Names as names
use Rattle.asn_modules.specs.Names.{type_name_view}
use Rattle.asn_modules.specs.declared.names.TypeName.{TypeName}
use Rattle.asn_command.specs.Listings.{for_each, missing_line, valueless_line}

-- One more line on a part.
pub parts_more : (name now line after : List ℕ) (parts : List (String Global)) (i : ℕ) (part : String Global) → now ≡ flat_map (valueless_line name) (map string_bytes (take i parts)) → i < length parts → part ≡ get_or parts i part
    → line ≡ valueless_line name (string_bytes part) → after ≡ now ++ line → after ≡ flat_map (valueless_line name) (map string_bytes (take (i + 1) parts))
parts_more name now line after parts i part n inside is l a =
    let next : take (i + 1) parts ≡ take i parts ++ part ∷ [] = take_more parts i part inside ∙ ap (λ x. take i parts ++ x ∷ []) (sym is) in
    a ∙ ap₂ (λ x y. x ++ y) n l ∙ flat_map_more (valueless_line name) [] (map string_bytes (take i parts)) (string_bytes part)
    ∙ ap (flat_map (valueless_line name)) (sym (ap (map string_bytes) next ∙ map-append string_bytes (take i parts) (part ∷ [])))

-- One more line on a module that isn't given.
pub missing_more : (now line after : List ℕ) (modules : List MissingModule) (i : ℕ) (m : MissingModule) → now ≡ flat_map missing_line (map missing_view (take i modules)) → i < length modules → m ≡ get_or modules i m
    → line ≡ missing_line (missing_view m) → after ≡ now ++ line → after ≡ flat_map missing_line (map missing_view (take (i + 1) modules))
missing_more now line after modules i m n inside is l a =
    let next : take (i + 1) modules ≡ take i modules ++ m ∷ [] = take_more modules i m inside ∙ ap (λ x. take i modules ++ x ∷ []) (sym is) in
    a ∙ ap₂ (λ x y. x ++ y) n l ∙ flat_map_more missing_line [] (map missing_view (take i modules)) (missing_view m)
    ∙ ap (flat_map missing_line) (sym (ap (map missing_view) next ∙ map-append missing_view (take i modules) (m ∷ [])))

module _ (f : names.TypeName → spec.Shape → List ℕ) where
  -- The texts on the types from a place on.
  abbrev pub texts_from : List TypeName → List Shape → ℕ → List ℕ
  texts_from ns ss i = for_each f (map type_name_view (drop i ns)) (map shape_view (drop i ss))

  none_behind : (ts : List names.TypeName) → for_each f ts [] ≡ []
  none_behind [] = refl
  none_behind (t ∷ ts) = refl

  -- After the last one there is none.
  pub texts_end : (ns : List TypeName) (ss : List Shape) (i : ℕ) → min (length ns) (length ss) ≤ i → texts_from ns ss i ≡ []
  texts_end ns ss i h = by (nat_le (length ns) i) refl
    where
      by : (b : Bool) → nat_le (length ns) i ≡ b → texts_from ns ss i ≡ []
      by true e = ap (λ l. for_each f (map type_name_view l) (map shape_view (drop i ss))) (drop_all i ns (leb-true (length ns) i e))
      by false e =
          let short : length ss ≤ i = omega (arith, h, leb-false (length ns) i e) in
          ap (λ l. for_each f (map type_name_view (drop i ns)) (map shape_view l)) (drop_all i ss short) ∙ none_behind (map type_name_view (drop i ns))

  -- There all texts are made.
  pub texts_all : (all now : List ℕ) (ns : List TypeName) (ss : List Shape) (i : ℕ) → min (length ns) (length ss) ≤ i → all ≡ now ++ texts_from ns ss i → now ≡ all
  texts_all all now ns ss i h e = sym (e ∙ ap (λ x. now ++ x) (texts_end ns ss i h) ∙ append-nil now)

  -- One more text.
  pub texts_more : (all now line after : List ℕ) (ns : List TypeName) (ss : List Shape) (i : ℕ) (n : TypeName) (s : Shape) → i < length ns → i < length ss → n ≡ get_or ns i n → s ≡ get_or ss i s
      → all ≡ now ++ texts_from ns ss i → line ≡ f (type_name_view n) (shape_view s) → after ≡ now ++ line → all ≡ after ++ texts_from ns ss (i + 1)
  texts_more all now line after ns ss i n s h k is_n is_s e l a =
      let front : drop i ns ≡ n ∷ drop (i + 1) ns = drop_more ns i n h ∙ ap (λ x. x ∷ drop (i + 1) ns) (sym is_n) in
      let back : drop i ss ≡ s ∷ drop (i + 1) ss = drop_more ss i s k ∙ ap (λ x. x ∷ drop (i + 1) ss) (sym is_s) in
      let next : texts_from ns ss i ≡ f (type_name_view n) (shape_view s) ++ texts_from ns ss (i + 1) = ap₂ (λ x y. for_each f (map type_name_view x) (map shape_view y)) front back in
      e ∙ ap (λ x. now ++ x) next ∙ sym (append_assoc now (f (type_name_view n) (shape_view s)) (texts_from ns ss (i + 1)))
      ∙ ap (λ x. x ++ texts_from ns ss (i + 1)) (ap (λ x. now ++ x) (sym l) ∙ sym a)
