-- Names of types, and texts that name them.
use Rattle.std.proofs.Common.{◌≡◌, ℕ, ◌+◌, ◌<◌, ◌≤◌, List, [], ◌∷◌, ◌++◌, map, take, drop, length, get_or, suc, false, Option, Some, None, refl, sym, ap, ◌∙◌}
use Rattle.std.specs.Str.{bytes_eq}
use Rattle.std.proofs.lemmas.Bool.Decides.{same_from_decides}
use Rattle.std.proofs.lemmas.List.{length-map, map-append, take_all, take_more}
use Rattle.std.proofs.lemmas.Slice.Eq.{bytes_eq-Decides}
use Rattle.asn_model.specs.ShapeView.{shape_view}
use Rattle.asn_model.specs.declared.shape_type.Shape.{Shape}
use Rattle.asn_modules.specs.Names.{TypeName, numbers_named, type_name_of, type_name_view, type_names}
use Rattle.asn_modules.specs.declared.names.TypeName as code
use Rattle.asn_modules_names.specs.declared.lookup.sort.Sort.TheVariants.{Types}
use Rattle.asn_modules_names.specs.Mentions.{Source}
use Rattle.asn_modules_names.proofs.Founds.{pushed}
use Rattle.asn_modules_types.specs.Assigned as spec
use Rattle.asn_modules_types.specs.Assigned.{assigned}
use Rattle.asn_modules_types.specs.Known.{assigned_view}
use Rattle.asn_modules_types.specs.Linked.{linked_from, linked_types}
use Rattle.asn_modules_types.specs.declared.assigned.Assigned.{Assigned}

-- A text that isn't the other one.
pub other_text : (text other : List ℕ) → (text ≡ other → ⊥) → false ≡ bytes_eq text other
other_text text other differ = same_from_decides false (bytes_eq text other) ((λ e. let z : ⊥ = cc in absurd z), (λ e. absurd (differ e))) (bytes_eq-Decides text other)

tail-same : (p xs ys : List ℕ) → p ++ xs ≡ p ++ ys → xs ≡ ys
tail-same [] xs ys e = e
tail-same (x ∷ p) xs ys e = tail-same p xs ys (cc e)

-- Texts are compared by what stands after the same front.
pub behind_home : (text home rest other : List ℕ) → text ≡ home ++ rest → bytes_eq text (home ++ other) ≡ bytes_eq rest other
behind_home text home rest other e =
    same_from_decides (bytes_eq text (home ++ other)) (bytes_eq rest other)
    ((λ h. tail-same home rest other (sym e ∙ (bytes_eq-Decides text (home ++ other)).0 h)), (λ s. (bytes_eq-Decides text (home ++ other)).1 (e ∙ ap (λ l. home ++ l) s)))
    (bytes_eq-Decides rest other)

-- The number that was found so far, if one was.
abbrev pub listed : Option ℕ → List ℕ
listed None = []
listed (Some n) = n ∷ []

-- The numbers of the types from a place on that the text names.
abbrev pub named_from : List code.TypeName → ℕ → List ℕ → List ℕ
named_from names i text = numbers_named i (map type_name_view (drop i names)) text

-- The names of the types before a place.
abbrev pub names_before : List Assigned → ℕ → List TypeName
names_before types i = map type_name_of (map assigned_view (take i types))

-- One more name.
pub names_more : (types : List Assigned) (i : ℕ) (a : Assigned) (old new : List code.TypeName) (n : code.TypeName) → i < length types → a ≡ get_or types i a → map type_name_view old ≡ names_before types i
    → new ≡ old ++ n ∷ [] → type_name_view n ≡ type_name_of (assigned_view a) → map type_name_view new ≡ names_before types (i + 1)
names_more types i a old new n h e was p v =
    pushed type_name_view old new n (type_name_of (assigned_view a)) p v ∙ ap (λ l. l ++ type_name_of (assigned_view a) ∷ []) was
    ∙ sym (ap (λ l. map type_name_of (map assigned_view l)) (take_more types i a h ∙ ap (λ x. take i types ++ x ∷ []) (sym e))
    ∙ ap (map type_name_of) (map-append assigned_view (take i types) (a ∷ [])) ∙ map-append type_name_of (map assigned_view (take i types)) (assigned_view a ∷ []))

-- All names.
pub names_all : (types : List Assigned) (i : ℕ) (names : List code.TypeName) → length types ≤ i → map type_name_view names ≡ names_before types i → map type_name_view names ≡ map type_name_of (map assigned_view types)
names_all types i names h was = was ∙ ap (λ l. map type_name_of (map assigned_view l)) (take_all i types h)

linked-counted : (ss : List Source) (count n : ℕ) (ts : List spec.Assigned) → length (linked_from ss count n ts) ≡ length ts
linked-counted ss count n [] = refl
linked-counted ss count n (t ∷ ts) = ap suc (linked-counted ss count (suc n) ts)

-- Each type has a name.
pub named-counted : (ss : List Source) (names : List code.TypeName) (types : List Shape) → map type_name_view names ≡ type_names ss → map shape_view types ≡ linked_types ss → length names ≡ length types
named-counted ss names types e f =
    let ts = assigned Types ss in
    sym (length-map names type_name_view) ∙ ap length e ∙ length-map ts type_name_of ∙ sym (linked-counted ss (length ts) 0 ts) ∙ sym (ap length f) ∙ length-map types shape_view
