-- What tables hold, seen by the bytes of names.
use Rattle.std.proofs.Common.{◌≡◌, ℕ, suc, List, [], ◌∷◌, ◌++◌, map, reverse, refl, sym, ap, ◌∙◌}
use Rattle.std.proofs.lemmas.List.{map-append, reverse-append}
use Rattle.std.specs.Borrow.{Bor}
use Rattle.std.specs.Option.{option_map}
use Rattle.std.specs.Str.{bytes_eq}
use Rattle.asn_modules_names.specs.lookup.Entries.{import_entries, keys_of, module_entries, numbered}
use Rattle.asn_modules_names.specs.lookup.Homes.{home_view, homes}
use Rattle.asn_modules_names.specs.lookup.Indexes.{same_name, same_pair}
use Rattle.asn_modules_names.specs.lookup.Lookup.{assigned, last_of, named, same_key}
use Rattle.asn_modules_names.specs.lookup.Views.{entry_view, import_view, key_view, keyed_view}
use Rattle.asn_modules_names.specs.declared.lookup.home.Home as code
use Rattle.asn_modules_names.specs.declared.lookup.sort.Sort.{Sort}
use Rattle.asn_modules_names.proofs.lookup.Lasts.{last_seen, map_same}
use Rattle.asn_modules_names.specs.Mentions.{Source}

-- Numbers stay beside what they number.
pub numbers_viewed : (keys : List (ℕ × Bor (List ℕ))) (n : ℕ) → map keyed_view (numbered n keys) ≡ numbered n (map key_view keys)
numbers_viewed [] n = refl
numbers_viewed (k ∷ ks) n = ap (λ l. (key_view k, n) ∷ l) (numbers_viewed ks (suc n))

pub names_viewed : (es : List ((ℕ × Bor (List ℕ)) × ℕ)) → map entry_view (map (λ e. (e.0.1, e.1)) es) ≡ map (λ e. (e.0.1, e.1)) (map keyed_view es)
names_viewed [] = refl
names_viewed (e ∷ es) = ap (λ l. (e.0.1.now, e.1) ∷ l) (names_viewed es)

-- The last entry of a name.
pub named_found : (es : List (Bor (List ℕ) × ℕ)) (q : Bor (List ℕ)) → last_of same_name es q ≡ last_of bytes_eq (map entry_view es) q.now
named_found es q = sym (map_same (last_of same_name es q)) ∙ last_seen same_name bytes_eq (λ k. k.now) (λ x. x) (λ k l. refl) es q

-- The last entry of a number and a name.
pub keyed_found : (es : List ((ℕ × Bor (List ℕ)) × ℕ)) (q : ℕ × Bor (List ℕ)) → last_of same_pair es q ≡ last_of same_key (map keyed_view es) (key_view q)
keyed_found es q = sym (map_same (last_of same_pair es q)) ∙ last_seen same_pair same_key key_view (λ x. x) (λ k l. refl) es q

pub imports_found : (es : List ((ℕ × Bor (List ℕ)) × Bor (List ℕ))) (q : ℕ × Bor (List ℕ)) → option_map (λ n. n.now) (last_of same_pair es q) ≡ last_of same_key (map import_view es) (key_view q)
imports_found es q = last_seen same_pair same_key key_view (λ n. n.now) (λ k l. refl) es q

map_reverse : {A B : Type 0} (f : A → B) (xs : List A) → map f (reverse xs) ≡ reverse (map f xs)
map_reverse f [] = refl
map_reverse f (x ∷ xs) =
    ap (map f) (reverse-append (x ∷ []) xs) ∙ map-append f (reverse xs) (x ∷ []) ∙ ap (λ l. l ++ f x ∷ []) (map_reverse f xs) ∙ sym (reverse-append (f x ∷ []) (map f xs))

module _ (ss : List Source) (hs : List code.Home) (all : map home_view hs ≡ homes ss) where
  -- The names of modules.
  pub modules_hold : (headed : List (Bor (List ℕ) × ℕ)) → map entry_view headed ≡ module_entries 0 (map home_view hs) → (q : Bor (List ℕ)) → last_of same_name headed q ≡ last_of bytes_eq (module_entries 0 (homes ss)) q.now
  modules_hold headed e q = named_found headed q ∙ ap (λ es. last_of bytes_eq es q.now) (e ∙ ap (module_entries 0) all)

  -- Imports.
  pub imports_hold : (es : List ((ℕ × Bor (List ℕ)) × Bor (List ℕ))) → map import_view es ≡ import_entries 0 (map home_view hs) → (q : ℕ × Bor (List ℕ)) → option_map (λ n. n.now) (last_of same_pair es q) ≡ last_of same_key (import_entries 0 (homes ss)) (key_view q)
  imports_hold es e q = imports_found es q ∙ ap (λ x. last_of same_key x (key_view q)) (e ∙ ap (import_entries 0) all)

  -- Types or values.
  module _ (sort : Sort) (keys : List (ℕ × Bor (List ℕ))) (counted : List ((ℕ × Bor (List ℕ)) × ℕ)) (made : map key_view keys ≡ keys_of sort 0 (map home_view hs)) (from : counted ≡ numbered 0 keys) where
    assigned_is : map keyed_view counted ≡ assigned sort ss
    assigned_is = ap (map keyed_view) from ∙ numbers_viewed keys 0 ∙ ap (numbered 0) (made ∙ ap (keys_of sort 0) all)

    pub assigned_holds : (q : ℕ × Bor (List ℕ)) → last_of same_pair counted q ≡ last_of same_key (assigned sort ss) (key_view q)
    assigned_holds q = keyed_found counted q ∙ ap (λ es. last_of same_key es (key_view q)) assigned_is

    named_is : (names : List (Bor (List ℕ) × ℕ)) → names ≡ map (λ e. (e.0.1, e.1)) counted → map entry_view names ≡ named sort ss
    named_is names e = ap (map entry_view) e ∙ names_viewed counted ∙ ap (map (λ x. (x.0.1, x.1))) assigned_is

    pub last_holds : (names : List (Bor (List ℕ) × ℕ)) → names ≡ map (λ e. (e.0.1, e.1)) counted → (q : Bor (List ℕ)) → last_of same_name names q ≡ last_of bytes_eq (named sort ss) q.now
    last_holds names e q = named_found names q ∙ ap (λ es. last_of bytes_eq es q.now) (named_is names e)

    pub first_holds : (names turned : List (Bor (List ℕ) × ℕ)) → names ≡ map (λ e. (e.0.1, e.1)) counted → turned ≡ reverse names → (q : Bor (List ℕ)) → last_of same_name turned q ≡ last_of bytes_eq (reverse (named sort ss)) q.now
    first_holds names turned e r q =
        named_found turned q ∙ ap (λ es. last_of bytes_eq es q.now) (ap (map entry_view) r ∙ map_reverse entry_view names ∙ ap reverse (named_is names e))
