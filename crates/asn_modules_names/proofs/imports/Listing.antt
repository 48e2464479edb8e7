-- Entries that were listed so far.
use Rattle.std.proofs.Common.{◌≡◌, ◌≤◌, ℕ, ◌+◌, ◌<◌, List, [], ◌∷◌, ◌++◌, map, sym, ap, ◌∙◌, append_assoc, get_or, drop, length, add-one}
use Rattle.std.proofs.lemmas.List.{drop_all, map-append}
use Rattle.std.specs.Borrow.{Bor}
use Rattle.asn_modules_grammar.specs.declared.headers.import.Import.{Import}
use Rattle.asn_modules_grammar.specs.headers.Views.{import_view}
use Rattle.asn_modules_names.specs.imports.Imported.{imported_names}
use Rattle.asn_modules_names.specs.imports.Tables.{names_by, numbered_by}
use Rattle.asn_modules_names.specs.lookup.Homes.{Home, bytes_in, home_view}
use Rattle.asn_modules_names.specs.lookup.Views.{entry_view}
use Rattle.asn_modules_names.specs.declared.lookup.home.Home as code
use Rattle.asn_modules_names.specs.Assigned.{assigned_name}
use Rattle.asn_modules_names.proofs.Founds.{drop_at, listed_all, listed_more, pushed}
use Rattle.asn_modules_grammar.specs.notation.Modules.{Assignment}

module _ {A : Type 0} (g : A → List ℕ) (k : ℕ) where
  -- The names that g gives, each with the number of the module.
  abbrev pub each : List A → List (List ℕ × ℕ)
  each xs = numbered_by k (map g xs)

  pub each_added : (all : List (List ℕ × ℕ)) (old new : List (Bor (List ℕ) × ℕ)) (n : Bor (List ℕ)) (x : A) (xs ys : List A) → xs ≡ x ∷ ys → all ≡ map entry_view old ++ each xs → n.now ≡ g x → new ≡ old ++ (n, k) ∷ []
      → all ≡ map entry_view new ++ each ys
  each_added all old new n x xs ys cut was b p =
      listed_more all (map entry_view old) (map entry_view new) ((g x, k) ∷ []) (each xs) (each ys) was (ap each cut) (pushed entry_view old new (n, k) (g x, k) p (ap (λ y. (y, k)) b))

  pub each_listed : (all : List (List ℕ × ℕ)) (new : List (Bor (List ℕ) × ℕ)) (xs : List A) → xs ≡ [] → all ≡ map entry_view new ++ each xs → map entry_view new ≡ all
  each_listed all new xs none was = sym (listed_all all (map entry_view new) (each xs) was (ap each none))

-- The name that the assignment of the module assigns.
abbrev pub name_in : Home → Assignment → List ℕ
name_in h a = bytes_in h (assigned_name a)

module _ (f : Home → List (List ℕ)) (hs : List code.Home) where
  -- Those of all modules, from a number on.
  abbrev pub names_from : ℕ → List (List ℕ × ℕ)
  names_from i = names_by f i (map home_view (drop i hs))

  pub module_added : (all before after : List (List ℕ × ℕ)) (i : ℕ) (h : code.Home) → i < length hs → h ≡ get_or hs i h → all ≡ before ++ names_from i → after ≡ before ++ numbered_by i (f (home_view h)) → all ≡ after ++ names_from (i + 1)
  module_added all before after i h l e was a =
      listed_more all before after (numbered_by i (f (home_view h))) (names_from i) (names_from (i + 1)) was
      (ap (λ x. names_by f i (map home_view x)) (drop_at hs i h l e) ∙ ap (λ k. numbered_by i (f (home_view h)) ++ names_by f k (map home_view (drop (i + 1) hs))) (sym (add-one i))) a

  pub modules_listed : (all new : List (List ℕ × ℕ)) (i : ℕ) → length hs ≤ i → all ≡ new ++ names_from i → new ≡ all
  modules_listed all new i h was = sym (listed_all all new (names_from i) was (ap (λ x. names_by f i (map home_view x)) (drop_all i hs h)))

-- Two lists of names of a module, one after another.
pub numbered_both : (k : ℕ) (before middle : List (List ℕ × ℕ)) (xs ys : List (List ℕ)) → middle ≡ before ++ numbered_by k xs → middle ++ numbered_by k ys ≡ before ++ numbered_by k (xs ++ ys)
numbered_both k before middle xs ys e =
    ap (λ l. l ++ numbered_by k ys) e ∙ append_assoc before (numbered_by k xs) (numbered_by k ys) ∙ ap (λ l. before ++ l) (sym (map-append (λ n. (n, k)) xs ys))

-- What the imports of a module list, as they are held.
module _ (k : ℕ) (h : Home) where
  abbrev pub imported_from : List Import → List (List ℕ × ℕ)
  imported_from is = numbered_by k (imported_names h (map import_view is))

  pub import_listed : (all before after : List (List ℕ × ℕ)) (is : List Import) (i : ℕ) (x : Import) → i < length is → x ≡ get_or is i x → all ≡ before ++ imported_from (drop i is) → after ≡ before ++ numbered_by k (map (bytes_in h) x.names.items) → all ≡ after ++ imported_from (drop (i + 1) is)
  import_listed all before after is i x l e was a =
      listed_more all before after (numbered_by k (map (bytes_in h) x.names.items)) (imported_from (drop i is)) (imported_from (drop (i + 1) is)) was
      (ap imported_from (drop_at is i x l e) ∙ map-append (λ n. (n, k)) (map (bytes_in h) x.names.items) (imported_names h (map import_view (drop (i + 1) is)))) a

  pub imports_listed : (is : List Import) (i : ℕ) → length is ≤ i → imported_from (drop i is) ≡ []
  imports_listed is i l = ap imported_from (drop_all i is l)
