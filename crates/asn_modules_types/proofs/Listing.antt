-- Types and values that were listed so far.
use Rattle.std.proofs.Common.{◌≡◌, ◌≤◌, ℕ, ◌+◌, ◌<◌, List, [], ◌∷◌, ◌++◌, map, true, false, Option, Some, None, is_some, refl, sym, ap, ◌∙◌, get_or, drop, length, add-one}
use Rattle.std.proofs.lemmas.List.{drop_all}
use Rattle.std.specs.List.{cons_option}
use Rattle.std.specs.Option.{option_map}
use Rattle.asn_lexer.specs.declared.token.Token.{Token}
use Rattle.asn_modules_names.proofs.lookup.Listing.{some_of}
use Rattle.asn_modules_names.specs.lookup.Entries.{name_as}
use Rattle.asn_modules_names.specs.lookup.Homes.{Home, home_view}
use Rattle.asn_modules_names.specs.declared.lookup.home.Home as code
use Rattle.asn_modules_names.specs.declared.lookup.sort.Sort.{Sort}
use Rattle.asn_modules_names.proofs.Founds.{drop_at, listed_more, pushed}
use Rattle.asn_modules_grammar.specs.notation.Modules.{Assignment}
use Rattle.asn_modules_grammar.specs.notation.View.{assignment_view}
use Rattle.asn_modules_grammar.specs.declared.notation.module.Assignment as code_assignment
use Rattle.asn_modules_types.specs.Assigned as spec
use Rattle.asn_modules_types.specs.Assigned.{assigned_as, assigned_in, assigned_of}
use Rattle.asn_modules_types.specs.Known.{assigned_view}
use Rattle.asn_modules_types.specs.declared.assigned.Assigned as code_assigned

-- Those of the sort among these assignments.
abbrev pub listed : Sort → ℕ → Home → List code_assignment.Assignment → List spec.Assigned
listed sort k h xs = assigned_in sort k h (map assignment_view xs)

abbrev entry : ℕ → Home → Assignment → spec.Assigned
entry k h a = record { number = k; home = h; assignment = a }

put_before : {A : Type 0} (o : Option A) (xs : List A) → cons_option o xs ≡ some_of o ++ xs
put_before None xs = refl
put_before (Some x) xs = refl

none_named : (o : Option Token) (x : spec.Assigned) → is_some o ≡ false → option_map (λ t. x) o ≡ None
none_named None x e = refl
none_named (Some t) x e = cc e

one_named : (o : Option Token) (x : spec.Assigned) → is_some o ≡ true → option_map (λ t. x) o ≡ Some x
one_named None x e = cc e
one_named (Some t) x e = refl

listed_step : (sort : Sort) (k : ℕ) (h : Home) (xs : List code_assignment.Assignment) (i : ℕ) (a : code_assignment.Assignment) → i < length xs → a ≡ get_or xs i a
    → listed sort k h (drop i xs) ≡ some_of (assigned_as sort k h (assignment_view a)) ++ listed sort k h (drop (i + 1) xs)
listed_step sort k h xs i a l e = ap (listed sort k h) (drop_at xs i a l e) ∙ put_before (assigned_as sort k h (assignment_view a)) (listed sort k h (drop (i + 1) xs))

pub listed_passed : (all before : List spec.Assigned) (sort : Sort) (k : ℕ) (h : Home) (xs : List code_assignment.Assignment) (i : ℕ) (a : code_assignment.Assignment) → i < length xs → a ≡ get_or xs i a → all ≡ before ++ listed sort k h (drop i xs)
    → is_some (name_as sort (assignment_view a)) ≡ false → all ≡ before ++ listed sort k h (drop (i + 1) xs)
listed_passed all before sort k h xs i a l e was none =
    was ∙ ap (λ x. before ++ x) (listed_step sort k h xs i a l e ∙ ap (λ o. some_of o ++ listed sort k h (drop (i + 1) xs)) (none_named (name_as sort (assignment_view a)) (entry k h (assignment_view a)) none))

pub listed_added : (all : List spec.Assigned) (old new : List code_assigned.Assigned) (n : code_assigned.Assigned) (sort : Sort) (k : ℕ) (h : Home) (xs : List code_assignment.Assignment) (i : ℕ) (a : code_assignment.Assignment) → i < length xs → a ≡ get_or xs i a
    → all ≡ map assigned_view old ++ listed sort k h (drop i xs) → is_some (name_as sort (assignment_view a)) ≡ true → assigned_view n ≡ record { number = k; home = h; assignment = assignment_view a } → new ≡ old ++ n ∷ []
    → all ≡ map assigned_view new ++ listed sort k h (drop (i + 1) xs)
listed_added all old new n sort k h xs i a l e was one is p =
    listed_more all (map assigned_view old) (map assigned_view new) (entry k h (assignment_view a) ∷ []) (listed sort k h (drop i xs)) (listed sort k h (drop (i + 1) xs)) was
    (listed_step sort k h xs i a l e ∙ ap (λ o. some_of o ++ listed sort k h (drop (i + 1) xs)) (one_named (name_as sort (assignment_view a)) (entry k h (assignment_view a)) one))
    (pushed assigned_view old new n (entry k h (assignment_view a)) p is)

pub listed_end : (sort : Sort) (k : ℕ) (h : Home) (xs : List code_assignment.Assignment) (i : ℕ) → length xs ≤ i → listed sort k h (drop i xs) ≡ []
listed_end sort k h xs i l = ap (listed sort k h) (drop_all i xs l)

-- Those of all modules, from a number on.
abbrev pub listed_from : Sort → List code.Home → ℕ → List spec.Assigned
listed_from sort hs i = assigned_of sort i (map home_view (drop i hs))

pub modules_added : (all before after : List spec.Assigned) (sort : Sort) (hs : List code.Home) (i : ℕ) (h : code.Home) → i < length hs → h ≡ get_or hs i h → all ≡ before ++ listed_from sort hs i
    → after ≡ before ++ listed sort i (home_view h) h.parsed.now.assignments.items → all ≡ after ++ listed_from sort hs (i + 1)
modules_added all before after sort hs i h l e was a =
    listed_more all before after (listed sort i (home_view h) h.parsed.now.assignments.items) (listed_from sort hs i) (listed_from sort hs (i + 1)) was
    (ap (λ x. assigned_of sort i (map home_view x)) (drop_at hs i h l e)
    ∙ ap (λ k. listed sort i (home_view h) h.parsed.now.assignments.items ++ assigned_of sort k (map home_view (drop (i + 1) hs))) (sym (add-one i))) a

pub modules_end : (sort : Sort) (hs : List code.Home) (i : ℕ) → length hs ≤ i → listed_from sort hs i ≡ []
modules_end sort hs i h = ap (λ x. assigned_of sort i (map home_view x)) (drop_all i hs h)
