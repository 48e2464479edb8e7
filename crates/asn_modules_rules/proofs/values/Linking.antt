-- Values that were listed so far.
use Rattle.std.proofs.Common.{◌≡◌, ◌≤◌, ℕ, suc, ◌+◌, ◌<◌, List, [], ◌∷◌, ◌++◌, map, Option, Some, None, refl, sym, ap, ◌∙◌, get_or, drop, length, add-one, append-nil}
use Rattle.std.proofs.lemmas.List.{drop_all, map-append}
use Rattle.std.specs.List.{cons_option}
use Rattle.std.specs.Option.{option_map}
use Rattle.asn_modules_names.proofs.lookup.Listing.{some_of}
use Rattle.asn_modules_names.specs.lookup.Homes.{Home, home_view}
use Rattle.asn_modules_names.specs.declared.lookup.home.Home as code
use Rattle.asn_modules_names.proofs.Founds.{drop_at, listed_more}
use Rattle.asn_modules_names.specs.Mentions.{Source}
use Rattle.asn_modules_grammar.specs.notation.View.{assignment_view}
use Rattle.asn_modules_grammar.specs.declared.notation.module.Assignment as code_assignment
use Rattle.asn_modules_rules.specs.values.ValueLinks as spec
use Rattle.asn_modules_rules.specs.values.ValueLinks.{link_as, link_view, links_in, links_of}
use Rattle.asn_modules_rules.specs.declared.values.links.ValueLink.{ValueLink}

-- Those among these assignments.
abbrev pub listed : List Source → ℕ → Home → List code_assignment.Assignment → List spec.ValueLink
listed ss k h xs = links_in ss k h (map assignment_view xs)

put_before : {A : Type 0} (o : Option A) (xs : List A) → cons_option o xs ≡ some_of o ++ xs
put_before None xs = refl
put_before (Some x) xs = refl

map_some : (o : Option ValueLink) → map link_view (cons_option o []) ≡ some_of (option_map link_view o)
map_some None = refl
map_some (Some x) = refl

pub one_listed : (all : List spec.ValueLink) (old new : List ValueLink) (o : Option ValueLink) (ss : List Source) (k : ℕ) (h : Home) (xs : List code_assignment.Assignment) (i : ℕ) (a : code_assignment.Assignment) → i < length xs → a ≡ get_or xs i a
    → all ≡ map link_view old ++ listed ss k h (drop i xs) → option_map link_view o ≡ link_as ss k h (assignment_view a) → new ≡ old ++ cons_option o [] → all ≡ map link_view new ++ listed ss k h (drop (i + 1) xs)
one_listed all old new o ss k h xs i a l e was is p =
    listed_more all (map link_view old) (map link_view new) (some_of (link_as ss k h (assignment_view a))) (listed ss k h (drop i xs)) (listed ss k h (drop (i + 1) xs)) was
    (ap (listed ss k h) (drop_at xs i a l e) ∙ put_before (link_as ss k h (assignment_view a)) (listed ss k h (drop (i + 1) xs)))
    (ap (map link_view) p ∙ map-append link_view old (cons_option o []) ∙ ap (λ l. map link_view old ++ l) (map_some o ∙ ap some_of is))

pub listed_end : (ss : List Source) (k : ℕ) (h : Home) (xs : List code_assignment.Assignment) (i : ℕ) → length xs ≤ i → listed ss k h (drop i xs) ≡ []
listed_end ss k h xs i l = ap (listed ss k h) (drop_all i xs l)

-- Those of all modules, from a number on.
abbrev pub listed_from : List Source → List code.Home → ℕ → List spec.ValueLink
listed_from ss hs i = links_of ss i (map home_view (drop i hs))

pub modules_added : (all before after : List spec.ValueLink) (ss : List Source) (hs : List code.Home) (i : ℕ) (h : code.Home) → i < length hs → h ≡ get_or hs i h → all ≡ before ++ listed_from ss hs i
    → after ≡ before ++ listed ss i (home_view h) h.parsed.now.assignments.items → all ≡ after ++ listed_from ss hs (i + 1)
modules_added all before after ss hs i h l e was a =
    listed_more all before after (listed ss i (home_view h) h.parsed.now.assignments.items) (listed_from ss hs i) (listed_from ss hs (i + 1)) was
    (ap (λ x. links_of ss i (map home_view x)) (drop_at hs i h l e)
    ∙ ap (λ k. listed ss i (home_view h) h.parsed.now.assignments.items ++ links_of ss k (map home_view (drop (i + 1) hs))) (sym (add-one i))) a

pub modules_end : (ss : List Source) (hs : List code.Home) (i : ℕ) → length hs ≤ i → listed_from ss hs i ≡ []
modules_end ss hs i h = ap (λ x. links_of ss i (map home_view x)) (drop_all i hs h)

pub none_put : (old : List ValueLink) (o : Option ValueLink) → o ≡ None → old ≡ old ++ cons_option o []
none_put old o e = sym (ap (λ x. old ++ cons_option x []) e ∙ append-nil old)

pub one_put : (old new : List ValueLink) (o : Option ValueLink) (x : ValueLink) → o ≡ Some x → new ≡ old ++ x ∷ [] → new ≡ old ++ cons_option o []
one_put old new o x e n = n ∙ ap (λ y. old ++ cons_option y []) (sym e)
