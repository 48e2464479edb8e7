-- Entries that were listed so far.
use Rattle.std.proofs.Common.{◌≡◌, ◌≤◌, ℕ, suc, ◌+◌, ◌<◌, List, [], ◌∷◌, ◌++◌, map, Option, Some, None, refl, sym, ap, ◌∙◌, get_or, drop, length, add-one}
use Rattle.std.proofs.lemmas.List.{drop_all, drop_more}
use Rattle.std.specs.Borrow.{Bor}
use Rattle.std.specs.List.{cons_option}
use Rattle.std.specs.Option.{option_map}
use Rattle.asn_modules_grammar.specs.headers.Views as headers
use Rattle.asn_modules_grammar.specs.declared.headers.import.Import as code_import
use Rattle.asn_lexer.specs.declared.token.Token.{Token}
use Rattle.asn_modules_names.specs.lookup.Entries.{import_entries, imported_in, imports_in, imports_of, keys_in, keys_of, module_entries, name_as, numbered}
use Rattle.asn_modules_names.specs.lookup.Homes.{Home, bytes_in, home_of, home_view, homes, homes_in}
use Rattle.asn_modules_names.specs.lookup.Views.{entry_view, key_view, import_view}
use Rattle.asn_modules_names.specs.declared.lookup.home.Home as code
use Rattle.asn_modules_names.specs.declared.lookup.sort.Sort.{Sort}
use Rattle.asn_modules_names.specs.Assigned.{module_name}
use Rattle.asn_modules_names.specs.Mentions.{Source, source_view}
use Rattle.asn_modules_names.proofs.Founds.{drop_at, listed_more, pushed}
use Rattle.asn_modules_grammar.specs.notation.View.{assignment_view, module_view}
use Rattle.asn_modules_grammar.specs.declared.notation.module.Assignment as code_assignment
use Rattle.asn_modules_grammar.specs.declared.notation.module.Module as code_module
use Rattle.asn_modules_reader.specs.declared.text.source.Source as code_source

-- Modules of a text.
abbrev pub housed : Source → List code_module.Module → List Home
housed s ms = homes_in s (map module_view ms)

pub home_added : (all : List Home) (old new : List code.Home) (added : code.Home) (s : Source) (ms : List code_module.Module) (i : ℕ) (m : code_module.Module) → i < length ms → m ≡ get_or ms i m
    → all ≡ map home_view old ++ housed s (drop i ms) → home_view added ≡ home_of s (module_view m) → new ≡ old ++ added ∷ [] → all ≡ map home_view new ++ housed s (drop (i + 1) ms)
home_added all old new added s ms i m h e was v p =
    listed_more all (map home_view old) (map home_view new) (home_of s (module_view m) ∷ []) (housed s (drop i ms)) (housed s (drop (i + 1) ms)) was
    (ap (housed s) (drop_at ms i m h e)) (pushed home_view old new added (home_of s (module_view m)) p v)

pub housed_end : (s : Source) (ms : List code_module.Module) (i : ℕ) → length ms ≤ i → housed s (drop i ms) ≡ []
housed_end s ms i h = ap (housed s) (drop_all i ms h)

-- Texts.
abbrev pub homes_from : List code_source.Source → List Home
homes_from ss = homes (map source_view ss)

pub homes_added : (all before after : List Home) (ss : List code_source.Source) (i : ℕ) (s : code_source.Source) → i < length ss → s ≡ get_or ss i s → all ≡ before ++ homes_from (drop i ss) → after ≡ before ++ housed (source_view s) s.modules.items
    → all ≡ after ++ homes_from (drop (i + 1) ss)
homes_added all before after ss i s h e was a =
    listed_more all before after (housed (source_view s) s.modules.items) (homes_from (drop i ss)) (homes_from (drop (i + 1) ss)) was (ap homes_from (drop_at ss i s h e)) a

pub homes_end : (ss : List code_source.Source) (i : ℕ) → length ss ≤ i → homes_from (drop i ss) ≡ []
homes_end ss i h = ap homes_from (drop_all i ss h)

-- What an option puts before a list.
abbrev pub some_of : {A : Type 0} → Option A → List A
some_of o = cons_option o []

put_before : {A : Type 0} (o : Option A) (xs : List A) → cons_option o xs ≡ some_of o ++ xs
put_before None xs = refl
put_before (Some x) xs = refl

-- The names of modules, from a number on.
abbrev pub headed_from : List code.Home → ℕ → List (List ℕ × ℕ)
headed_from hs i = module_entries i (map home_view (drop i hs))

headed_step : (hs : List code.Home) (i : ℕ) (h : code.Home) → i < length hs → h ≡ get_or hs i h
    → headed_from hs i ≡ some_of (option_map (λ t. (bytes_in (home_view h) t, i)) (module_name (module_view h.parsed.now))) ++ headed_from hs (i + 1)
headed_step hs i h l e =
    ap (λ x. module_entries i (map home_view x)) (drop_at hs i h l e)
    ∙ put_before (option_map (λ t. (bytes_in (home_view h) t, i)) (module_name (module_view h.parsed.now))) (module_entries (suc i) (map home_view (drop (i + 1) hs)))
    ∙ ap (λ k. some_of (option_map (λ t. (bytes_in (home_view h) t, i)) (module_name (module_view h.parsed.now))) ++ module_entries k (map home_view (drop (i + 1) hs))) (sym (add-one i))

pub headed_passed : (all before : List (List ℕ × ℕ)) (hs : List code.Home) (i : ℕ) (h : code.Home) → i < length hs → h ≡ get_or hs i h → all ≡ before ++ headed_from hs i → module_name (module_view h.parsed.now) ≡ None
    → all ≡ before ++ headed_from hs (i + 1)
headed_passed all before hs i h l e was none =
    was ∙ ap (λ x. before ++ x) (headed_step hs i h l e ∙ ap (λ o. some_of (option_map (λ t. (bytes_in (home_view h) t, i)) o) ++ headed_from hs (i + 1)) none)

pub headed_added : (all : List (List ℕ × ℕ)) (old new : List (Bor (List ℕ) × ℕ)) (n : Bor (List ℕ)) (hs : List code.Home) (i : ℕ) (h : code.Home) (t : Token) → i < length hs → h ≡ get_or hs i h → all ≡ map entry_view old ++ headed_from hs i
    → module_name (module_view h.parsed.now) ≡ Some t → n.now ≡ bytes_in (home_view h) t → new ≡ old ++ (n, i) ∷ [] → all ≡ map entry_view new ++ headed_from hs (i + 1)
headed_added all old new n hs i h t l e was named b p =
    listed_more all (map entry_view old) (map entry_view new) ((bytes_in (home_view h) t, i) ∷ []) (headed_from hs i) (headed_from hs (i + 1)) was
    (headed_step hs i h l e ∙ ap (λ o. some_of (option_map (λ x. (bytes_in (home_view h) x, i)) o) ++ headed_from hs (i + 1)) named)
    (pushed entry_view old new (n, i) (bytes_in (home_view h) t, i) p (ap (λ x. (x, i)) b))

pub headed_end : (hs : List code.Home) (i : ℕ) → length hs ≤ i → headed_from hs i ≡ []
headed_end hs i h = ap (λ x. module_entries i (map home_view x)) (drop_all i hs h)

-- The keys of what a module assigns.
abbrev pub keyed : Sort → ℕ → Home → List code_assignment.Assignment → List (ℕ × List ℕ)
keyed sort k h xs = keys_in sort k h (map assignment_view xs)

keyed_step : (sort : Sort) (k : ℕ) (h : Home) (xs : List code_assignment.Assignment) (i : ℕ) (a : code_assignment.Assignment) → i < length xs → a ≡ get_or xs i a
    → keyed sort k h (drop i xs) ≡ some_of (option_map (λ t. (k, bytes_in h t)) (name_as sort (assignment_view a))) ++ keyed sort k h (drop (i + 1) xs)
keyed_step sort k h xs i a l e = ap (keyed sort k h) (drop_at xs i a l e) ∙ put_before (option_map (λ t. (k, bytes_in h t)) (name_as sort (assignment_view a))) (keyed sort k h (drop (i + 1) xs))

pub keyed_passed : (all before : List (ℕ × List ℕ)) (sort : Sort) (k : ℕ) (h : Home) (xs : List code_assignment.Assignment) (i : ℕ) (a : code_assignment.Assignment) → i < length xs → a ≡ get_or xs i a → all ≡ before ++ keyed sort k h (drop i xs)
    → name_as sort (assignment_view a) ≡ None → all ≡ before ++ keyed sort k h (drop (i + 1) xs)
keyed_passed all before sort k h xs i a l e was none =
    was ∙ ap (λ x. before ++ x) (keyed_step sort k h xs i a l e ∙ ap (λ o. some_of (option_map (λ t. (k, bytes_in h t)) o) ++ keyed sort k h (drop (i + 1) xs)) none)

pub keyed_added : (all : List (ℕ × List ℕ)) (old new : List (ℕ × Bor (List ℕ))) (n : Bor (List ℕ)) (sort : Sort) (k : ℕ) (h : Home) (t : Token) (xs : List code_assignment.Assignment) (i : ℕ) (a : code_assignment.Assignment) → i < length xs → a ≡ get_or xs i a
    → all ≡ map key_view old ++ keyed sort k h (drop i xs) → name_as sort (assignment_view a) ≡ Some t → n.now ≡ bytes_in h t → new ≡ old ++ (k, n) ∷ [] → all ≡ map key_view new ++ keyed sort k h (drop (i + 1) xs)
keyed_added all old new n sort k h t xs i a l e was named b p =
    listed_more all (map key_view old) (map key_view new) ((k, bytes_in h t) ∷ []) (keyed sort k h (drop i xs)) (keyed sort k h (drop (i + 1) xs)) was
    (keyed_step sort k h xs i a l e ∙ ap (λ o. some_of (option_map (λ x. (k, bytes_in h x)) o) ++ keyed sort k h (drop (i + 1) xs)) named)
    (pushed key_view old new (k, n) (k, bytes_in h t) p (ap (λ x. (k, x)) b))

pub keyed_end : (sort : Sort) (k : ℕ) (h : Home) (xs : List code_assignment.Assignment) (i : ℕ) → length xs ≤ i → keyed sort k h (drop i xs) ≡ []
keyed_end sort k h xs i l = ap (keyed sort k h) (drop_all i xs l)

-- Those of all modules, from a number on.
abbrev pub keys_from : Sort → List code.Home → ℕ → List (ℕ × List ℕ)
keys_from sort hs i = keys_of sort i (map home_view (drop i hs))

pub keys_added : (all before after : List (ℕ × List ℕ)) (sort : Sort) (hs : List code.Home) (i : ℕ) (h : code.Home) → i < length hs → h ≡ get_or hs i h → all ≡ before ++ keys_from sort hs i
    → after ≡ before ++ keyed sort i (home_view h) h.parsed.now.assignments.items → all ≡ after ++ keys_from sort hs (i + 1)
keys_added all before after sort hs i h l e was a =
    listed_more all before after (keyed sort i (home_view h) h.parsed.now.assignments.items) (keys_from sort hs i) (keys_from sort hs (i + 1)) was
    (ap (λ x. keys_of sort i (map home_view x)) (drop_at hs i h l e)
    ∙ ap (λ k. keyed sort i (home_view h) h.parsed.now.assignments.items ++ keys_of sort k (map home_view (drop (i + 1) hs))) (sym (add-one i))) a

pub keys_end : (sort : Sort) (hs : List code.Home) (i : ℕ) → length hs ≤ i → keys_from sort hs i ≡ []
keys_end sort hs i h = ap (λ x. keys_of sort i (map home_view x)) (drop_all i hs h)

-- Numbers, from one on.
pub number_added : {A : Type 0} (all before after : List (A × ℕ)) (xs : List A) (i : ℕ) (d : A) → i < length xs → all ≡ before ++ numbered i (drop i xs) → after ≡ before ++ (get_or xs i d, i) ∷ [] → all ≡ after ++ numbered (i + 1) (drop (i + 1) xs)
number_added all before after xs i d l was a =
    listed_more all before after ((get_or xs i d, i) ∷ []) (numbered i (drop i xs)) (numbered (i + 1) (drop (i + 1) xs)) was
    (ap (numbered i) (drop_more xs i d l) ∙ ap (λ k. (get_or xs i d, i) ∷ numbered k (drop (i + 1) xs)) (sym (add-one i))) a

pub numbers_end : {A : Type 0} (xs : List A) (i : ℕ) → length xs ≤ i → numbered i (drop i xs) ≡ []
numbers_end xs i h = ap (numbered i) (drop_all i xs h)

-- Imported names.
pub name_added : (all : List ((ℕ × List ℕ) × List ℕ)) (old new : List ((ℕ × Bor (List ℕ)) × Bor (List ℕ))) (n from : Bor (List ℕ)) (k : ℕ) (h : Home) (home : Token) (ts : List Token) (i : ℕ) (d : Token) → i < length ts
    → all ≡ map import_view old ++ imported_in k h home (drop i ts) → n.now ≡ bytes_in h (get_or ts i d) → from.now ≡ bytes_in h home → new ≡ old ++ ((k, n), from) ∷ [] → all ≡ map import_view new ++ imported_in k h home (drop (i + 1) ts)
name_added all old new n from k h home ts i d l was b f p =
    let t = get_or ts i d in
    listed_more all (map import_view old) (map import_view new) (((k, bytes_in h t), bytes_in h home) ∷ []) (imported_in k h home (drop i ts)) (imported_in k h home (drop (i + 1) ts)) was
    (ap (imported_in k h home) (drop_more ts i d l))
    (pushed import_view old new ((k, n), from) ((k, bytes_in h t), bytes_in h home) p (ap (λ x. ((k, x), from.now)) b ∙ ap (λ x. ((k, bytes_in h t), x)) f))

pub names_end : (k : ℕ) (h : Home) (home : Token) (ts : List Token) (i : ℕ) → length ts ≤ i → imported_in k h home (drop i ts) ≡ []
names_end k h home ts i l = ap (imported_in k h home) (drop_all i ts l)

-- The imports of a module.
abbrev pub imported_by : ℕ → Home → List code_import.Import → List ((ℕ × List ℕ) × List ℕ)
imported_by k h is = imports_in k h (map headers.import_view is)

pub import_added : (all before after : List ((ℕ × List ℕ) × List ℕ)) (k : ℕ) (h : Home) (is : List code_import.Import) (i : ℕ) (x : code_import.Import) → i < length is → x ≡ get_or is i x → all ≡ before ++ imported_by k h (drop i is)
    → after ≡ before ++ imported_in k h x.module x.names.items → all ≡ after ++ imported_by k h (drop (i + 1) is)
import_added all before after k h is i x l e was a =
    listed_more all before after (imported_in k h x.module x.names.items) (imported_by k h (drop i is)) (imported_by k h (drop (i + 1) is)) was (ap (imported_by k h) (drop_at is i x l e)) a

pub imports_end : (k : ℕ) (h : Home) (is : List code_import.Import) (i : ℕ) → length is ≤ i → imported_by k h (drop i is) ≡ []
imports_end k h is i l = ap (imported_by k h) (drop_all i is l)

-- Those of all modules, from a number on.
abbrev pub entries_from : List code.Home → ℕ → List ((ℕ × List ℕ) × List ℕ)
entries_from hs i = import_entries i (map home_view (drop i hs))

pub entries_added : (all before after : List ((ℕ × List ℕ) × List ℕ)) (hs : List code.Home) (i : ℕ) (h : code.Home) → i < length hs → h ≡ get_or hs i h → all ≡ before ++ entries_from hs i
    → after ≡ before ++ imports_in i (home_view h) (imports_of (option_map headers.header_view h.parsed.now.header)) → all ≡ after ++ entries_from hs (i + 1)
entries_added all before after hs i h l e was a =
    listed_more all before after (imports_in i (home_view h) (imports_of (option_map headers.header_view h.parsed.now.header))) (entries_from hs i) (entries_from hs (i + 1)) was
    (ap (λ x. import_entries i (map home_view x)) (drop_at hs i h l e)
    ∙ ap (λ k. imports_in i (home_view h) (imports_of (option_map headers.header_view h.parsed.now.header)) ++ import_entries k (map home_view (drop (i + 1) hs))) (sym (add-one i))) a

pub entries_end : (hs : List code.Home) (i : ℕ) → length hs ≤ i → entries_from hs i ≡ []
entries_end hs i h = ap (λ x. import_entries i (map home_view x)) (drop_all i hs h)
