-- Tests of lists, entry by entry.
use Rattle.std.proofs.Common.{◌≡◌, ℕ, suc, ◌+◌, ◌<◌, ◌≤◌, List, [], ◌∷◌, ◌++◌, map, Bool, true, false, not, ◌&&◌, if◌then◌else◌, Option, Some, None, refl, sym, ap, subst, ◌∙◌, ◌↔◌, get_or, drop, length, String, string_bytes, is_none, nat_le}
use Rattle.std.proofs.lemmas.Bool.{le-leb}
use Rattle.std.specs.Str.{bytes_eq, chars}
use Rattle.std.specs.Global.{Global, Vec}
use Rattle.asn_module_text.specs.Modules.{IsModule, IsProper}
use Rattle.asn_model.specs.Shape.{SeqKind, is_item}
use Rattle.asn_module_text.proofs.Parsed.{module_proper, one-marker}
use Rattle.asn_module_text.proofs.PrintedAscii.{module_chars}
use Rattle.asn_module_text.proofs.Printing.{seen, elements_seen}
use Rattle.asn_notation.specs.Grammar.{ModuleParses}
use Rattle.asn_notation.proofs.OneNotation.{same_module}
use Rattle.asn_module_text.proofs.References.{drop_at, references-join}
use Rattle.asn_notation.specs.Names.{assigned_names, element_references, first_failing}
use Rattle.asn_notation.specs.Notation.{Notation, Element, Elements, Assignment, members, list_of, choice, marker, elements_of, is_marker, is_item_marker, any, at_most_one}
use Rattle.asn_notation.specs.Printed.{module_text}
use Rattle.asn_notation.specs.Proper.{is_proper_item, are_items_proper, has_one_marker, is_proper_notation, is_element_proper, are_elements_proper}
use Rattle.asn_notation.specs.View.{items_of, marked, component_view, components_view, assignment_view}
use Rattle.asn_notation.specs.declared.notation.Assignment as code
use Rattle.asn_notation.specs.declared.notation.Component.{Component}
use Rattle.asn_notation.specs.declared.notation.Components.{Components, out-Components}
use Rattle.asn_notation.proofs.ReadAgain.{module_again}
use Rattle.asn_notation.proofs.Viewing.{components_out}

pub passes : (b r : Bool) → b ≡ true → (b && r) ≡ r
passes b r e = rw e refl

pub fails : (b r : Bool) → b ≡ false → (b && r) ≡ false
fails b r e = rw e refl

-- The test of a list's entries from a place on, where the test of all is one of each.
pub entry_fails : {A : Type 0} (f : List A → Bool) (p : A → Bool) → ((x : A) (xs : List A) → f (x ∷ xs) ≡ (p x && f xs)) → (xs : List A) (i : ℕ) (x : A) → i < length xs → x ≡ get_or xs i x → p x ≡ false → f (drop i xs) ≡ false
entry_fails f p step xs i x h e n = ap f (drop_at xs i x h e) ∙ step x (drop (i + 1) xs) ∙ fails (p x) (f (drop (i + 1) xs)) n

pub entry_passes : {A : Type 0} (f : List A → Bool) (p : A → Bool) → ((x : A) (xs : List A) → f (x ∷ xs) ≡ (p x && f xs)) → (xs : List A) (i : ℕ) (x : A) → i < length xs → x ≡ get_or xs i x → p x ≡ true → f (drop i xs) ≡ f (drop (i + 1) xs)
entry_passes f p step xs i x h e y = ap f (drop_at xs i x h e) ∙ step x (drop (i + 1) xs) ∙ passes (p x) (f (drop (i + 1) xs)) y

assoc : (a b c : Bool) → (a && (b && c)) ≡ ((a && b) && c)
assoc true b c = refl
assoc false b c = refl

-- Items with and without others behind the extension marker.
items_join : (xs ys : List (Option (List ℕ))) → are_items_proper (xs ++ ys) ≡ (are_items_proper xs && are_items_proper ys)
items_join [] ys = refl
items_join (x ∷ xs) ys = ap (λ b. is_proper_item x && b) (items_join xs ys) ∙ assoc (is_proper_item x) (are_items_proper xs) (are_items_proper ys)

no_item_marker : (items : List (String Global)) → any is_item_marker (seen items) ≡ false
no_item_marker [] = refl
no_item_marker (i ∷ items) = no_item_marker items

one_item_marker : (items : List (String Global)) (ys : List (Option (List ℕ))) → at_most_one is_item_marker (seen items ++ ys) ≡ at_most_one is_item_marker ys
one_item_marker [] ys = refl
one_item_marker (i ∷ items) ys = one_item_marker items ys

one_item_marker_among : (items : List (String Global)) (added : Option (Vec (String Global))) → at_most_one is_item_marker (items_of items added) ≡ true
one_item_marker_among items None = one_item_marker items []
one_item_marker_among items (Some added) = one_item_marker items (None ∷ seen added.items) ∙ ap not (no_item_marker added.items)

pub items_proper : (items : List (String Global)) (added : Option (Vec (String Global)))
    → (at_most_one is_item_marker (items_of items added) && are_items_proper (items_of items added)) ≡ (are_items_proper (seen items) && are_items_proper (marked (λ i. Some (string_bytes i)) None added))
items_proper items added =
    passes (at_most_one is_item_marker (items_of items added)) (are_items_proper (items_of items added)) (one_item_marker_among items added) ∙ items_join (seen items) (marked (λ i. Some (string_bytes i)) None added)

-- The same of components.
elements_join : (limit level : ℕ) (allowed : Bool) (xs ys : List Element) → are_elements_proper limit level allowed (elements_of (xs ++ ys)) ≡ (are_elements_proper limit level allowed (elements_of xs) && are_elements_proper limit level allowed (elements_of ys))
elements_join limit level allowed [] ys = refl
elements_join limit level allowed (x ∷ xs) ys =
    ap (λ b. is_element_proper limit level allowed x && b) (elements_join limit level allowed xs ys) ∙ assoc (is_element_proper limit level allowed x) (are_elements_proper limit level allowed (elements_of xs)) (are_elements_proper limit level allowed (elements_of ys))

no_marker : (cs : List Component) → any is_marker (map component_view cs) ≡ false
no_marker [] = refl
no_marker (c ∷ cs) = no_marker cs

one_marker : (cs : List Component) (ys : List Element) → at_most_one is_marker (map component_view cs ++ ys) ≡ at_most_one is_marker ys
one_marker [] ys = refl
one_marker (c ∷ cs) ys = one_marker cs ys

one_marker_among : (root : List Component) (added : Option (Vec Component)) → at_most_one is_marker (map component_view root ++ marked component_view marker added) ≡ true
one_marker_among root None = one_marker root []
one_marker_among root (Some added) = one_marker root (marker ∷ map component_view added.items) ∙ ap not (no_marker added.items)

pub components_proper : (limit level : ℕ) (allowed : Bool) (c : Components)
    → (has_one_marker (elements_of (components_view c)) && are_elements_proper limit level allowed (elements_of (components_view c)))
    ≡ (are_elements_proper limit level allowed (elements_seen (out-Components c).root.items) && are_elements_proper limit level allowed (elements_of (marked component_view marker (out-Components c).added)))
components_proper limit level allowed c =
    let root = (out-Components c).root.items in
    let added = (out-Components c).added in
    passes (has_one_marker (elements_of (components_view c))) (are_elements_proper limit level allowed (elements_of (components_view c)))
    (one-marker (components_view c) ∙ ap (at_most_one is_marker) (components_out c) ∙ one_marker_among root added)
    ∙ ap (λ es. are_elements_proper limit level allowed (elements_of es)) (components_out c)
    ∙ elements_join limit level allowed (map component_view root) (marked component_view marker added)

-- A notation within the limit, by its parts.
pub members_arm : (limit level next : ℕ) (kind : SeqKind) (es : Elements) (n : Notation) (r : Bool) → level ≤ limit → next ≡ suc level → n ≡ members kind es → r ≡ (has_one_marker es && are_elements_proper limit next true es) → r ≡ is_proper_notation limit level n
members_arm limit level next kind es n r l s e h =
    h ∙ ap (λ k. has_one_marker es && are_elements_proper limit k true es) s ∙ sym (passes (nat_le level limit) (has_one_marker es && are_elements_proper limit (suc level) true es) (le-leb level limit l)) ∙ ap (is_proper_notation limit level) (sym e)

pub choice_arm : (limit level next : ℕ) (es : Elements) (n : Notation) (r : Bool) → level ≤ limit → next ≡ suc level → n ≡ choice es → r ≡ (has_one_marker es && are_elements_proper limit next false es) → r ≡ is_proper_notation limit level n
choice_arm limit level next es n r l s e h =
    h ∙ ap (λ k. has_one_marker es && are_elements_proper limit k false es) s ∙ sym (passes (nat_le level limit) (has_one_marker es && are_elements_proper limit (suc level) false es) (le-leb level limit l)) ∙ ap (is_proper_notation limit level) (sym e)

pub list_arm : (limit level next : ℕ) (kind : SeqKind) (m n : Notation) (r : Bool) → level ≤ limit → next ≡ suc level → n ≡ list_of kind m → r ≡ is_proper_notation limit next m → r ≡ is_proper_notation limit level n
list_arm limit level next kind m n r l s e h =
    h ∙ ap (λ k. is_proper_notation limit k m) s ∙ sym (passes (nat_le level limit) (is_proper_notation limit (suc level) m) (le-leb level limit l)) ∙ ap (is_proper_notation limit level) (sym e)

-- Whether all names of two lists pass.
pub none_join : (p : List ℕ → Bool) (xs ys : List (List ℕ)) → is_none (first_failing p (xs ++ ys)) ≡ (is_none (first_failing p xs) && is_none (first_failing p ys))
none_join p [] ys = refl
none_join p (m ∷ xs) ys =
    elim (p m) as (λ b. is_none (if b then first_failing p (xs ++ ys) else Some m) ≡ (is_none (if b then first_failing p xs else Some m) && is_none (first_failing p ys))) [ true ↦ none_join p xs ys | false ↦ refl ]

pub components_assigned : (p : List ℕ → Bool) (c : Components) → is_none (first_failing p (element_references (elements_of (components_view c))))
    ≡ (is_none (first_failing p (element_references (elements_seen (out-Components c).root.items))) && is_none (first_failing p (element_references (elements_of (marked component_view marker (out-Components c).added)))))
components_assigned p c =
    let root = map component_view (out-Components c).root.items in
    let added = marked component_view marker (out-Components c).added in
    ap (λ es. is_none (first_failing p (element_references (elements_of es)))) (components_out c) ∙ ap (λ ns. is_none (first_failing p ns)) (references-join root added)
    ∙ none_join p (element_references (elements_of root)) (element_references (elements_of added))

-- Whether a name is among those of assignments from a place on.
pub item_here : (xs : List code.Assignment) (i : ℕ) (a : code.Assignment) (name : List ℕ) → i < length xs → a ≡ get_or xs i a → bytes_eq name (string_bytes a.name) ≡ true → is_item (assigned_names (map assignment_view (drop i xs))) name ≡ true
item_here xs i a name h e t = ap (λ l. is_item (assigned_names (map assignment_view l)) name) (drop_at xs i a h e) ∙ ap (λ b. if b then true else is_item (assigned_names (map assignment_view (drop (i + 1) xs))) name) t

pub item_behind : (xs : List code.Assignment) (i : ℕ) (a : code.Assignment) (name : List ℕ) → i < length xs → a ≡ get_or xs i a → bytes_eq name (string_bytes a.name) ≡ false
    → is_item (assigned_names (map assignment_view (drop i xs))) name ≡ is_item (assigned_names (map assignment_view (drop (i + 1) xs))) name
item_behind xs i a name h e f = ap (λ l. is_item (assigned_names (map assignment_view l)) name) (drop_at xs i a h e) ∙ ap (λ b. if b then true else is_item (assigned_names (map assignment_view (drop (i + 1) xs))) name) f

-- What is proper is what a text stands for.
pub from_text : {limit : ℕ} {assignments : List Assignment} → (text : List ℕ) × IsModule limit text assignments → IsProper limit assignments
from_text m = record { proper = module_proper m.1.parses; distinct = m.1.distinct; assigned = m.1.assigned }

pub to_text : {limit : ℕ} {assignments : List Assignment} → IsProper limit assignments → (text : List ℕ) × IsModule limit text assignments
to_text {limit = limit} {assignments = assignments} p =
    (module_text assignments, record { parses = module_again limit (module_text assignments) assignments refl p.proper; distinct = p.distinct; assigned = p.assigned })

-- The printed text of what is proper, and no other's.
pub printed_module : (limit : ℕ) (assignments : List Assignment) (t : List ℕ) → IsProper limit assignments → t ≡ module_text assignments → IsModule limit (chars t) assignments
printed_module limit assignments t p e = record {
  parses = subst (λ x. ModuleParses limit x assignments) (sym (ap chars e ∙ module_chars limit assignments p.proper)) (module_again limit (module_text assignments) assignments refl p.proper);
  distinct = p.distinct;
  assigned = p.assigned;
}

pub printed_once : (limit : ℕ) (assignments other : List Assignment) (t : List ℕ) → IsProper limit assignments → IsProper limit other → t ≡ module_text assignments → (t ≡ module_text other) ↔ (assignments ≡ other)
printed_once limit assignments other t p q e =
    let read = module_again limit (module_text assignments) assignments refl p.proper in
    let again = module_again limit (module_text other) other refl q.proper in
    ((λ f. same_module read (subst (λ x. ModuleParses limit x other) (sym (sym e ∙ f)) again)), (λ f. e ∙ ap module_text f))
