-- JSON values made of slots.
use Rattle.std.proofs.Common.{◌≡◌, ℕ, zero, suc, List, [], ◌∷◌, ◌++◌, map, drop, get_or, length, Option, Some, None, ap, refl, sym, ◌∙◌, Vec, Global}
use Rattle.std.specs.Prelude.{option_map}
use Rattle.std.proofs.lemmas.List.{map_push, length-map}
use Rattle.serde_json.specs.Data.{Data, Items, Members, put}
use Rattle.serde_json.specs.View.{items_of}
use Rattle.jer_values.specs.Views.{data_of, members_view}
use Rattle.jer_values.specs.declared.name.JerName.{JerName}
use Rattle.jer_values.specs.declared.value.JerValue.{JerValue}
use Rattle.jer_values.specs.declared.value.JerValue.TheVariants as value
use Rattle.jer_values.proofs.Layers.{data_list, data_members}
use Rattle.asn_slots.specs.Slots.{present_of, first_of}
use Rattle.asn_slots.specs.Trees.{trees_of}
use Rattle.asn_slots.proofs.Trees.{first_same, present_same}
use Rattle.asn_traits.specs.Canonical.{jer_data, jer_items, jer_members}
use Rattle.asn_traits.specs.Tree.{Tree}
use Rattle.asn_coding.specs.Writing.{Frame, present_values, named, tail_names, head_name, as_list, as_members, as_choice}
use Rattle.asn_coding.proofs.NameRows.{head-drop}
use Rattle.jer_rules.specs.Holding.{members_onto, one_member}

-- One JSON value stands in a tree.
pub json_same : {d e : Data} → Tree.json d ≡ Tree.json e → d ≡ e
json_same e = cc e

head_name-drop : (names : List (List ℕ)) (k : ℕ) → head_name (drop k (tail_names names)) ≡ head_name (drop (suc k) names)
head_name-drop [] zero = refl
head_name-drop [] (suc k) = refl
head_name-drop (n ∷ names) k = refl

-- An absent last slot adds no member.
pub members_onto-none : (ss : List (Option Data)) (names : List (List ℕ)) (ms : Members) → members_onto (ss ++ None ∷ []) names ms ≡ members_onto ss names ms
members_onto-none [] names ms = refl
members_onto-none (None ∷ ss) names ms = members_onto-none ss (tail_names names) ms
members_onto-none (Some d ∷ ss) names ms = ap (put (head_name names) d) (members_onto-none ss (tail_names names) ms)

-- A present last slot is the first member that is put.
pub members_onto-some : (ss : List (Option Data)) (d : Data) (names : List (List ℕ)) (ms : Members) → members_onto (ss ++ Some d ∷ []) names ms ≡ members_onto ss names (put (head_name (drop (length ss) names)) d ms)
members_onto-some [] d names ms = refl
members_onto-some (None ∷ ss) d names ms = members_onto-some ss d (tail_names names) ms ∙ ap (λ n. members_onto ss (tail_names names) (put n d ms)) (head_name-drop names (length ss))
members_onto-some (Some x ∷ ss) d names ms =
    ap (put (head_name names) x) (members_onto-some ss d (tail_names names) ms ∙ ap (λ n. members_onto ss (tail_names names) (put n d ms)) (head_name-drop names (length ss)))

-- A last slot that is put as a member leaves the members that all slots make.
pub onto-inserted : (old new : List (Option JerValue)) (v : JerValue) (names : List (List ℕ)) (ms inserted : Members) (name : List ℕ) (k : ℕ) → old ≡ new ++ Some v ∷ [] → name ≡ get_or names k [] → k ≡ length new
    → inserted ≡ put name (data_of v) ms → members_onto (trees_of data_of new) names inserted ≡ members_onto (trees_of data_of old) names ms
onto-inserted old new v names ms inserted name k e named at is =
    let here : name ≡ head_name (drop (length (trees_of data_of new)) names) = named ∙ sym (head-drop names k) ∙ ap (λ n. head_name (drop n names)) (at ∙ sym (length-map new (option_map data_of))) in
    ap (members_onto (trees_of data_of new) names) (is ∙ ap (λ n. put n (data_of v) ms) here)
    ∙ sym (members_onto-some (trees_of data_of new) (data_of v) names ms)
    ∙ ap (λ ss. members_onto ss names ms) (sym (ap (trees_of data_of) e ∙ map_push (option_map data_of) new (Some v)))

-- A last slot that is absent leaves them too.
pub onto-passed : (old new : List (Option JerValue)) (names : List (List ℕ)) (ms : Members) → old ≡ new ++ None ∷ [] → members_onto (trees_of data_of new) names ms ≡ members_onto (trees_of data_of old) names ms
onto-passed old new names ms e =
    sym (members_onto-none (trees_of data_of new) names ms) ∙ ap (λ ss. members_onto ss names ms) (sym (ap (trees_of data_of) e ∙ map_push (option_map data_of) new None))

-- The items of the present values.
pub present-items : (f : Frame) → items_of (map jer_data (present_of f)) ≡ jer_items (present_values f)
present-items [] = refl
present-items (None ∷ ss) = present-items ss
present-items (Some v ∷ ss) = ap (Items.item (jer_data v)) (present-items ss)

-- An array of the present slots is the list that a frame is.
pub list_built : (items : Vec JerValue Global) (slots : List (Option JerValue)) → items.items ≡ present_of slots → (f : Frame) → trees_of jer_data f ≡ trees_of data_of slots
    → option_map data_of (Some (value.List items)) ≡ option_map jer_data (as_list f)
list_built items slots e f h = ap Some (data_list items ∙ ap Data.array (ap items_of (ap (map data_of) e ∙ sym (present_same jer_data data_of f slots h)) ∙ present-items f))

named-members : (f : Frame) (names : List (List ℕ)) → members_onto (trees_of jer_data f) names Members.no_members ≡ jer_members (named f names)
named-members [] names = refl
named-members (None ∷ ss) names = named-members ss (tail_names names)
named-members (Some v ∷ ss) names = ap (put (head_name names) (jer_data v)) (named-members ss (tail_names names))

-- An object of the named slots is the members that a frame is.
pub members_built : (members : Vec (JerName × JerValue) Global) (slots : List (Option JerValue)) (names : List (List ℕ)) → members_view members.items ≡ members_onto (trees_of data_of slots) names Members.no_members
    → (f : Frame) → trees_of jer_data f ≡ trees_of data_of slots → option_map data_of (Some (value.Members members)) ≡ option_map jer_data (as_members names f)
members_built members slots names e f h = ap Some (data_members members ∙ ap Data.object (e ∙ (ap (λ ss. members_onto ss names Members.no_members) (sym h) ∙ named-members f names)))

chosen : (id : List ℕ) (f : Frame) → option_map (one_member id) (option_map jer_data (first_of f)) ≡ option_map jer_data (as_choice id f)
chosen id [] = refl
chosen id (None ∷ ss) = refl
chosen id (Some v ∷ ss) = refl

-- A choice of the first slot, which is absent where that is, is the choice that a frame is.
pub choice_built : (c : Option JerValue) (slots : List (Option JerValue)) (id : List ℕ) → option_map data_of c ≡ option_map (one_member id) (option_map data_of (first_of slots))
    → (f : Frame) → trees_of jer_data f ≡ trees_of data_of slots → option_map data_of c ≡ option_map jer_data (as_choice id f)
choice_built c slots id e f h = e ∙ ap (option_map (one_member id)) (sym (first_same jer_data data_of f slots h)) ∙ chosen id f
