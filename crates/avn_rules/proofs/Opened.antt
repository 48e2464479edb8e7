-- Slots that are taken and put.
use Rattle.std.proofs.Common.{◌≡◌, ℕ, List, [], ◌∷◌, ◌++◌, map, drop, length, Option, Some, None, Bool, true, false, is_some, Result, Ok, Err, refl, sym, ap, subst, ◌∙◌}
use Rattle.std.specs.Prelude.{option_map, IfSome, MatchOption, OnErr, OnOk}
use Rattle.std.specs.List.{All, slice_get}
use Rattle.std.proofs.lemmas.List.{map-append, length-map}
use Rattle.std.proofs.lemmas.List.Elements.{All-append, All-cons, All-head, All-nil, All-tail, All-rest}
use Rattle.asn_fault.specs.Failure.{Failure, failure_of}
use Rattle.asn_fault.specs.declared.decode.DecodeError.{DecodeError}
use Rattle.asn_model.specs.declared.leaves.LeafKind.{LeafKind}
use Rattle.asn_model.specs.declared.leaves.OwnedLeaf.{OwnedLeaf}
use Rattle.asn_slots.specs.Pending.{TakesAbsent as TakesAbsentSlot}
use Rattle.asn_slots.proofs.Trees.{dropped}
use Rattle.asn_slots.specs.Trees.{trees_of}
use Rattle.asn_coding.specs.Answer.{AtRoot, Refuses, RefusesLeaf}
use Rattle.asn_traits.specs.FailsWith.{FailsWith}
use Rattle.asn_traits.specs.Leaf.{IsFailureOf, LeafFailure, members_mismatch}
use Rattle.asn_traits.specs.Notation.{Notation}
use Rattle.asn_coding.specs.Opening.{HasMembers, IsChoice, IsList, IsFirstRepeated, IsTaken, OpensChoice, OpensList, OpensMembers, RepeatsName, TakesLeaf, list_shape}
use Rattle.asn_traits.specs.Shape.{Shape, SeqKind, Fields, FieldAdditions, Alternatives, AlternativeAdditions, place_named}
use Rattle.asn_traits.specs.Tree.{Slot, Tree, head_slot, as_choice, as_list, as_members, field_slot, same_identifier}
use Rattle.asn_coding.proofs.LeafValues.{taken as is_taken}
use Rattle.asn_coding.specs.Tables.{ListsFields}
use Rattle.asn_coding.specs.declared.opening.Opened.TheVariants.{Members}
use Rattle.asn_names.specs.Rows.{NameRow, row_names}
use Rattle.asn_coding.proofs.Refusing.{no_choice, no_list, no_members}
use Rattle.asn_coding.proofs.Steps.{refuses_by}
use Rattle.avn_grammar.specs.Tree.{Tree as AvnTree}
use Rattle.avn_nodes.specs.Preorder.{tree_at}
use Rattle.avn_rules.specs.LeafAnswer.{LeafAnswer}
use Rattle.avn_rules.specs.Parts.{AreFieldSlots, list_failure}
use Rattle.avn_rules.specs.Pending.{DecoderView, IsPresent, IsSlot, TakesNode, avn_or_null, pending_of, value_at}
use Rattle.avn_rules.proofs.Taken.{list_below, members_below, payload_below, choice_above}
use Rattle.avn_rules.proofs.Walks.{members_parts, none_there}
use Rattle.asn_model.specs.declared.words.TheConstants.{AVN_CHOICE}

-- Nodes are slots.
pub items_held : (root : AvnTree) (items : List ℕ) → All (IsPresent root) items → All (IsSlot root) (map Some items)
items_held root [] h = let P : Option ℕ → Type 0 = IsSlot root in All-nil P
items_held root (i ∷ items) h =
    let P : Option ℕ → Type 0 = IsSlot root in
    let Q : ℕ → Type 0 = IsPresent root in
    All-cons P (Some i) (map Some items) (All-head Q i items h) (items_held root items (All-tail Q i items h))

pub slots_held : (root : AvnTree) (front slots now : List (Option ℕ)) → now ≡ front ++ slots → All (IsSlot root) front → All (IsSlot root) slots → All (IsSlot root) now
slots_held root front slots now e h k = let P : Option ℕ → Type 0 = IsSlot root in subst (All P) (sym e) (All-append P front slots h k)

pub rest_held : (root : AvnTree) (slot : Option ℕ) (slots now : List (Option ℕ)) → slots ≡ slot ∷ now → All (IsSlot root) slots → All (IsSlot root) now
rest_held root slot slots now e h = let P : Option ℕ → Type 0 = IsSlot root in All-rest P slot now slots e h

-- An absent slot that is taken, or a slot that stays, leaves slots.
pub absent_held : (root : AvnTree) (before after : List (Option ℕ)) (o : Option Bool) → TakesAbsentSlot before o after → All (IsSlot root) before → All (IsSlot root) after
absent_held root before after (Some true) t h = rest_held root None before after t h
absent_held root before after (Some false) t h = let P : Option ℕ → Type 0 = IsSlot root in subst (All P) (sym t.3) h
absent_held root before after None t h = let P : Option ℕ → Type 0 = IsSlot root in subst (All P) (sym t.1) h

-- Whether a slot is taken or none is left, slots stay.
pub taken_held : (root : AvnTree) (before after : List (Option ℕ)) (o : Option (Option ℕ)) → MatchOption o ((before ≡ []) × (after ≡ before)) (λ slot. before ≡ slot ∷ after) → All (IsSlot root) before → All (IsSlot root) after
taken_held root before after (Some slot) t h = rest_held root slot before after t h
taken_held root before after None t h = let P : Option ℕ → Type 0 = IsSlot root in subst (All P) (sym t.1) h

-- Whether nodes are put or memory ran out, slots stay.
pub put_held : {E : Type 0} (root : AvnTree) (items : List ℕ) (before after : List (Option ℕ)) (r : Result (Unit {0}) E) → OnOk r (after ≡ map Some items ++ before) → OnErr r (after ≡ before) → All (IsPresent root) items → All (IsSlot root) before → All (IsSlot root) after
put_held root items before after (Ok u) put kept h k = slots_held root (map Some items) before after put (items_held root items h) k
put_held root items before after (Err e) put kept h k = let P : Option ℕ → Type 0 = IsSlot root in subst (All P) (sym kept) k

-- What a decoder of the table and the slots has taken, by its view.
module _ (before : DecoderView) (table : AvnTree) (slots : List (Option ℕ)) (view : ◌≡◌ {A = DecoderView} (record { root = table; nodes = slots }) before) where
  pub takes_node : (i : ℕ) (later : List (Option ℕ)) → slots ≡ Some i ∷ later → All (IsSlot table) slots → TakesNode before (record { root = table; nodes = later }) i
  takes_node i later e h =
      let P : Option ℕ → Type 0 = IsSlot table in
      let held : IsPresent table i = All-head P (Some i) later (subst (All P) e h) in
      subst (λ d. TakesNode d (record { root = table; nodes = later }) i) view (refl, held, ap (trees_of (value_at table)) e)

  -- What is seen at the node of the first slot, if anything, is a value without parts that is taken.
  pub leaf_there : {A : Type 0} (k : LeafKind) (leaf : A → OwnedLeaf) (i : ℕ) (later : List (Option ℕ)) (o : Option A) → slots ≡ Some i ∷ later → IfSome o (λ x. IsTaken Notation.avn k (value_at table i) (leaf x))
      → IfSome o (λ x. (rest : List Slot) × TakesLeaf Notation.avn k (pending_of before) (Ok (leaf x)) rest)
  leaf_there k leaf i later (Some x) e is =
      subst (λ d. (rest : List Slot) × TakesLeaf Notation.avn k (pending_of d) (Ok (leaf x)) rest) view (trees_of (value_at table) later, is_taken (value_at table i) (leaf x) _ _ (ap (trees_of (value_at table)) e) is)
  leaf_there k leaf i later None e is = tt

  -- Where a slot is taken, the first tree is gone.
  pub passes : (o : Option (Option ℕ)) (later : List (Option ℕ)) → MatchOption o ((slots ≡ []) × (later ≡ slots)) (λ slot. slots ≡ slot ∷ later)
      → pending_of (record { root = table; nodes = later }) ≡ drop 1 (pending_of before)
  passes o later h = subst (λ d. pending_of (record { root = table; nodes = later }) ≡ drop 1 (pending_of d)) view (dropped (value_at table) o slots later h)

  pub head_absent : (later : List (Option ℕ)) → slots ≡ None ∷ later → head_slot (pending_of before) ≡ None
  head_absent later e = subst (λ d. head_slot (pending_of d) ≡ None) view (ap (λ l. head_slot (trees_of (value_at table) l)) e)

  pub no_head : slots ≡ [] → head_slot (pending_of before) ≡ None
  no_head e = subst (λ d. head_slot (pending_of d) ≡ None) view (ap (λ l. head_slot (trees_of (value_at table) l)) e)

-- Slots that are put stand before those that were pending.
put_before : (taken after : DecoderView) (slots : List (Option ℕ)) → after ≡ record taken { nodes = slots ++ taken.nodes } → pending_of after ≡ trees_of (value_at taken.root) slots ++ pending_of taken
put_before taken after slots e = ap pending_of e ∙ map-append (option_map (value_at taken.root)) slots taken.nodes

pub list_opened : (kind : SeqKind) (before taken after : DecoderView) (node count : ℕ) (items : List ℕ) → TakesNode before taken node → as_list Notation.avn (value_at taken.root node) ≡ Some (trees_of (value_at taken.root) (map Some items)) → after ≡ record taken { nodes = map Some items ++ taken.nodes } → count ≡ length items
    → OpensList Notation.avn kind (pending_of before) (Ok count) (pending_of after)
list_opened kind before taken after node count items k list e long =
    let see = value_at taken.root in
    let slots = trees_of see (map Some items) in
    (Some (see node), slots, pending_of taken, k.2, put_before taken after (map Some items) e, length-map (map Some items) (option_map see) ∙ length-map items Some ∙ sym long, list_below (avn_or_null (tree_at taken.root node)) slots list, IsList.is_list (see node) slots list)

-- A tree that is no list decodes to no list of either kind.
no_list_of : (kind : SeqKind) (s : Shape) (t : Tree) (before after : List Slot) (e : Failure) → before ≡ Some t ∷ after → as_list Notation.avn t ≡ None → RefusesLeaf Notation.avn t (list_failure kind) e
    → Refuses Notation.avn (FailsWith Notation.avn (list_shape kind s) (head_slot before)) e
no_list_of SeqKind.sequence s t before after e was is tells = no_list s t before after e was is tells
no_list_of SeqKind.set s t before after e was is tells =
    refuses_by {P = AtRoot (IsFailureOf Notation.avn t (list_failure SeqKind.set))} {Q = FailsWith Notation.avn (Shape.set_of s) (head_slot before)} (λ p w h. rw (was, h.0) (FailsWith.fails_no_set s t w is h.1)) e tells

pub list_refused : (kind : SeqKind) (before taken : DecoderView) (node : ℕ) (failure : Failure) → TakesNode before taken node → is_some (as_list Notation.avn (value_at taken.root node)) ≡ false → RefusesLeaf Notation.avn (value_at taken.root node) (list_failure kind) failure
    → (s : Shape) → Refuses Notation.avn (FailsWith Notation.avn (list_shape kind s) (head_slot (pending_of before))) failure
list_refused kind before taken node failure k none tells s = no_list_of kind s (value_at taken.root node) (pending_of before) (pending_of taken) failure k.2 (none_there (as_list Notation.avn (value_at taken.root node)) none) tells

pub members_opened : (kind : SeqKind) (before taken after : DecoderView) (node : ℕ) (rows : List NameRow) (slots : List (Option ℕ)) → TakesNode before taken node → is_some (as_members Notation.avn (value_at taken.root node)) ≡ true → AreFieldSlots taken.root node rows slots
    → after ≡ record taken { nodes = slots ++ taken.nodes } → OpensMembers Notation.avn kind rows (pending_of before) (Ok Members) (pending_of after)
members_opened kind before taken after node rows slots k some found e =
    let see = value_at taken.root in
    let names = row_names rows in
    let p = members_parts (tree_at taken.root node) some in
    let look = field_slot p.0 in (
      Some (see node),
      map look names,
      pending_of taken,
      k.2,
      put_before taken after slots e ∙ ap (λ l. l ++ pending_of taken) (found.at look p.2),
      length-map names look ∙ length-map rows (λ (r : NameRow). r.name),
      members_below (avn_or_null (tree_at taken.root node)) p.0 names p.2,
      HasMembers.has_members names (see node) look p.2 found.once,
    )

-- A name of the rows that is repeated.
pub members_repeated : (before taken : DecoderView) (node : ℕ) (rows : List NameRow) (place : ℕ) → TakesNode before taken node → is_some (as_members Notation.avn (value_at taken.root node)) ≡ true
    → ((row : NameRow) × (slice_get rows place ≡ Some row) × IsFirstRepeated Notation.avn (value_at taken.root node) rows row) → RepeatsName Notation.avn rows (pending_of before) place
members_repeated before taken node rows place k some (row, at, first) =
    let p = members_parts (tree_at taken.root node) some in
    record { tree = value_at taken.root node; rest = pending_of taken; pending = k.2; look = field_slot p.0; members = p.2; row = row; at = at; first = first }

pub members_refused : (kind : SeqKind) (before taken : DecoderView) (node : ℕ) (rows : List NameRow) (failure : Failure) → TakesNode before taken node → is_some (as_members Notation.avn (value_at taken.root node)) ≡ false → RefusesLeaf Notation.avn (value_at taken.root node) (members_mismatch Notation.avn kind) failure
    → (fs : Fields) (added : FieldAdditions) → ListsFields rows fs added → Refuses Notation.avn (FailsWith Notation.avn (Shape.seq kind fs added) (head_slot (pending_of before))) failure
members_refused kind before taken node rows failure k none tells fs added listed =
    no_members kind fs added (value_at taken.root node) (pending_of before) (pending_of taken) failure k.2 (none_there (as_members Notation.avn (value_at taken.root node)) none) tells

pub choice_opened : (before taken after : DecoderView) (node payload place : ℕ) (names : List (List ℕ)) (name : List ℕ) → TakesNode before taken node → as_choice Notation.avn (value_at taken.root node) ≡ Some (Some (name, value_at taken.root payload))
    → place_named same_identifier names name ≡ Some place → after ≡ record taken { nodes = Some payload ∷ taken.nodes } → OpensChoice Notation.avn names (pending_of before) (Ok (Some place)) (pending_of after)
choice_opened before taken after node payload place names name k is named e =
    let see = value_at taken.root in
    let t = avn_or_null (tree_at taken.root node) in
    (Some (see node), Some (see payload), pending_of taken, k.2, ap pending_of e, payload_below t name (see payload) is, IsChoice.is_choice names (see node) (see payload) name place is named)

pub choice_unnamed : (before taken after : DecoderView) (node payload : ℕ) (names : List (List ℕ)) (name : List ℕ) → TakesNode before taken node → as_choice Notation.avn (value_at taken.root node) ≡ Some (Some (name, value_at taken.root payload))
    → place_named same_identifier names name ≡ None → after ≡ record taken { nodes = None ∷ taken.nodes } → OpensChoice Notation.avn names (pending_of before) (Ok None) (pending_of after)
choice_unnamed before taken after node payload names name k is named e =
    let see = value_at taken.root in
    let t = avn_or_null (tree_at taken.root node) in
    (Some (see node), None, pending_of taken, k.2, ap pending_of e, choice_above t name (see payload) is, IsChoice.is_unnamed names (see node) (see payload) name is named)

pub choice_refused : (before taken : DecoderView) (node : ℕ) (failure : Failure) → TakesNode before taken node → as_choice Notation.avn (value_at taken.root node) ≡ None → RefusesLeaf Notation.avn (value_at taken.root node) (LeafFailure.mismatch AVN_CHOICE.now) failure
    → (alts : Alternatives) (added : AlternativeAdditions) → Refuses Notation.avn (FailsWith Notation.avn (Shape.choice alts added) (head_slot (pending_of before))) failure
choice_refused before taken node failure k none tells alts added = no_choice alts added (value_at taken.root node) (pending_of before) (pending_of taken) failure k.2 none tells

-- A value without parts that is taken.
pub leaf_taken : (k : LeafKind) (before taken : DecoderView) (node : ℕ) (r : Result OwnedLeaf DecodeError) → TakesNode before taken node → LeafAnswer k (value_at taken.root node) r → TakesLeaf Notation.avn k (pending_of before) r (pending_of taken)
leaf_taken k before taken node (Ok x) t h = is_taken _ _ _ _ t.2 h
leaf_taken k before taken node (Err e) t h = λ s is. subst (λ slot. Refuses Notation.avn (FailsWith Notation.avn s slot) (failure_of e)) (sym (ap head_slot t.2)) (h s is)
