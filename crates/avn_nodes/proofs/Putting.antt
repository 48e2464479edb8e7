-- Values that are put into nodes.
use Rattle.std.proofs.Common.{◌≡◌, ℕ, ◌+◌, ◌<◌, List, [], ◌∷◌, ◌++◌, Option, Some, None, String, string_bytes, length, get_or, take, append_assoc, suc, arith, refl, sym, ap, ◌∙◌, Result}
use Rattle.std.specs.Prelude.{map, option_map, OnOk}
use Rattle.std.proofs.lemmas.List.{append-nil, take_more}
use Rattle.std.proofs.lemmas.Result.{on_ok_weaker}
use Rattle.avn_grammar.specs.Tree.{Tree, Trees, Fields, sequence, sequence_of, choice}
use Rattle.avn_nodes.specs.TreeLists.{trees_in, fields_in}
use Rattle.avn_nodes.proofs.Extending.{extended-extended, IsOver, Closes, closing, over-choice}
use Rattle.avn_nodes.proofs.NodeForms.{worded, list_as}
use Rattle.avn_nodes.specs.Preorder.{NamedSlot, descendants, fields_preorder, list_preorder, preorder, slot_descendants}
use Rattle.avn_nodes.specs.NodeLists.{NodeList, extended, with_leaf, with_open}
use Rattle.avn_nodes.specs.declared.node_kind.NodeKind.{NodeKind}
use Rattle.avn_nodes.specs.declared.node_kind.NodeKind.TheVariants as kind

pub extended-absent : (s : NodeList) → with_leaf kind.Absent s ≡ extended s ((s.name, None) ∷ [])
extended-absent s = let e : suc (length s.nodes) ≡ suc (length s.nodes + 0) = omega arith in ap (λ n. list_as (s.nodes ++ (record { kind = kind.Absent; name = s.name; text = []; octets = []; bits = 0; arcs = []; end = n } ∷ [])) [] []) e

pub plain_put : {E : Type 0} (r : Result (Unit {0}) E) (s then : NodeList) (t v : Tree) (m : NodeList) → OnOk r (then ≡ m) → m ≡ extended s (preorder s.name t) → v ≡ t → OnOk r (then ≡ extended s (preorder s.name v))
plain_put r s then t v m k e f = on_ok_weaker r (λ h. h ∙ e ∙ ap (λ x. extended s (preorder s.name x)) (sym f)) k

pub text_put : {E : Type 0} (r : Result (Unit {0}) E) (s s1 then : NodeList) (f : List ℕ → Tree) (k : NodeKind) (text : List ℕ) (v : Tree) → OnOk r (then ≡ with_leaf k s1) → s1 ≡ worded s (s.word ++ text) → s.word ≡ []
    → ((s : NodeList) → with_leaf k s ≡ extended s (preorder s.name (f s.word))) → v ≡ f text → OnOk r (then ≡ extended s (preorder s.name v))
text_put r s s1 then f k text v h e n g w =
    on_ok_weaker r (λ l. l ∙ g s1 ∙ ap (λ (x : NodeList). extended x (preorder x.name (f x.word))) (e ∙ ap (λ x. worded s (x ++ text)) n) ∙ ap (λ x. extended s (preorder s.name x)) (sym w)) h

pub extended-none : (s : NodeList) → s.name ≡ [] → s.word ≡ [] → s ≡ extended s []
extended-none s e f = ap (λ x. list_as s.nodes x s.word) e ∙ ap (list_as s.nodes []) f ∙ ap (λ x. list_as x [] []) (sym (append-nil s.nodes))

module _ {A : Type 0} (see : A → Tree) where
  items-push : (xs : List A) (x : A) → list_preorder (trees_in (map see (xs ++ (x ∷ [])))) ≡ list_preorder (trees_in (map see xs)) ++ preorder [] (see x)
  unfolding descendants
  items-push [] x = append-nil (preorder [] (see x))
  items-push (y ∷ xs) x = ap (λ z. preorder [] (see y) ++ z) (items-push xs x) ∙ sym (append_assoc (preorder [] (see y)) (list_preorder (trees_in (map see xs))) (preorder [] (see x)))

  pub items_put : (xs : List A) (i : ℕ) (x : A) (s now then : NodeList) → i < length xs → x ≡ get_or xs i x → now ≡ extended s (list_preorder (trees_in (map see (take i xs)))) → then ≡ extended now (preorder now.name (see x))
      → then ≡ extended s (list_preorder (trees_in (map see (take (i + 1) xs))))
  items_put xs i x s now then l e f g =
      g ∙ ap (λ (y : NodeList). extended y (preorder y.name (see x))) f ∙ extended-extended s (list_preorder (trees_in (map see (take i xs)))) (preorder [] (see x))
      ∙ ap (extended s) (sym (ap (λ v. list_preorder (trees_in (map see v))) (take_more xs i x l) ∙ ap (λ y. list_preorder (trees_in (map see (take i xs ++ (y ∷ []))))) (sym e) ∙ items-push (take i xs) x))

  abbrev pub slot_of : {S : Type 0} → String S × Option A → String S × Option Tree
  slot_of f = (f.0, option_map see f.1)

  abbrev pub here : List ℕ → Option A → List NamedSlot
  here name o = (name, option_map see o) ∷ slot_descendants (option_map see o)

  fields-push : {S : Type 0} (xs : List (String S × Option A)) (name : String S) (o : Option A) → fields_preorder (fields_in (map slot_of (xs ++ ((name, o) ∷ [])))) ≡ fields_preorder (fields_in (map slot_of xs)) ++ here (string_bytes name) o
  unfolding descendants
  fields-push [] name (Some v) = append-nil (preorder (string_bytes name) (see v))
  fields-push [] name None = refl
  fields-push ((n, Some w) ∷ xs) name o =
      ap (λ z. preorder (string_bytes n) (see w) ++ z) (fields-push xs name o) ∙ sym (append_assoc (preorder (string_bytes n) (see w)) (fields_preorder (fields_in (map slot_of xs))) (here (string_bytes name) o))
  fields-push ((n, None) ∷ xs) name o = ap (λ z. (string_bytes n, None) ∷ z) (fields-push xs name o)

  pub fields_put : {S : Type 0} (xs : List (String S × Option A)) (i : ℕ) (x : String S × Option A) (s now s1 s2 then : NodeList) (text : List ℕ) → i < length xs → x ≡ get_or xs i x
      → now ≡ extended s (fields_preorder (fields_in (map slot_of (take i xs)))) → s1 ≡ worded now (now.word ++ text) → text ≡ string_bytes x.0 → s2 ≡ record s1 { name = s1.word; word = [] } → then ≡ extended s2 (here s2.name x.1)
      → then ≡ extended s (fields_preorder (fields_in (map slot_of (take (i + 1) xs))))
  fields_put xs i x s now s1 s2 then text l e f g k h j =
      let ss = fields_preorder (fields_in (map slot_of (take i xs))) in
      let e1 : s1 ≡ worded (extended s ss) (string_bytes x.0) = g ∙ ap (λ (y : NodeList). worded y (y.word ++ text)) f ∙ ap (worded (extended s ss)) k in
      let e2 : s2 ≡ record (extended s ss) { name = string_bytes x.0; word = [] } = h ∙ ap (λ (y : NodeList). record y { name = y.word; word = [] }) e1 in
      j ∙ ap (λ (y : NodeList). extended y (here y.name x.1)) e2 ∙ extended-extended s ss (here (string_bytes x.0) x.1)
      ∙ ap (extended s) (sym (ap (λ v. fields_preorder (fields_in (map slot_of v))) (take_more xs i x l) ∙ ap (λ y. fields_preorder (fields_in (map slot_of (take i xs ++ (y ∷ []))))) (sym e) ∙ fields-push (take i xs) x.0 x.1))

pub here_some : {A : Type 0} (see : A → Tree) (o : Option A) (v : A) (s then : NodeList) → o ≡ Some v → then ≡ extended s (preorder s.name (see v)) → then ≡ extended s (here see s.name o)
here_some see o v s then e f = f ∙ ap (λ x. extended s (here see s.name x)) (sym e)

pub here_none : {A : Type 0} (see : A → Tree) (o : Option A) (s then : NodeList) → o ≡ None → then ≡ with_leaf kind.Absent s → then ≡ extended s (here see s.name o)
here_none see o s then e f = f ∙ extended-absent s ∙ ap (λ x. extended s (here see s.name x)) (sym e)

pub over-sequence : (fs : Fields) → IsOver (sequence fs) kind.Sequence (fields_preorder fs)
unfolding descendants
over-sequence fs = record { within = refl; kind = refl; text = refl; octets = refl; bits = refl; arcs = refl }

pub over-sequence_of : (ts : Trees) → IsOver (sequence_of ts) kind.SequenceOf (list_preorder ts)
unfolding descendants
over-sequence_of ts = record { within = refl; kind = refl; text = refl; octets = refl; bits = refl; arcs = refl }

pub choice_put : (s s1 s2 s3 s4 : NodeList) (text : List ℕ) (p v : Tree) (place : ℕ) → s.word ≡ [] → s1 ≡ worded s (s.word ++ text) → place ≡ length s1.nodes → s2 ≡ with_open kind.Choice s1 → s3 ≡ extended s2 (preorder s2.name p) → Closes s3 s4 place kind.Choice → v ≡ choice text p → s4 ≡ extended s (preorder s.name v)
choice_put s s1 s2 s3 s4 text p v place n e f g h l w =
    let e1 : s1 ≡ worded s text = e ∙ ap (λ x. worded s (x ++ text)) n in
    let grew : s3 ≡ extended (with_open kind.Choice s1) (preorder text p) = h ∙ ap (λ (y : NodeList). extended y (preorder y.name p)) g ∙ ap (λ w. extended (with_open kind.Choice s1) (preorder w p)) (ap (λ (y : NodeList). y.word) e1) in
    closing s1 s3 s4 kind.Choice kind.Choice (choice text p) (preorder text p) place f grew (over-choice text p) l
    ∙ ap (λ (y : NodeList). extended y (preorder y.name (choice text p))) e1 ∙ ap (λ x. extended s (preorder s.name x)) (sym w)

pub list_put : (s s1 s2 s3 : NodeList) (k : NodeKind) (t v : Tree) (ss : List NamedSlot) (place : ℕ) → place ≡ length s.nodes → s1 ≡ with_open k s → s2 ≡ extended s1 ss → IsOver t k ss → Closes s2 s3 place k → v ≡ t → s3 ≡ extended s (preorder s.name v)
list_put s s1 s2 s3 k t v ss place e f g o l w = closing s s2 s3 k k t ss place e (g ∙ ap (λ y. extended y ss) f) o l ∙ ap (λ x. extended s (preorder s.name x)) (sym w)
