-- Values that are written as the same text, and read as the same tree.
use Rattle.std.proofs.Common.{◌≡◌, refl, ap, sym, ◌∙◌, subst, ℕ, suc, cond, codes, List, [], ◌∷◌, ◌++◌, true, false}
use Rattle.std.specs.List.{AllByRecursion}
use Rattle.std.specs.Cmp.Lexicographic.{slice_cmp}
use Rattle.std.specs.Ordering.{nat_cmp, on}
use Rattle.serde_json.specs.Data.{Data, Items, Members, put}
use Rattle.serde_json.specs.Written.{compact_text}
use Rattle.avn_grammar.specs.Normal.{braced, normal, normal_fields, normal_trees}
use Rattle.avn_grammar.specs.Print.{has_fields, indent, print, print_fields, print_rows, separator}
use Rattle.avn_grammar.specs.Tree.{Tree as AvnTree, Trees as AvnTrees, Fields as AvnFields}
use Rattle.asn_model.specs.Canonical.{avn_fields, avn_tree, avn_trees, canonical_text, canonical_tree, jer_data, jer_items, jer_members}
use Rattle.asn_model.specs.Notation.{Notation, IsText}
use Rattle.asn_model.specs.Readable.{is_readable}
use Rattle.asn_model.specs.Shape.{Shape, Fields}
use Rattle.asn_model.specs.Sorting.{by_text}
use Rattle.asn_model.specs.Tree.{Tree}
use Rattle.asn_model.specs.Value.{Value, Values, Slots, Fits, FitsEach, elements, ordered_by, sort_values, value_cmp, values}
use Rattle.asn_model.specs.Writable.{Writable, WritableEach}
use Rattle.asn_model.specs.Writes.{Writes}
use Rattle.asn_model.proofs.Bags.{avn_trees-sorted, each-ordered, jer_items-sorted, sort-ordered_by}
use Rattle.asn_model.proofs.SetTexts.{written-set}
use Rattle.asn_model.proofs.Sorting.{sort-alike}
use Rattle.asn_model.proofs.Written.{jer_tree, jer_writes}
use Rattle.asn_model.proofs.WrittenAvn.{avn_writes, read_tree}
use Rattle.asn_growth.specs.Adapted.{adapted, adapted_each, all_absent}
use Rattle.asn_growth.proofs.Adapting.{adapted-ordered}

-- What the text that a notation writes for a value is read as.
abbrev pub tree_of : Notation → Value → Tree
tree_of Notation.avn = read_tree
tree_of _ = jer_tree

pub tree_writes : (n : Notation) → IsText n → Writes n (tree_of n)
tree_writes Notation.jer x = jer_writes
tree_writes Notation.avn x = avn_writes
tree_writes Notation.other x = absurd x

-- The values are written as the same text, at any depth of braces, and read as the same tree.
abbrev pub Alike : Notation → Value → Value → Type 0
Alike Notation.jer v w = jer_data v ≡ jer_data w
Alike Notation.avn v w = (normal (avn_tree v) ≡ normal (avn_tree w)) × ((d : ℕ) → print d (avn_tree v) ≡ print d (avn_tree w))
Alike Notation.other v w = Unit {0}

pub alike-itself : (n : Notation) (v : Value) → Alike n v v
alike-itself Notation.jer v = refl
alike-itself Notation.avn v = (refl, λ d. refl)
alike-itself Notation.other v = tt

pub alike-then : (n : Notation) (u v w : Value) → Alike n u v → Alike n v w → Alike n u w
alike-then Notation.jer u v w a b = a ∙ b
alike-then Notation.avn u v w a b = (a.0 ∙ b.0, λ d. a.1 d ∙ b.1 d)
alike-then Notation.other u v w a b = tt

alike-back : (n : Notation) (v w : Value) → Alike n v w → Alike n w v
alike-back Notation.jer v w a = sym a
alike-back Notation.avn v w a = (sym a.0, λ d. sym (a.1 d))
alike-back Notation.other v w a = tt

pub text-alike : (n : Notation) (v w : Value) → IsText n → Alike n v w → canonical_text n v ≡ canonical_text n w
text-alike Notation.jer v w x a = ap compact_text a
text-alike Notation.avn v w x a = a.1 0
text-alike Notation.other v w x a = absurd x

pub tree-alike : (n : Notation) (v w : Value) → IsText n → Alike n v w → tree_of n v ≡ tree_of n w
tree-alike Notation.jer v w x a = ap Tree.json a
tree-alike Notation.avn v w x a = ap Tree.avn a.0
tree-alike Notation.other v w x a = absurd x

json_of : {a b : Data} → Tree.json a ≡ Tree.json b → a ≡ b
json_of e = cc e

avn_of : {a b : AvnTree} → Tree.avn a ≡ Tree.avn b → a ≡ b
avn_of e = cc e

alike-trees : (n : Notation) (v w : Value) → canonical_tree n v ≡ canonical_tree n w → Alike n v w
alike-trees Notation.jer v w e = json_of e
alike-trees Notation.avn v w e = (ap normal (avn_of e), λ d. ap (print d) (avn_of e))
alike-trees Notation.other v w e = tt

-- The value is written as what it is adapted to.
abbrev pub IsRelayed : Notation → Shape → Value → Type 0
IsRelayed n s v = Alike n (adapted s v) v

items-alike : (s : Shape) (vs : Values) → AllByRecursion (IsRelayed Notation.jer s) (elements vs) → jer_items (adapted_each s vs) ≡ jer_items vs
items-alike s Values.no_values h = refl
items-alike s (Values.value v vs) h = ap (λ d. Items.item d (jer_items (adapted_each s vs))) h.0 ∙ ap (Items.item (jer_data v)) (items-alike s vs h.1)

trees-alike : (s : Shape) (vs : Values) → AllByRecursion (IsRelayed Notation.avn s) (elements vs) → normal_trees (avn_trees (adapted_each s vs)) ≡ normal_trees (avn_trees vs)
unfolding normal
trees-alike s Values.no_values h = refl
trees-alike s (Values.value v vs) h = ap (λ t. AvnTrees.tree t (normal_trees (avn_trees (adapted_each s vs)))) h.0.0 ∙ ap (AvnTrees.tree (normal (avn_tree v))) (trees-alike s vs h.1)

rows-alike : (s : Shape) (vs : Values) → AllByRecursion (IsRelayed Notation.avn s) (elements vs) → (d i : ℕ) → print_rows d i (avn_trees (adapted_each s vs)) ≡ print_rows d i (avn_trees vs)
unfolding print
rows-alike s Values.no_values h d i = refl
rows-alike s (Values.value v vs) h d i =
    ap (λ l. (separator i ++ indent d ++ l) ++ print_rows d (suc i) (avn_trees (adapted_each s vs))) (h.0.1 d)
    ∙ ap (λ l. (separator i ++ indent d ++ print d (avn_tree v)) ++ l) (rows-alike s vs h.1 d (suc i))

list-printed : (s : Shape) (vs : Values) → AllByRecursion (IsRelayed Notation.avn s) (elements vs) → (d : ℕ) → print d (AvnTree.sequence_of (avn_trees (adapted_each s vs))) ≡ print d (AvnTree.sequence_of (avn_trees vs))
unfolding print
list-printed s Values.no_values h d = refl
list-printed s (Values.value v vs) h d = ap (λ l. (123 ∷ []) ++ l ++ (10 ∷ []) ++ indent d ++ (125 ∷ [])) (rows-alike s (Values.value v vs) h (suc d) 0)

normal-list : (ts us : AvnTrees) → normal_trees ts ≡ normal_trees us → normal (AvnTree.sequence_of ts) ≡ normal (AvnTree.sequence_of us)
unfolding normal
normal-list ts us e = ap AvnTree.sequence_of e

pub list-alike : (n : Notation) (s : Shape) (vs : Values) → AllByRecursion (IsRelayed n s) (elements vs) → Alike n (Value.list (adapted_each s vs)) (Value.list vs)
list-alike Notation.jer s vs h = ap Data.array (items-alike s vs h)
list-alike Notation.avn s vs h = (normal-list _ _ (trees-alike s vs h), λ d. list-printed s vs h d)
list-alike Notation.other s vs h = tt

-- A set is written as the list of its elements in the order of their texts.
bag-list : (n : Notation) (vs : Values) → Alike n (Value.bag vs) (Value.list (ordered_by (by_text (canonical_text n)) vs))
bag-list Notation.jer vs = ap Data.array (jer_items-sorted vs)
bag-list Notation.avn vs = let e = ap AvnTree.sequence_of (avn_trees-sorted vs) in (ap normal e, λ d. ap (print d) e)
bag-list Notation.other vs = tt

bag-alike : (n : Notation) (s : Shape) (vs : Values) → IsText n → AllByRecursion (IsRelayed n s) (elements vs) → Alike n (Value.bag (adapted_each s vs)) (Value.bag vs)
bag-alike n s vs x h =
    let order = by_text (canonical_text n) in
    let same = adapted-ordered s order vs
    ∙ ap (λ l. adapted_each s (values (λ v. v) l)) (sort-alike (on (adapted s) order) order (IsRelayed n s) (λ v w p q i. slice_cmp nat_cmp (text-alike n (adapted s v) v x p i) (text-alike n (adapted s w) w x q i)) (elements vs) h) in
    let listed = list-alike n s (ordered_by order vs) (each-ordered (IsRelayed n s) order vs h) in
    let sorted = ordered_by order vs in
    alike-then n (Value.bag (adapted_each s vs)) (Value.list (adapted_each s sorted)) (Value.bag vs) (subst (λ l. Alike n (Value.bag (adapted_each s vs)) (Value.list l)) same (bag-list n (adapted_each s vs)))
    (alike-then n (Value.list (adapted_each s sorted)) (Value.list sorted) (Value.bag vs) listed (alike-back n (Value.bag vs) (Value.list sorted) (bag-list n vs)))

fits-all : {s : Shape} {vs : Values} → FitsEach s vs → AllByRecursion (Fits s) (elements vs)
fits-all FitsEach.fits_none = tt
fits-all (FitsEach.fits_one f fs) = (f, fits-all fs)

all-fit : (s : Shape) (vs : Values) → AllByRecursion (Fits s) (elements vs) → FitsEach s vs
all-fit s Values.no_values h = FitsEach.fits_none
all-fit s (Values.value v vs) h = FitsEach.fits_one h.0 (all-fit s vs h.1)

writable-all : (n : Notation) (vs : Values) → WritableEach n vs → AllByRecursion (Writable n) (elements vs)
writable-all n Values.no_values h = tt
writable-all n (Values.value v vs) h = (h.0, writable-all n vs h.1)

all-writable : (n : Notation) (vs : Values) → AllByRecursion (Writable n) (elements vs) → WritableEach n vs
all-writable n Values.no_values h = tt
all-writable n (Values.value v vs) h = (h.0, all-writable n vs h.1)

-- A set is written as what it is adapted to where its elements are.
pub set-alike : (n : Notation) (s r : Shape) (vs : Values) → IsText n → is_readable s ≡ true → FitsEach s vs → sort_values vs ≡ vs → WritableEach n vs → AllByRecursion (IsRelayed n r) (elements vs) → Alike n (adapted (Shape.set_of r) (Value.bag vs)) (Value.bag vs)
set-alike n s r vs x a fit sorted can h =
    let order = on (adapted r) value_cmp in
    let ys = ordered_by order vs in
    let fits = all-fit s ys (each-ordered (Fits s) order vs (fits-all fit)) in
    let writable = all-writable n ys (each-ordered (Writable n) order vs (writable-all n vs can)) in
    let moved = alike-trees n (Value.bag ys) (Value.bag vs) (sym (written-set n s ys x a fits writable) ∙ ap (λ l. canonical_tree n (Value.bag l)) (sort-ordered_by order vs ∙ sorted)) in
    subst (λ l. Alike n (Value.bag l) (Value.bag vs)) (sym (adapted-ordered r value_cmp vs)) (alike-then n (Value.bag (adapted_each r ys)) (Value.bag ys) (Value.bag vs) (bag-alike n r ys x (each-ordered (IsRelayed n r) order vs h)) moved)

pub choice-alike : (n : Notation) (i : List ℕ) (v w : Value) → Alike n v w → Alike n (Value.choice i v) (Value.choice i w)
unfolding normal print
choice-alike Notation.jer i v w a = ap (λ d. Data.object (Members.member i d Members.no_members)) a
choice-alike Notation.avn i v w a = (ap (AvnTree.choice i) a.0, λ d. ap (λ l. i ++ codes " : " ++ l) (a.1 d))
choice-alike Notation.other i v w a = tt

-- The members are written alike: the first ones may have more that are absent.
pub data SlotsAlike (n : Notation) : Slots → Slots → Type 0 where
  alike_end : (fs : Fields) → SlotsAlike n (all_absent fs) Slots.no_slots
  alike_absent : (m : List ℕ) (ms ks : Slots) → SlotsAlike n ms ks → SlotsAlike n (Slots.absent m ms) (Slots.absent m ks)
  alike_present : (m : List ℕ) (v w : Value) (ms ks : Slots) → Alike n v w → SlotsAlike n ms ks → SlotsAlike n (Slots.present m v ms) (Slots.present m w ks)

no-members : (fs : Fields) → jer_members (all_absent fs) ≡ Members.no_members
no-members Fields.no_fields = refl
no-members (Fields.field n t p s fs) = no-members fs

members-same : {ms ks : Slots} → SlotsAlike Notation.jer ms ks → jer_members ms ≡ jer_members ks
members-same (SlotsAlike.alike_end fs) = no-members fs
members-same (SlotsAlike.alike_absent m ms ks h) = members-same h
members-same (SlotsAlike.alike_present m v w ms ks a h) = ap (λ d. put m d (jer_members ms)) a ∙ ap (put m (jer_data w)) (members-same h)

no-normal : (fs : Fields) → normal_fields (avn_fields (all_absent fs)) ≡ AvnFields.no_fields
unfolding normal
no-normal Fields.no_fields = refl
no-normal (Fields.field n t p s fs) = no-normal fs

normal-same : {ms ks : Slots} → SlotsAlike Notation.avn ms ks → normal_fields (avn_fields ms) ≡ normal_fields (avn_fields ks)
unfolding normal
normal-same (SlotsAlike.alike_end fs) = no-normal fs
normal-same (SlotsAlike.alike_absent m ms ks h) = normal-same h
normal-same (SlotsAlike.alike_present m v w ms ks a h) = ap (λ t. AvnFields.field m t (normal_fields (avn_fields ms))) a.0 ∙ ap (AvnFields.field m (normal (avn_tree w))) (normal-same h)

none-present : (fs : Fields) → has_fields (avn_fields (all_absent fs)) ≡ false
none-present Fields.no_fields = refl
none-present (Fields.field n t p s fs) = none-present fs

present-same : {ms ks : Slots} → SlotsAlike Notation.avn ms ks → has_fields (avn_fields ms) ≡ has_fields (avn_fields ks)
present-same (SlotsAlike.alike_end fs) = none-present fs
present-same (SlotsAlike.alike_absent m ms ks h) = present-same h
present-same (SlotsAlike.alike_present m v w ms ks a h) = refl

no-rows : (fs : Fields) (d i : ℕ) → print_fields d i (avn_fields (all_absent fs)) ≡ []
unfolding print
no-rows Fields.no_fields d i = refl
no-rows (Fields.field n t p s fs) d i = no-rows fs d i

rows-same : {ms ks : Slots} → SlotsAlike Notation.avn ms ks → (d i : ℕ) → print_fields d i (avn_fields ms) ≡ print_fields d i (avn_fields ks)
unfolding print
rows-same (SlotsAlike.alike_end fs) d i = no-rows fs d i
rows-same (SlotsAlike.alike_absent m ms ks h) d i = rows-same h d i
rows-same (SlotsAlike.alike_present m v w ms ks a h) d i =
    ap (λ l. (separator i ++ indent d ++ m ++ codes " " ++ l) ++ print_fields d (suc i) (avn_fields ms)) (a.1 d)
    ∙ ap (λ l. (separator i ++ indent d ++ m ++ codes " " ++ print d (avn_tree w)) ++ l) (rows-same h d (suc i))

pub members-alike : (n : Notation) {ms ks : Slots} → SlotsAlike n ms ks → Alike n (Value.members ms) (Value.members ks)
unfolding normal print
members-alike Notation.jer h = ap Data.object (members-same h)
members-alike Notation.avn {ms} {ks} h = (
  ap braced (normal-same h),
  λ d. ap (λ b. cond b ((123 ∷ []) ++ print_fields (suc d) 0 (avn_fields ms) ++ (10 ∷ []) ++ indent d ++ (125 ∷ [])) (codes "{}")) (present-same h)
      ∙ ap (λ l. cond (has_fields (avn_fields ks)) ((123 ∷ []) ++ l ++ (10 ∷ []) ++ indent d ++ (125 ∷ [])) (codes "{}")) (rows-same h (suc d) 0),
)
members-alike Notation.other h = tt
