-- Values that are the same tree are equal, and each value without floats is the same as itself.
use Rattle.std.proofs.Common.{◌≡◌, ◌&&◌, true, false, refl, sym, ap, ◌∙◌, subst}
use Rattle.std.proofs.lemmas.Bool.{and_from, and_parts, or_parts}
use Rattle.std.proofs.lemmas.Bool.Decides.{Decides-int_eq}
use Rattle.std.proofs.lemmas.Slice.Eq.{bytes_eq-Decides}
use Rattle.std.specs.Cmp.{IsEquivalence, IsPartialEquivalence, both_ways, equiv, on_per, booleans_Decides, unsigned_Decides}
use Rattle.std.specs.Str.{bytes_eq}
use Rattle.serde_json.specs.Data.{Num, unsigned, negative, Data, null, boolean, number, string, array, object, Items, no_items, item, Members, no_members, member}
use Rattle.serde_json.specs.Find.{is_float}
use Rattle.serde_json.specs.Written.{has_float, items_have_float, members_have_float}
use Rattle.serde_json.specs.View.{view}
use Rattle.asn_document.specs.declared.document.Document.{Document}
use Rattle.asn_document.specs.Equality.{same_number, same_tree, same_items, same_members}

numbers-equal : (m n : Num) → same_number m n ≡ true → m ≡ n
numbers-equal (unsigned m) (unsigned n) h = ap unsigned ((unsigned_Decides m n).0 h)
numbers-equal (negative y) (negative z) h = ap negative ((Decides-int_eq y z).0 h)
numbers-equal m n h = let d : false ≡ true = h in cc d

mutual
  -- Values that are the same tree are equal.
  pub trees-equal : (d e : Data) → same_tree d e ≡ true → d ≡ e
  trees-equal null null h = refl
  trees-equal (boolean b) (boolean c) h = ap boolean ((booleans_Decides b c).0 h)
  trees-equal (number m) (number n) h = ap number (numbers-equal m n h)
  trees-equal (string s) (string t) h = ap string ((bytes_eq-Decides s t).0 h)
  trees-equal (array ds) (array es) h = ap array (items-equal ds es h)
  trees-equal (object ms) (object ns) h = ap object (members-equal ms ns h)
  trees-equal d e h = let x : false ≡ true = h in cc x

  items-equal : (ds es : Items) → same_items ds es ≡ true → ds ≡ es
  items-equal no_items no_items h = refl
  items-equal (item d ds) (item e es) h =
      let (first, others) = and_parts (same_tree d e) (same_items ds es) h in
      ap (λ x. item x ds) (trees-equal d e first) ∙ ap (item e) (items-equal ds es others)
  items-equal ds es h = let x : false ≡ true = h in cc x

  members-equal : (ms ns : Members) → same_members ms ns ≡ true → ms ≡ ns
  members-equal no_members no_members h = refl
  members-equal (member k d ms) (member l e ns) h =
      let (key, rest) = and_parts (bytes_eq k l) (same_tree d e && same_members ms ns) h in
      let (first, others) = and_parts (same_tree d e) (same_members ms ns) rest in
      ap (λ x. member x d ms) ((bytes_eq-Decides k l).0 key) ∙ (ap (λ x. member l x ms) (trees-equal d e first) ∙ ap (member l e) (members-equal ms ns others))
  members-equal ms ns h = let x : false ≡ true = h in cc x

number-same : (n : Num) → is_float n ≡ false → same_number n n ≡ true
number-same (unsigned n) h = (unsigned_Decides n n).1 refl
number-same (negative z) h = (Decides-int_eq z z).1 refl
number-same (Num.float x) h = let d : true ≡ false = h in cc d

mutual
  -- A value without floats is the same tree as itself.
  pub tree-same : (d : Data) → has_float d ≡ false → same_tree d d ≡ true
  tree-same null h = refl
  tree-same (boolean b) h = (booleans_Decides b b).1 refl
  tree-same (number n) h = number-same n h
  tree-same (string s) h = (bytes_eq-Decides s s).1 refl
  tree-same (array ds) h = items-same ds h
  tree-same (object ms) h = members-same ms h

  items-same : (ds : Items) → items_have_float ds ≡ false → same_items ds ds ≡ true
  items-same no_items h = refl
  items-same (item d ds) h =
      let (first, others) = or_parts (has_float d) (items_have_float ds) h in
      and_from (same_tree d d) (same_items ds ds) (tree-same d first) (items-same ds others)

  members-same : (ms : Members) → members_have_float ms ≡ false → same_members ms ms ≡ true
  members-same no_members h = refl
  members-same (member k d ms) h =
      let (first, others) = or_parts (has_float d) (members_have_float ms) h in
      and_from (bytes_eq k k) (same_tree d d && same_members ms ms) ((bytes_eq-Decides k k).1 refl) (and_from (same_tree d d) (same_members ms ms) (tree-same d first) (members-same ms others))

turned : (d e : Data) → same_tree d e ≡ true → same_tree e d ≡ true
turned d e h = let is = trees-equal d e h in subst (λ x. same_tree x d ≡ true) is (subst (λ x. same_tree d x ≡ true) (sym is) h)

-- The test is symmetric and transitive.
pub trees-alike : IsPartialEquivalence same_tree
trees-alike = record {
  symm = λ d e. both_ways (same_tree d e) (same_tree e d) (turned d e) (turned e d);
  trans = λ d e f p q. subst (λ x. same_tree d x ≡ true) (trees-equal e f q) p;
}

-- So is the test of documents.
pub documents-alike : IsPartialEquivalence (λ (a b : Document). same_tree (view a.value) (view b.value))
documents-alike = on_per (λ (d : Document). view d.value) trees-alike

-- Each document is equal to itself, too.
pub documents-equal : IsEquivalence (λ (a b : Document). same_tree (view a.value) (view b.value))
documents-equal = equiv documents-alike (λ d. tree-same (view d.value) d.whole)
