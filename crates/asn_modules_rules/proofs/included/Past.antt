-- What entries leave of so many bytes.
use Rattle.std.proofs.Common.{◌≡◌, ◌≤◌, ◌<◌, ◌+◌, ◌-◌, ℕ, List, [], ◌∷◌, ◌++◌, map, drop, get_or, length, Option, Some, None, refl, sym, ap, ◌∙◌, arith}
use Rattle.std.proofs.lemmas.List.{drop_all}
use Rattle.std.specs.Global.{Vec}
use Rattle.std.specs.Option.{option_and_then}
use Rattle.asn_modules_rules.specs.included.Extents.{Extent, Inclusions, around, base_extent, beside, front_extent, included_extent, left_behind, member_extent, members_extent, of_size, root_extent, tail_extent, type_extent}
use Rattle.asn_modules_rules.specs.declared.included.limits.TheConstants.{TYPE_SIZE}
use Rattle.asn_modules_rules.specs.included.Sizes.{constraints_size}
use Rattle.asn_modules_rules.proofs.included.Leaving.{left_around, left_beside, left_nothing, left_swapped, sized_none, sized_on, then_same, then_some, then_twice}
use Rattle.asn_modules_rules.proofs.included.Unmarked.{front_more, tail_more}
use Rattle.asn_modules_names.proofs.Founds.{drop_at}
use Rattle.asn_modules_grammar.specs.notation.Notation as spec
use Rattle.asn_modules_grammar.specs.notation.Notation.{Base, Member, marker, members_of}
use Rattle.asn_modules_grammar.specs.notation.View.{base_step, component_step, extension_step, member_step, members_step, members_view, notation_step, notation_view}
use Rattle.asn_modules_grammar.specs.declared.notation.notation.Base as code_base
use Rattle.asn_modules_grammar.specs.declared.notation.notation.Base.TheFolds.{fold_out-Notation}
use Rattle.asn_modules_grammar.specs.declared.notation.notation.Extension.{Extension, out-Extension}
use Rattle.asn_modules_grammar.specs.declared.notation.notation.Member as code
use Rattle.asn_modules_grammar.specs.declared.notation.notation.Members.{Members, out-Members}
use Rattle.asn_modules_grammar.specs.declared.notation.notation.Notation as code_notation
use Rattle.asn_modules_reader.proofs.Viewing.{member_unmarked}
use Rattle.asn_modules_reader.specs.Views.{base_view, member_view}
use Rattle.asn_modules_names.proofs.references.Outs.{extension_seen, members_out, tail_seen}
use Rattle.asn_modules_rules.specs.sizes.Sizes.{past}

module _ (f : Inclusions) (levels : ℕ) where
  -- Of entries that are seen by v.
  module _ {A : Type 0} (v : A → Member) where
    abbrev pub past_all : List A → ℕ → Option ℕ
    past_all xs left = left_behind (members_extent f (members_of (map v xs))) left levels

    past_step : (xs : List A) (i : ℕ) (x : A) (left : ℕ) → i < length xs → x ≡ get_or xs i x → past_all (drop i xs) left ≡ option_and_then (past_all (drop (i + 1) xs)) (left_behind (member_extent f (v x)) left levels)
    past_step xs i x left h e =
        ap (λ l. past_all l left) (drop_at xs i x h e) ∙ left_beside (member_extent f (v x)) (members_extent f (members_of (map v (drop (i + 1) xs)))) left levels

    -- One entry more.
    pub past_more : (all : Option ℕ) (xs : List A) (i : ℕ) (x : A) (left rest : ℕ) → i < length xs → x ≡ get_or xs i x → all ≡ past_all (drop i xs) left → Some rest ≡ left_behind (member_extent f (v x)) left levels → all ≡ past_all (drop (i + 1) xs) rest
    past_more all xs i x left rest h e was is = was ∙ past_step xs i x left h e ∙ ap (option_and_then (past_all (drop (i + 1) xs))) (sym is)

    pub past_none : (all : Option ℕ) (xs : List A) (i : ℕ) (x : A) (left : ℕ) → i < length xs → x ≡ get_or xs i x → all ≡ past_all (drop i xs) left → None ≡ left_behind (member_extent f (v x)) left levels → None ≡ all
    past_none all xs i x left h e was is = sym (was ∙ past_step xs i x left h e ∙ ap (option_and_then (past_all (drop (i + 1) xs))) (sym is))

    pub past_end : (all : Option ℕ) (xs : List A) (i left : ℕ) → length xs ≤ i → all ≡ past_all (drop i xs) left → Some left ≡ all
    past_end all xs i left h was = sym (was ∙ ap (λ l. past_all l left) (drop_all i xs h) ∙ left_nothing left levels)

  -- Of entries before others.
  abbrev past_list : List Member → ℕ → Option ℕ
  past_list ms left = left_behind (members_extent f (members_of ms)) left levels

  past_append : (xs ys : List Member) (left : ℕ) → past_list (xs ++ ys) left ≡ option_and_then (past_list ys) (past_list xs left)
  past_append [] ys left = ap (option_and_then (past_list ys)) (sym (left_nothing left levels))
  past_append (x ∷ xs) ys left =
      left_beside (member_extent f x) (members_extent f (members_of (xs ++ ys))) left levels
      ∙ then_same (past_list (xs ++ ys)) (λ l. option_and_then (past_list ys) (past_list xs l)) (left_behind (member_extent f x) left levels) (past_append xs ys)
      ∙ sym (then_twice (past_list ys) (past_list xs) (left_behind (member_extent f x) left levels))
      ∙ ap (option_and_then (past_list ys)) (sym (left_beside (member_extent f x) (members_extent f (members_of xs)) left levels))

  -- Of a marker before others.
  past_marker : (ms : List Member) (left : ℕ) → past_list (marker ∷ ms) left ≡ past_list ms left
  past_marker ms left = past_append (marker ∷ []) ms left ∙ ap (option_and_then (past_list ms)) (left_nothing left levels)

  abbrev pub past_entries : List code.Member → ℕ → Option ℕ
  past_entries = past_all member_view

  -- Of what stands after the second marker, and after the first one.
  abbrev pub past_tail : Option (Vec code.Member) → ℕ → Option ℕ
  past_tail None left = Some left
  past_tail (Some ms) left = past_entries ms.items left

  abbrev pub past_second : Option Extension → ℕ → Option ℕ
  past_second None left = Some left
  past_second (Some e) left = past_tail (out-Extension e).tail left

  abbrev pub past_first : Option Extension → ℕ → Option ℕ
  past_first None left = Some left
  past_first (Some e) left = past_entries (out-Extension e).additions.items left

  tail_is : (tail : Option (Vec code.Member)) (left : ℕ) → past_list (tail_seen tail) left ≡ past_tail tail left
  tail_is None left = left_nothing left levels
  tail_is (Some ms) left = past_marker (map member_view ms.items) left

  extension_is : (x : Option Extension) (left : ℕ) → past_list (extension_seen x) left ≡ option_and_then (past_second x) (past_first x left)
  extension_is None left = left_nothing left levels
  extension_is (Some e) left =
      let added = (out-Extension e).additions.items in
      past_marker (map member_view added ++ tail_seen (out-Extension e).tail) left ∙ past_append (map member_view added) (tail_seen (out-Extension e).tail) left
      ∙ then_same (past_list (tail_seen (out-Extension e).tail)) (past_tail (out-Extension e).tail) (past_entries added left) (tail_is (out-Extension e).tail)

  -- The root alone.
  abbrev past_front : List Member → ℕ → Option ℕ
  past_front ms left = left_behind (front_extent f (members_of ms)) left levels

  front_append : (xs : List code.Member) (ys : List Member) (left : ℕ) → past_front (map member_view xs ++ ys) left ≡ option_and_then (past_front ys) (past_entries xs left)
  front_append [] ys left = ap (option_and_then (past_front ys)) (sym (left_nothing left levels))
  front_append (x ∷ xs) ys left =
      ap (λ e. left_behind e left levels) (front_more f (member_view x) (members_of (map member_view xs ++ ys)) (member_unmarked x))
      ∙ left_beside (member_extent f (member_view x)) (front_extent f (members_of (map member_view xs ++ ys))) left levels
      ∙ then_same (past_front (map member_view xs ++ ys)) (λ l. option_and_then (past_front ys) (past_entries xs l)) (left_behind (member_extent f (member_view x)) left levels) (front_append xs ys)
      ∙ sym (then_twice (past_front ys) (past_entries xs) (left_behind (member_extent f (member_view x)) left levels))
      ∙ ap (option_and_then (past_front ys)) (sym (left_beside (member_extent f (member_view x)) (members_extent f (members_of (map member_view xs))) left levels))

  tail_append : (xs : List code.Member) (ys : List Member) → tail_extent f (members_of (map member_view xs ++ ys)) ≡ tail_extent f (members_of ys)
  tail_append [] ys = refl
  tail_append (x ∷ xs) ys = tail_more f (member_view x) (members_of (map member_view xs ++ ys)) (member_unmarked x) ∙ tail_append xs ys

  tail_front : (tail : Option (Vec code.Member)) (left : ℕ) → left_behind (tail_extent f (members_of (tail_seen tail))) left levels ≡ past_tail tail left
  tail_front None left = left_nothing left levels
  tail_front (Some ms) left = refl

  extension_front : (x : Option Extension) (left : ℕ) → past_front (extension_seen x) left ≡ past_second x left
  extension_front None left = left_nothing left levels
  extension_front (Some e) left =
      ap (λ y. left_behind y left levels) (tail_append (out-Extension e).additions.items (tail_seen (out-Extension e).tail)) ∙ tail_front (out-Extension e).tail left

  -- The root of a type, by what it holds.
  pub root_past : (m : Members) (left : ℕ) → left_behind (front_extent f (members_of (members_view m))) left levels ≡ option_and_then (past_second (out-Members m).extension) (past_entries (out-Members m).root.items left)
  root_past m left =
      ap (λ l. past_front l left) (members_out m) ∙ front_append (out-Members m).root.items (extension_seen (out-Members m).extension) left
      ∙ then_same (past_front (extension_seen (out-Members m).extension)) (past_second (out-Members m).extension) (past_entries (out-Members m).root.items left) (extension_front (out-Members m).extension)

  -- The tail and the extension additions, in either order.
  second_by : (added : List code.Member) (tail : Option (Vec code.Member)) (left : ℕ) → option_and_then (past_tail tail) (past_entries added left) ≡ option_and_then (past_entries added) (past_tail tail left)
  second_by added None left = then_some (past_entries added left)
  second_by added (Some ms) left =
      let a = members_extent f (members_of (map member_view added)) in
      let b = members_extent f (members_of (map member_view ms.items)) in
      sym (left_beside a b left levels) ∙ left_swapped a b left levels ∙ left_beside b a left levels

  second_first : (x : Option Extension) (left : ℕ) → option_and_then (past_second x) (past_first x left) ≡ option_and_then (past_first x) (past_second x left)
  second_first None left = refl
  second_first (Some e) left = second_by (out-Extension e).additions.items (out-Extension e).tail left

  -- All entries: the root, and then the extension additions.
  pub members_past : (m : Members) (left : ℕ) → left_behind (members_extent f (members_of (members_view m))) left levels
      ≡ option_and_then (past_first (out-Members m).extension) (left_behind (front_extent f (members_of (members_view m))) left levels)
  members_past m left =
      let x = (out-Members m).extension in
      let root = past_entries (out-Members m).root.items left in
      ap (λ l. past_list l left) (members_out m) ∙ past_append (map member_view (out-Members m).root.items) (extension_seen x) left
      ∙ then_same (past_list (extension_seen x)) (λ l. option_and_then (past_second x) (past_first x l)) root (extension_is x)
      ∙ then_same (λ l. option_and_then (past_second x) (past_first x l)) (λ l. option_and_then (past_first x) (past_second x l)) root (second_first x)
      ∙ sym (then_twice (past_first x) (past_second x) root) ∙ ap (option_and_then (past_first x)) (sym (root_past m left))

  -- The root, by what is left after the entries before the first marker.
  pub root_none : (m : Members) (left : ℕ) → None ≡ past_entries (out-Members m).root.items left → None ≡ left_behind (front_extent f (members_of (members_view m))) left levels
  root_none m left none = ap (option_and_then (past_second (out-Members m).extension)) none ∙ sym (root_past m left)

  pub root_on : (m : Members) (x : Option Extension) (left rest : ℕ) (r : Option ℕ) → Some rest ≡ past_entries (out-Members m).root.items left → (out-Members m).extension ≡ x → r ≡ past_second x rest
      → r ≡ left_behind (front_extent f (members_of (members_view m))) left levels
  root_on m x left rest r some is e =
      e ∙ ap (λ y. past_second y rest) (sym is) ∙ ap (option_and_then (past_second (out-Members m).extension)) some ∙ sym (root_past m left)

  -- All entries, by what is left after the root.
  pub members_none : (m : Members) (left : ℕ) → None ≡ left_behind (front_extent f (members_of (members_view m))) left levels → None ≡ left_behind (members_extent f (members_of (members_view m))) left levels
  members_none m left none = ap (option_and_then (past_first (out-Members m).extension)) none ∙ sym (members_past m left)

  pub members_on : (m : Members) (x : Option Extension) (left rest : ℕ) (r : Option ℕ) → Some rest ≡ left_behind (front_extent f (members_of (members_view m))) left levels → (out-Members m).extension ≡ x → r ≡ past_first x rest
      → r ≡ left_behind (members_extent f (members_of (members_view m))) left levels
  members_on m x left rest r some is e =
      e ∙ ap (λ y. past_first y rest) (sym is) ∙ ap (option_and_then (past_first (out-Members m).extension)) some ∙ sym (members_past m left)

notation_out : (n : code_notation.Notation) → notation_view n ≡ spec.notation (code_notation.out-Notation n).tags.items (base_view (code_notation.out-Notation n).base) (code_notation.out-Notation n).sizes.items
notation_out n = fold_out-Notation spec.Base spec.Member spec.Member (List spec.Member) (List spec.Member) spec.Notation base_step component_step member_step extension_step members_step notation_step n

-- A type, by what is left after what it holds.
module _ (g : ℕ → Inclusions) (names fewer : ℕ) (n : code_notation.Notation) (left inner levels deeper : ℕ) (r : Option ℕ) (same : fewer ≡ names) (there : TYPE_SIZE ≤ left) (one : inner ≡ left - TYPE_SIZE) (level : levels ≡ deeper + 1) where
  around_on : (held : Inclusions → Extent) → r ≡ left_behind (held (g fewer)) inner deeper → r ≡ left_behind (around (held (g names))) left levels
  around_on held e =
      e ∙ ap (λ k. left_behind (held (g k)) inner deeper) same ∙ sym (left_around (held (g names)) left levels inner deeper (omega (arith, there, one)) level)

  abbrev sizes : ℕ
  sizes = constraints_size (code_notation.out-Notation n).sizes.items

  abbrev held : Base
  held = base_view (code_notation.out-Notation n).base

  constrained_on : r ≡ left_behind (beside (of_size sizes) (base_extent (g fewer) held)) inner deeper → r ≡ left_behind (type_extent (g names) (notation_view n)) left levels
  constrained_on e =
      around_on (λ f. beside (of_size sizes) (base_extent f held)) e ∙ ap (λ x. left_behind (type_extent (g names) x) left levels) (sym (notation_out n))

  pub type_on : (rest : ℕ) → Some rest ≡ past inner sizes → r ≡ left_behind (base_extent (g fewer) held) rest deeper → r ≡ left_behind (type_extent (g names) (notation_view n)) left levels
  type_on rest some e = constrained_on (sized_on sizes (base_extent (g fewer) held) inner rest deeper r some e)

  pub type_none : None ≡ r → None ≡ past inner sizes → None ≡ left_behind (type_extent (g names) (notation_view n)) left levels
  type_none is none = is ∙ constrained_on (sym is ∙ sized_none sizes (base_extent (g fewer) held) inner deeper none)

  pub included_on : (b : Base) → held ≡ b → r ≡ left_behind (root_extent (g fewer) b) inner deeper → r ≡ left_behind (included_extent (g names) (notation_view n)) left levels
  included_on b is e =
      around_on (λ f. root_extent f held) (e ∙ ap (λ x. left_behind (root_extent (g fewer) x) inner deeper) (sym is)) ∙ ap (λ x. left_behind (included_extent (g names) x) left levels) (sym (notation_out n))

-- What a type holds, by what it is.
pub base_on : (f : Inclusions) (base : code_base.Base) (b : Base) (left levels : ℕ) (r : Option ℕ) → base_view base ≡ b → r ≡ left_behind (base_extent f b) left levels → r ≡ left_behind (base_extent f (base_view base)) left levels
base_on f base b left levels r is e = e ∙ ap (λ x. left_behind (base_extent f x) left levels) (sym is)
