-- Lists of entries, with and without markers among them.
use Rattle.std.proofs.Common.{◌≡◌, ◌≤◌, ◌<◌, ◌+◌, ℕ, refl, sym, ap, ◌∙◌, List, [], ◌∷◌, ◌++◌, map, Bool, true, false, if◌then◌else◌, append_assoc, append-nil, drop, get_or, length, Option, Some, None}
use Rattle.std.proofs.lemmas.List.{drop_all, map-append, map-id}
use Rattle.std.specs.Global.{Vec}
use Rattle.std.specs.Option.{option_and_then, option_map}
use Rattle.asn_expansion.specs.Expansion.{of_both}
use Rattle.asn_modules_names.proofs.Founds.{drop_at}
use Rattle.asn_modules_grammar.specs.notation.Notation as spec
use Rattle.asn_modules_grammar.specs.notation.Notation.{Member, marker, members_of}
use Rattle.asn_modules_grammar.specs.notation.View.{items_view, base_step, component_step, component_view, extension_step, member_step, members_step, members_view, notation_step, notation_view}
use Rattle.asn_modules_grammar.specs.declared.notation.notation.Base.{Base}
use Rattle.asn_modules_grammar.specs.declared.notation.notation.Base.TheFolds.{fold_out-Component, fold_out-Member, fold-roll-Component, fold-roll-Member}
use Rattle.asn_modules_grammar.specs.declared.notation.notation.Base.TheOpen as layer
use Rattle.asn_modules_grammar.specs.declared.notation.notation.Base.TheOpen.{Component-F, Member-F}
use Rattle.asn_modules_grammar.specs.declared.notation.notation.Base.TheViews.{out-Component, out-Member, roll-Component, roll-Member}
use Rattle.asn_modules_grammar.specs.declared.notation.notation.Component.{Component}
use Rattle.asn_modules_grammar.specs.declared.notation.notation.Extension.{Extension, out-Extension}
use Rattle.asn_modules_grammar.specs.declared.notation.notation.Member as code_member
use Rattle.asn_modules_grammar.specs.declared.notation.notation.Members.{Members, out-Members}
use Rattle.asn_modules_grammar.specs.declared.notation.notation.Notation.{Notation}
use Rattle.asn_modules_grammar.specs.declared.notation.number.Item.{Item}
use Rattle.asn_modules_reader.specs.Views.{member_view}
use Rattle.asn_modules_names.proofs.references.Outs.{extension_seen, members_out, tail_seen}
use Rattle.asn_modules_types.specs.Known.{items_of, known_parts, part_view, tail_of}
use Rattle.asn_modules_types.specs.Lists.{added_of, all_known, behind, front, front_of, if_marked, implied, root_of}
use Rattle.asn_modules_types.specs.Scopes.{Scope}
use Rattle.asn_modules_types.specs.Types.{Part, Place, Roots, between_brackets, entry_parts, included, lists_of, notation_roots, parts, relaxed}
use Rattle.asn_modules_types.specs.declared.parts.Part as code

-- All are up to the first marker.
front_all : {A B : Type 0} (f : A → B) (xs : List A) → front (map (λ x. Some (f x)) xs) ≡ map f xs
front_all f [] = refl
front_all f (x ∷ xs) = ap (λ l. f x ∷ l) (front_all f xs)

behind_none : {A B : Type 0} (f : A → B) (xs : List A) → behind (map (λ x. Some (f x)) xs) ≡ None
behind_none f [] = refl
behind_none f (x ∷ xs) = behind_none f xs

-- Entries before a marker.
front_marked : {A B : Type 0} (f : A → B) (xs : List A) (more : List (Option B)) → front (map (λ x. Some (f x)) xs ++ None ∷ more) ≡ map f xs
front_marked f [] more = refl
front_marked f (x ∷ xs) more = ap (λ l. f x ∷ l) (front_marked f xs more)

behind_marked : {A B : Type 0} (f : A → B) (xs : List A) (more : List (Option B)) → behind (map (λ x. Some (f x)) xs ++ None ∷ more) ≡ Some more
behind_marked f [] more = refl
behind_marked f (x ∷ xs) more = behind_marked f xs more

-- A list without a marker.
root_all : {A B : Type 0} (f : A → B) (xs : List A) → root_of (map (λ x. Some (f x)) xs) ≡ map f xs
root_all f xs =
    ap (λ o. front (map (λ x. Some (f x)) xs) ++ front_of (option_and_then behind o)) (behind_none f xs)
    ∙ append-nil (front (map (λ x. Some (f x)) xs)) ∙ front_all f xs

added_none : {A B : Type 0} (f : A → B) (xs : List A) → added_of (map (λ x. Some (f x)) xs) ≡ None
added_none f xs = ap (option_map front) (behind_none f xs)

-- A list with one.
root_marked : {A B : Type 0} (f : A → B) (xs : List A) (more : List (Option B)) → root_of (map (λ x. Some (f x)) xs ++ None ∷ more) ≡ map f xs ++ front_of (behind more)
root_marked f xs more =
    ap (λ o. front (map (λ x. Some (f x)) xs ++ None ∷ more) ++ front_of (option_and_then behind o)) (behind_marked f xs more)
    ∙ ap (λ l. l ++ front_of (behind more)) (front_marked f xs more)

added_marked : {A B : Type 0} (f : A → B) (xs : List A) (more : List (Option B)) → added_of (map (λ x. Some (f x)) xs ++ None ∷ more) ≡ Some (front more)
added_marked f xs more = ap (option_map front) (behind_marked f xs more)

-- Items.
pub items_root : (items : Vec Item) (added : Option (Vec Item)) → root_of (items_view items added) ≡ items.items
items_root items None = root_all (λ i. i) items.items ∙ map-id items.items
items_root items (Some added) =
    root_marked (λ i. i) items.items (map (λ i. Some i) added.items)
    ∙ ap (λ o. map (λ i. i) items.items ++ front_of o) (behind_none (λ i. i) added.items)
    ∙ append-nil (map (λ i. i) items.items) ∙ map-id items.items

pub items_closed : (items : Vec Item) → added_of (items_view items None) ≡ None
items_closed items = added_none (λ i. i) items.items

pub items_added : (items added : Vec Item) → added_of (items_view items (Some added)) ≡ Some added.items
items_added items added = added_marked (λ i. i) items.items (map (λ i. Some i) added.items) ∙ ap Some (front_all (λ i. i) added.items ∙ map-id added.items)

-- Entries before others, without a marker among them.
front_append : {A : Type 0} (xs ys : List (Option A)) → behind xs ≡ None → front (xs ++ ys) ≡ front xs ++ front ys
front_append [] ys e = refl
front_append (None ∷ xs) ys e = cc e
front_append (Some x ∷ xs) ys e = ap (λ l. x ∷ l) (front_append xs ys e)

behind_append : {A : Type 0} (xs ys : List (Option A)) → behind xs ≡ None → behind (xs ++ ys) ≡ behind ys
behind_append [] ys e = refl
behind_append (None ∷ xs) ys e = cc e
behind_append (Some x ∷ xs) ys e = behind_append xs ys e

-- They are the root where no marker follows them, and else the root begins with them.
root_closed : {A : Type 0} (xs : List (Option A)) → behind xs ≡ None → root_of xs ≡ front xs
root_closed xs e = ap (λ o. front xs ++ front_of (option_and_then behind o)) e ∙ append-nil (front xs)

root_extended : {A : Type 0} (xs ys : List (Option A)) → behind xs ≡ None → root_of (xs ++ None ∷ ys) ≡ front xs ++ front_of (behind ys)
root_extended xs ys e =
    ap (λ o. front (xs ++ None ∷ ys) ++ front_of (option_and_then behind o)) (behind_append xs (None ∷ ys) e)
    ∙ ap (λ l. l ++ front_of (behind ys)) (front_append xs (None ∷ ys) e ∙ append-nil (front xs))

-- Lists one after another are known if each is.
put_first : {A : Type 0} (x : A) (o p : Option (List A)) → option_map (λ l. x ∷ l) (of_both (λ a b. a ++ b) o p) ≡ of_both (λ a b. a ++ b) (option_map (λ l. x ∷ l) o) p
put_first x None p = refl
put_first x (Some a) None = refl
put_first x (Some a) (Some b) = refl

none_before : {A : Type 0} (o : Option (List A)) → o ≡ of_both (λ a b. a ++ b) (Some []) o
none_before None = refl
none_before (Some x) = refl

known_append : {A : Type 0} (xs ys : List (Option A)) → all_known (xs ++ ys) ≡ of_both (λ a b. a ++ b) (all_known xs) (all_known ys)
known_append [] ys = none_before (all_known ys)
known_append (None ∷ xs) ys = refl
known_append (Some x ∷ xs) ys = ap (option_map (λ l. x ∷ l)) (known_append xs ys) ∙ put_first x (all_known xs) (all_known ys)

-- What entries are.
module _ (roots : Roots) (s : Scope) where
  -- No component is an extension marker.
  included_unmarked : (o : Option (List Part)) → behind (included o) ≡ None
  included_unmarked None = refl
  included_unmarked (Some ps) = behind_none (λ p. Some p) ps

  component_rolled : (place : Place) (l : Component-F Base Component code_member.Member Extension Members Notation) → behind (entry_parts roots s place (component_view (roll-Component l))) ≡ None
  component_rolled place (layer.Named name n presence) = ap (λ m. behind (entry_parts roots s place m)) (fold-roll-Component spec.Base spec.Member spec.Member (List spec.Member) (List spec.Member) spec.Notation base_step component_step member_step extension_step members_step notation_step (layer.Named name n presence))
  component_rolled place (layer.ComponentsOf n) = ap (λ m. behind (entry_parts roots s place m)) (fold-roll-Component spec.Base spec.Member spec.Member (List spec.Member) (List spec.Member) spec.Notation base_step component_step member_step extension_step members_step notation_step (layer.ComponentsOf n))
      ∙ included_unmarked (notation_roots roots s place (notation_view n))

  pub component_unmarked : (place : Place) (c : Component) → behind (entry_parts roots s place (component_view c)) ≡ None
  component_unmarked place c = ap (λ m. behind (entry_parts roots s place m)) (fold_out-Component spec.Base spec.Member spec.Member (List spec.Member) (List spec.Member) spec.Notation base_step component_step member_step extension_step members_step notation_step c ∙ sym (fold-roll-Component spec.Base spec.Member spec.Member (List spec.Member) (List spec.Member) spec.Notation base_step component_step member_step extension_step members_step notation_step (out-Component c))) ∙ component_rolled place (out-Component c)

  -- Nor are those that are seen by v, if none of them is.
  entries_unmarked : {A : Type 0} (place : Place) (v : A → Member) → ((x : A) → behind (entry_parts roots s place (v x)) ≡ None) → (xs : List A) → behind (parts roots s place (members_of (map v xs))) ≡ None
  entries_unmarked place v h [] = refl
  entries_unmarked place v h (x ∷ xs) = behind_append (entry_parts roots s place (v x)) (parts roots s place (members_of (map v xs))) (h x) ∙ entries_unmarked place v h xs

  member_rolled : (place : Place) (l : Member-F Base Component code_member.Member Extension Members Notation) → behind (entry_parts roots s place (member_view (roll-Member l))) ≡ None
  member_rolled place (layer.One c) = ap (λ m. behind (entry_parts roots s place m)) (fold-roll-Member spec.Base spec.Member spec.Member (List spec.Member) (List spec.Member) spec.Notation base_step component_step member_step extension_step members_step notation_step (layer.One c)) ∙ component_unmarked place c
  member_rolled place (layer.Group cs) = ap (λ m. behind (entry_parts roots s place m)) (fold-roll-Member spec.Base spec.Member spec.Member (List spec.Member) (List spec.Member) spec.Notation base_step component_step member_step extension_step members_step notation_step (layer.Group cs))
      ∙ entries_unmarked (between_brackets place) component_view (component_unmarked (between_brackets place)) cs.items

  pub member_unmarked : (place : Place) (m : code_member.Member) → behind (entry_parts roots s place (member_view m)) ≡ None
  member_unmarked place m = ap (λ x. behind (entry_parts roots s place x)) (fold_out-Member spec.Base spec.Member spec.Member (List spec.Member) (List spec.Member) spec.Notation base_step component_step member_step extension_step members_step notation_step m ∙ sym (fold-roll-Member spec.Base spec.Member spec.Member (List spec.Member) (List spec.Member) spec.Notation base_step component_step member_step extension_step members_step notation_step (out-Member m))) ∙ member_rolled place (out-Member m)

  -- A group.
  pub group_known : (place : Place) (cs : List Component) → known_parts roots s (between_brackets place) (map component_view cs) ≡ known_parts roots s place (spec.group (members_of (map component_view cs)) ∷ [])
  group_known place cs = ap (λ l. all_known (front l)) (sym (append-nil (parts roots s (between_brackets place) (members_of (map component_view cs)))))

  -- Entries one after another, of which each is seen by v, and none is a marker.
  module _ (place : Place) {A : Type 0} (v : A → Member) (unmarked : (x : A) → behind (entry_parts roots s place (v x)) ≡ None) where
    abbrev left : List A → Option (List Part)
    left xs = known_parts roots s place (map v xs)

    parts_step : (xs : List A) (i : ℕ) (x : A) → i < length xs → x ≡ get_or xs i x → left (drop i xs) ≡ of_both (λ a b. a ++ b) (known_parts roots s place (v x ∷ [])) (left (drop (i + 1) xs))
    parts_step xs i x h e =
        ap left (drop_at xs i x h e)
        ∙ ap all_known (front_append (entry_parts roots s place (v x)) (parts roots s place (members_of (map v (drop (i + 1) xs)))) (unmarked x))
        ∙ known_append (front (entry_parts roots s place (v x))) (front (parts roots s place (members_of (map v (drop (i + 1) xs)))))
        ∙ ap (λ l. of_both (λ a b. a ++ b) (all_known (front l)) (left (drop (i + 1) xs))) (sym (append-nil (entry_parts roots s place (v x))))

    more_behind : (found new after : List code.Part) (o : Option (List Part)) → after ≡ found ++ new → option_map (λ ys. map part_view found ++ ys) (of_both (λ a b. a ++ b) (Some (map part_view new)) o) ≡ option_map (λ ys. map part_view after ++ ys) o
    more_behind found new after None a = refl
    more_behind found new after (Some ys) a =
        sym (ap (λ l. Some (l ++ ys)) (ap (map part_view) a ∙ map-append part_view found new) ∙ ap Some (append_assoc (map part_view found) (map part_view new) ys))

    pub parts_more : (all : Option (List Part)) (found new after : List code.Part) (xs : List A) (i : ℕ) (x : A) → i < length xs → x ≡ get_or xs i x → all ≡ option_map (λ ys. map part_view found ++ ys) (left (drop i xs))
        → Some (map part_view new) ≡ known_parts roots s place (v x ∷ []) → after ≡ found ++ new → all ≡ option_map (λ ys. map part_view after ++ ys) (left (drop (i + 1) xs))
    parts_more all found new after xs i x h e was is a =
        was ∙ ap (option_map (λ ys. map part_view found ++ ys)) (parts_step xs i x h e ∙ ap (λ o. of_both (λ p q. p ++ q) o (left (drop (i + 1) xs))) (sym is)) ∙ more_behind found new after (left (drop (i + 1) xs)) a

    pub parts_missed : (all : Option (List Part)) (found : List code.Part) (xs : List A) (i : ℕ) (x : A) → i < length xs → x ≡ get_or xs i x → all ≡ option_map (λ ys. map part_view found ++ ys) (left (drop i xs)) → None ≡ known_parts roots s place (v x ∷ []) → None ≡ all
    parts_missed all found xs i x h e was is =
        sym (was ∙ ap (option_map (λ ys. map part_view found ++ ys)) (parts_step xs i x h e ∙ ap (λ o. of_both (λ p q. p ++ q) o (left (drop (i + 1) xs))) (sym is)))

    pub parts_end : (all : Option (List Part)) (found : List code.Part) (xs : List A) (i : ℕ) → length xs ≤ i → all ≡ option_map (λ ys. map part_view found ++ ys) (left (drop i xs)) → Some (map part_view found) ≡ all
    parts_end all found xs i h was = sym (was ∙ ap (λ l. option_map (λ ys. map part_view found ++ ys) (left l)) (drop_all i xs h) ∙ ap Some (append-nil (map part_view found)))

  -- The entries between the braces of a type.
  module _ (place : Place) where
    abbrev seen : List Member → List (Option (Option Part))
    seen ms = parts roots s place (members_of ms)

    abbrev held : List code_member.Member → List (Option (Option Part))
    held ms = seen (map member_view ms)

    seen_append : (xs ys : List Member) → seen (xs ++ ys) ≡ seen xs ++ seen ys
    seen_append [] ys = refl
    seen_append (x ∷ xs) ys = ap (λ l. entry_parts roots s place x ++ l) (seen_append xs ys) ∙ sym (append_assoc (entry_parts roots s place x) (seen xs) (seen ys))

    held_unmarked : (ms : List code_member.Member) → behind (held ms) ≡ None
    held_unmarked ms = entries_unmarked place member_view (member_unmarked place) ms

    -- The root stands before the first marker and after the second one.
    tail_root : (tail : Option (Vec code_member.Member)) → front_of (behind (seen (tail_seen tail))) ≡ front (held (items_of tail))
    tail_root None = refl
    tail_root (Some ms) = refl

    root_seen : (root : List code_member.Member) (x : Option Extension) → root_of (seen (map member_view root ++ extension_seen x)) ≡ front (held root) ++ front (held (tail_of x))
    root_seen root None =
        ap (λ l. root_of (seen l)) (append-nil (map member_view root)) ∙ root_closed (held root) (held_unmarked root) ∙ sym (append-nil (front (held root)))
    root_seen root (Some e) =
        let added = (out-Extension e).additions.items in
        let behind_added = map member_view added ++ tail_seen (out-Extension e).tail in
        ap root_of (seen_append (map member_view root) (marker ∷ behind_added)) ∙ root_extended (held root) (seen behind_added) (held_unmarked root)
        ∙ ap (λ o. front (held root) ++ front_of o) (ap behind (seen_append (map member_view added) (tail_seen (out-Extension e).tail)) ∙ behind_append (held added) (seen (tail_seen (out-Extension e).tail)) (held_unmarked added))
        ∙ ap (λ l. front (held root) ++ l) (tail_root (out-Extension e).tail)

    root_joined : (m : Members) → all_known (root_of (seen (members_view m)))
        ≡ of_both (λ a b. a ++ b) (known_parts roots s place (map member_view (out-Members m).root.items)) (known_parts roots s place (map member_view (tail_of (out-Members m).extension)))
    root_joined m =
        ap (λ l. all_known (root_of (seen l))) (members_out m) ∙ ap all_known (root_seen (out-Members m).root.items (out-Members m).extension)
        ∙ known_append (front (held (out-Members m).root.items)) (front (held (tail_of (out-Members m).extension)))

    module _ (m : Members) where
      abbrev known_front : Option (List Part)
      known_front = known_parts roots s place (map member_view (out-Members m).root.items)

      abbrev known_tail : Option (List Part)
      known_tail = known_parts roots s place (map member_view (tail_of (out-Members m).extension))

      pub root_frontless : None ≡ known_front → None ≡ all_known (root_of (seen (members_view m)))
      root_frontless e = sym (root_joined m ∙ ap (λ o. of_both (λ a b. a ++ b) o known_tail) (sym e))

      pub root_tailless : (before : List Part) → Some before ≡ known_front → None ≡ known_tail → None ≡ all_known (root_of (seen (members_view m)))
      root_tailless before e f = sym (root_joined m ∙ ap (λ o. of_both (λ a b. a ++ b) o known_tail) (sym e) ∙ ap (of_both (λ a b. a ++ b) (Some before)) (sym f))

      pub root_made : (before after all : List code.Part) → Some (map part_view before) ≡ known_front → Some (map part_view after) ≡ known_tail → all ≡ before ++ after → Some (map part_view all) ≡ all_known (root_of (seen (members_view m)))
      root_made before after all e f a =
          ap Some (ap (map part_view) a ∙ map-append part_view before after)
          ∙ sym (root_joined m ∙ ap (λ o. of_both (λ a b. a ++ b) o known_tail) (sym e) ∙ ap (of_both (λ a b. a ++ b) (Some (map part_view before))) (sym f))

    -- The extension additions stand between them.
    abbrev additions : Extension → List (Option Part)
    additions e = front (held (out-Extension e).additions.items)

    tail_front : (tail : Option (Vec code_member.Member)) → front (seen (tail_seen tail)) ≡ []
    tail_front None = refl
    tail_front (Some ms) = refl

    added_seen : (root : List code_member.Member) (x : Option Extension) → added_of (seen (map member_view root ++ extension_seen x)) ≡ option_map additions x
    added_seen root None = ap (λ l. added_of (seen l)) (append-nil (map member_view root)) ∙ ap (option_map front) (held_unmarked root)
    added_seen root (Some e) =
        let added = (out-Extension e).additions.items in
        let behind_added = map member_view added ++ tail_seen (out-Extension e).tail in
        ap added_of (seen_append (map member_view root) (marker ∷ behind_added)) ∙ ap (option_map front) (behind_append (held root) (None ∷ seen behind_added) (held_unmarked root))
        ∙ ap (λ l. Some (front l)) (seen_append (map member_view added) (tail_seen (out-Extension e).tail))
        ∙ ap Some (front_append (held added) (seen (tail_seen (out-Extension e).tail)) (held_unmarked added)
        ∙ ap (λ l. front (held added) ++ l) (tail_front (out-Extension e).tail) ∙ append-nil (front (held added)))

    added_out : (m : Members) → added_of (seen (members_view m)) ≡ option_map additions (out-Members m).extension
    added_out m = ap (λ l. added_of (seen l)) (members_out m) ∙ added_seen (out-Members m).root.items (out-Members m).extension

    -- The lists of a type, by its root and its additions.
    module _ (extensible : Bool) (m : Members) where
      abbrev joined : Option (List Part) → Option (Option (List Part)) → Option (List Part × Option (List Part))
      joined o p = of_both (λ root added. (root, option_map (map relaxed) added)) o p

      abbrev known_root : Option (List Part)
      known_root = all_known (root_of (seen (members_view m)))

      abbrev marked : Option Extension → Option (Option (List Part))
      marked x = if_marked all_known (implied extensible (option_map additions x))

      lists_out : lists_of extensible (seen (members_view m)) ≡ joined known_root (marked (out-Members m).extension)
      lists_out = ap (λ a. joined known_root (if_marked all_known (implied extensible a))) (added_out m)

      pub lists_rootless : None ≡ known_root → None ≡ lists_of extensible (seen (members_view m))
      lists_rootless e = sym (lists_out ∙ ap (λ o. joined o (marked (out-Members m).extension)) (sym e))

      lists_with : (x : Option Extension) (root : List Part) → (out-Members m).extension ≡ x → Some root ≡ known_root → lists_of extensible (seen (members_view m)) ≡ joined (Some root) (marked x)
      lists_with x root is e = lists_out ∙ ap (λ o. joined o (marked (out-Members m).extension)) (sym e) ∙ ap (λ y. joined (Some root) (marked y)) is

      pub lists_addless : (x : Extension) (root : List Part) → (out-Members m).extension ≡ Some x → Some root ≡ known_root → None ≡ all_known (additions x) → None ≡ lists_of extensible (seen (members_view m))
      lists_addless x root is e none = sym (lists_with (Some x) root is e ∙ ap (λ o. joined (Some root) (option_map (λ y. Some y) o)) (sym none))

      pub lists_extended : (x : Extension) (root added : List Part) → (out-Members m).extension ≡ Some x → Some root ≡ known_root → Some added ≡ all_known (additions x) → lists_of extensible (seen (members_view m)) ≡ Some (root, Some (map relaxed added))
      lists_extended x root added is e known = lists_with (Some x) root is e ∙ ap (λ o. joined (Some root) (option_map (λ y. Some y) o)) (sym known)

      pub lists_implied : (root : List Part) → (out-Members m).extension ≡ None → Some root ≡ known_root → extensible ≡ true → lists_of extensible (seen (members_view m)) ≡ Some (root, Some [])
      lists_implied root is e x = lists_with None root is e ∙ ap (λ b. joined (Some root) (if_marked all_known (if b then Some [] else None))) x

      pub lists_closed : (root : List Part) → (out-Members m).extension ≡ None → Some root ≡ known_root → extensible ≡ false → lists_of extensible (seen (members_view m)) ≡ Some (root, None)
      lists_closed root is e x = lists_with None root is e ∙ ap (λ b. joined (Some root) (if_marked all_known (if b then Some [] else None))) x
