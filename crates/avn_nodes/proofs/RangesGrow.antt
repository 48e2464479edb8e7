-- Ranges of buffers that grow.
use Rattle.std.proofs.Common.{◌≡◌, ℕ, suc, ◌+◌, ◌-◌, ◌<◌, ◌≤◌, true, false, cond, Bool, List, [], ◌∷◌, ◌++◌, String, string_bytes, length, take, drop, get_or, set, map, refl, sym, ap, subst, ◌∙◌, arith, length-append, length-drop}
use Rattle.std.specs.Prelude.{slice_range}
use Rattle.std.specs.Str.{IsUtf8, IsCharBoundary}
use Rattle.std.specs.List.{All}
use Rattle.avn_nodes.proofs.NodeForms.{list_as, view_as}
use Rattle.avn_nodes.specs.NodeLists.{NodeList, with_octets, closed_node}
use Rattle.std.proofs.lemmas.List.{map-append, drop_at, drop_all, map-set, set_at, get_or_at, get_or-map, length-map, take_all, take-append-le, drop-append-le}
use Rattle.std.proofs.lemmas.List.Elements.{All-push, All-set}
use Rattle.std.proofs.lemmas.Str.{IsUtf8-string_bytes, IsCharBoundary-from_take}
use Rattle.avn_nodes.specs.NodeViews.{NodeView}
use Rattle.avn_nodes.specs.NodeKinds.{has_text, has_octets, has_arcs, HasNoContent}
use Rattle.avn_nodes.specs.NodeRanges.{IsCharRange, IsRange, HasRanges, view_of, node_list}
use Rattle.avn_nodes.specs.declared.nodes.Node.{Node}
use Rattle.avn_nodes.specs.declared.node_kind.NodeKind.{NodeKind}

pub char_range_of_rest : {Z : Type 0} (s : String Z) (a b n : ℕ) → IsCharRange (string_bytes s) a b → n ≡ length (string_bytes s) → IsCharRange (string_bytes s) b n
char_range_of_rest s a b n k e = record {
  order = omega (arith, k.within);
  within = omega arith;
  from = k.to;
  to = subst IsUtf8 (sym (take_all n (string_bytes s) (omega arith))) (IsUtf8-string_bytes s);
}

pub char_range_at_end : {Z : Type 0} (s : String Z) (n : ℕ) → n ≡ length (string_bytes s) → IsCharRange (string_bytes s) n n
char_range_at_end s n e = let u = subst IsUtf8 (sym (take_all n (string_bytes s) (omega arith))) (IsUtf8-string_bytes s) in record { order = omega arith; within = omega arith; from = u; to = u }

pub char_range_more : (xs more : List ℕ) (a b : ℕ) → IsCharRange xs a b → IsCharRange (xs ++ more) a b
char_range_more xs more a b k = record {
  order = k.order;
  within = omega (arith, k.within, length-append xs more);
  from = subst IsUtf8 (sym (take-append-le a xs more (omega (arith, k.order, k.within)))) k.from;
  to = subst IsUtf8 (sym (take-append-le b xs more k.within)) k.to;
}

pub part-more : (xs more : List ℕ) (a b : ℕ) → a ≤ b → b ≤ length xs → slice_range (xs ++ more) a b ≡ slice_range xs a b
part-more xs more a b h k = ap (take (b - a)) (drop-append-le a xs more (omega arith)) ∙ take-append-le (b - a) (drop a xs) more (omega (arith, length-drop a xs))

pub rest-part : (xs : List ℕ) (a n : ℕ) → n ≡ length xs → slice_range xs a n ≡ drop a xs
rest-part xs a n e = take_all (n - a) (drop a xs) (omega (arith, length-drop a xs))

held : {X : Type 0} (b : Bool) (x y z : X) → (b ≡ true → x ≡ y) → cond b x z ≡ cond b y z
held true x y z f = f refl
held false x y z f = refl

abbrev held_by : Node → List ℕ → List ℕ → List ℕ → List ℕ → NodeView
held_by n ys zs name text = record { kind = n.kind; name = name; text = text; octets = cond (has_octets n.kind) (slice_range ys n.start n.bound) []; bits = n.bit_length; arcs = cond (has_arcs n.kind) (slice_range zs n.start n.bound) []; end = n.end }

pub view_of-more : (xs ys zs more : List ℕ) (n : Node) → HasRanges xs ys zs n → view_of (xs ++ more) ys zs n ≡ view_of xs ys zs n
view_of-more xs ys zs more n k =
    ap (λ a. held_by n ys zs a (cond (has_text n.kind) (slice_range (xs ++ more) n.start n.bound) [])) (part-more xs more n.name_start n.name_end k.name.order k.name.within)
    ∙ ap (held_by n ys zs (slice_range xs n.name_start n.name_end)) (held (has_text n.kind) _ _ [] (λ e. let c = k.text e in part-more xs more n.start n.bound c.order c.within))

map-same : {X Y : Type 0} (f g : X → Y) (xs : List X) (d : X) → ((i : ℕ) → i < length xs → f (get_or xs i d) ≡ g (get_or xs i d)) → map f xs ≡ map g xs
map-same f g [] d h = refl
map-same f g (x ∷ xs) d h = ap (λ y. y ∷ map f xs) (h 0 (omega arith)) ∙ ap (λ ys. g x ∷ ys) (map-same f g xs d (λ i l. h (suc i) (omega arith)))

pub all_views-more : (xs ys zs more : List ℕ) (ns : List Node) → All (HasRanges xs ys zs) ns → map (view_of (xs ++ more) ys zs) ns ≡ map (view_of xs ys zs) ns
all_views-more xs ys zs more [] k = refl
all_views-more xs ys zs more (n ∷ ns) k = map-same (view_of (xs ++ more) ys zs) (view_of xs ys zs) (n ∷ ns) n (λ i l. view_of-more xs ys zs more (get_or (n ∷ ns) i n) (k i n l))

-- A node of a range that the text has.
pub within_leaf : (xs ys zs : List ℕ) (n : Node) → IsCharRange xs n.name_start n.name_end → IsCharRange xs n.start n.bound → has_octets n.kind ≡ false → has_arcs n.kind ≡ false → HasRanges xs ys zs n
within_leaf xs ys zs n k l e f = record { name = k; text = λ _. l; octets = λ h. let no : ⊥ = cc in absurd no; arcs = λ h. let no : ⊥ = cc in absurd no }

pub within_plain : (xs ys zs : List ℕ) (n : Node) → IsCharRange xs n.name_start n.name_end → HasNoContent n.kind → HasRanges xs ys zs n
within_plain xs ys zs n k p = record { name = k; text = λ h. let e = p.text in let no : ⊥ = cc in absurd no; octets = λ h. let e = p.octets in let no : ⊥ = cc in absurd no; arcs = λ h. let e = p.arcs in let no : ⊥ = cc in absurd no }

abbrev holding : Node → List ℕ → List ℕ → List ℕ → Bool → Bool → Bool → NodeView
holding n xs ys zs a b c = record { kind = n.kind; name = slice_range xs n.name_start n.name_end; text = cond a (slice_range xs n.start n.bound) []; octets = cond b (slice_range ys n.start n.bound) []; bits = n.bit_length; arcs = cond c (slice_range zs n.start n.bound) []; end = n.end }

pub node_list-more : (xs ys zs more new : List ℕ) (ns : List Node) (a b : ℕ) → All (HasRanges xs ys zs) ns → IsCharRange xs a b → new ≡ xs ++ more → (s : NodeList) → node_list xs ys zs ns a b ≡ s → node_list new ys zs ns a b ≡ record s { word = s.word ++ more }
node_list-more xs ys zs more new ns a b k l e s f =
    let all : NodeList → NodeList = λ s. record s { word = s.word ++ more } in
    ap (λ x. node_list x ys zs ns a b) e ∙ ap (λ cs. list_as cs (slice_range (xs ++ more) a b) (drop b (xs ++ more))) (all_views-more xs ys zs more ns k)
    ∙ ap (λ n. list_as (map (view_of xs ys zs) ns) n (drop b (xs ++ more))) (part-more xs more a b l.order l.within) ∙ ap (list_as (map (view_of xs ys zs) ns) (slice_range xs a b)) (drop-append-le b xs more l.within) ∙ ap all f

abbrev pub patched : Node → NodeKind → ℕ → Node
patched n k end = record { kind = k; name_start = n.name_start; name_end = n.name_end; start = n.start; bound = n.bound; bit_length = n.bit_length; end = end }

view_of-plain : (xs ys zs : List ℕ) (n : Node) → HasNoContent n.kind → view_of xs ys zs n ≡ closed_node n.kind n.end (view_of xs ys zs n)
view_of-plain xs ys zs n p =
    ap (λ b. holding n xs ys zs b (has_octets n.kind) (has_arcs n.kind)) p.text ∙ ap (λ b. holding n xs ys zs false b (has_arcs n.kind)) p.octets ∙ ap (holding n xs ys zs false false) p.arcs

pub closed_views : (xs ys zs : List ℕ) (ns : List Node) (i : ℕ) (n : Node) (k : NodeKind) (end : ℕ) (before after : List NodeView) (d : NodeView) → n ≡ get_or ns i n → i < length ns → HasNoContent k
    → map (view_of xs ys zs) ns ≡ before ++ (d ∷ after) → length before ≡ i → map (view_of xs ys zs) (set ns i (patched n k end)) ≡ before ++ (closed_node k end d ∷ after)
closed_views xs ys zs ns i n k end before after d e l p f g =
    let same : view_of xs ys zs n ≡ d = ap (view_of xs ys zs) e ∙ sym (get_or-map (view_of xs ys zs) ns i n d l) ∙ ap (λ cs. get_or cs i d) f ∙ get_or_at before d after d i g in
    map-set (view_of xs ys zs) ns i (patched n k end) ∙ ap (λ cs. set cs i (view_of xs ys zs (patched n k end))) f ∙ set_at before d after (view_of xs ys zs (patched n k end)) i g
    ∙ ap (λ x. before ++ (x ∷ after)) (view_of-plain xs ys zs (patched n k end) p ∙ ap (λ x. closed_node k end x) same)

-- All nodes still lie within the buffers.
module _ (xs ys zs : List ℕ) where
  pub leaf_within : (ns new : List Node) (n : Node) → new ≡ ns ++ (n ∷ []) → All (HasRanges xs ys zs) ns → IsCharRange xs n.name_start n.name_end → IsCharRange xs n.start n.bound → has_octets n.kind ≡ false → has_arcs n.kind ≡ false → All (HasRanges xs ys zs) new
  leaf_within ns new n e k a b f g = let P : Node → Type 0 = HasRanges xs ys zs in subst (All P) (sym e) (All-push P ns n k (within_leaf xs ys zs n a b f g))

  pub plain_within : (ns new : List Node) (n : Node) → new ≡ ns ++ (n ∷ []) → All (HasRanges xs ys zs) ns → IsCharRange xs n.name_start n.name_end → HasNoContent n.kind → All (HasRanges xs ys zs) new
  plain_within ns new n e k a p = let P : Node → Type 0 = HasRanges xs ys zs in subst (All P) (sym e) (All-push P ns n k (within_plain xs ys zs n a p))

  pub closed_within : (ns : List Node) (i : ℕ) (n : Node) (k : NodeKind) (end : ℕ) → n ≡ get_or ns i n → i < length ns → HasNoContent k → All (HasRanges xs ys zs) ns → All (HasRanges xs ys zs) (set ns i (patched n k end))
  closed_within ns i n k end e l p a =
      let P : Node → Type 0 = HasRanges xs ys zs in
      let w = subst P (sym e) (a i n l) in
      All-set P ns i (patched n k end) (within_plain xs ys zs (patched n k end) w.name p) a

range_more : (xs more : List ℕ) (a b : ℕ) → IsRange xs a b → IsRange (xs ++ more) a b
range_more xs more a b k = record { order = k.order; within = omega (arith, k.within, length-append xs more) }

pub within_octets : (xs ys zs more : List ℕ) (n : Node) → HasRanges xs ys zs n → HasRanges xs (ys ++ more) zs n
within_octets xs ys zs more n k = record { name = k.name; text = k.text; octets = λ e. range_more ys more n.start n.bound (k.octets e); arcs = k.arcs }

pub within_arcs : (xs ys zs more : List ℕ) (n : Node) → HasRanges xs ys zs n → HasRanges xs ys (zs ++ more) n
within_arcs xs ys zs more n k = record { name = k.name; text = k.text; octets = k.octets; arcs = λ e. range_more zs more n.start n.bound (k.arcs e) }

view_of-octets : (xs ys zs more : List ℕ) (n : Node) → HasRanges xs ys zs n → view_of xs (ys ++ more) zs n ≡ view_of xs ys zs n
view_of-octets xs ys zs more n k =
    ap (λ x. view_as n.kind (slice_range xs n.name_start n.name_end) (cond (has_text n.kind) (slice_range xs n.start n.bound) []) x n.bit_length (cond (has_arcs n.kind) (slice_range zs n.start n.bound) []) n.end)
    (held (has_octets n.kind) _ _ [] (λ e. let c = k.octets e in part-more ys more n.start n.bound c.order c.within))

view_of-arcs : (xs ys zs more : List ℕ) (n : Node) → HasRanges xs ys zs n → view_of xs ys (zs ++ more) n ≡ view_of xs ys zs n
view_of-arcs xs ys zs more n k =
    ap (λ x. view_as n.kind (slice_range xs n.name_start n.name_end) (cond (has_text n.kind) (slice_range xs n.start n.bound) []) (cond (has_octets n.kind) (slice_range ys n.start n.bound) []) n.bit_length x n.end)
    (held (has_arcs n.kind) _ _ [] (λ e. let c = k.arcs e in part-more zs more n.start n.bound c.order c.within))

all_same : {P : Node → Type 0} (f g : Node → NodeView) (ns : List Node) → All P ns → ((n : Node) → P n → f n ≡ g n) → map f ns ≡ map g ns
all_same f g [] k h = refl
all_same f g (n ∷ ns) k h = map-same f g (n ∷ ns) n (λ i l. h (get_or (n ∷ ns) i n) (k i n l))

all_within : {P Q : Node → Type 0} (ns : List Node) → All P ns → ((n : Node) → P n → Q n) → All Q ns
all_within ns k h = λ i d l. h (get_or ns i d) (k i d l)

-- The part that was put to the end.
last-part : (xs more new : List ℕ) (i j : ℕ) → new ≡ xs ++ more → i ≡ length xs → j ≡ length new → slice_range new i j ≡ more
last-part xs more new i j e f g =
    rest-part new i j g ∙ ap (drop i) e ∙ ap (λ n. drop n (xs ++ more)) f ∙ drop_at xs more (length xs) refl

pub no-part : (xs : List ℕ) (m : ℕ) → slice_range xs m m ≡ []
no-part xs m = let e : m - m ≡ 0 = omega arith in ap (λ n. take n (drop m xs)) e

pub no-rest : (xs : List ℕ) (m : ℕ) → m ≡ length xs → drop m xs ≡ []
no-rest xs m e = drop_all m xs (omega arith)

-- A node more over buffers of which one grew, where the name and the word begin anew.
pushed : (xs ys zs ys2 zs2 : List ℕ) (ns ms : List Node) (n : Node) (a b m : ℕ) (s : NodeList) (d : List ℕ → ℕ → NodeView) → map (view_of xs ys2 zs2) ns ≡ map (view_of xs ys zs) ns → ms ≡ ns ++ (n ∷ []) → node_list xs ys zs ns a b ≡ s → m ≡ length xs
    → view_of xs ys2 zs2 n ≡ d (slice_range xs a b) (length ns) → node_list xs ys2 zs2 ms m m ≡ record { nodes = s.nodes ++ (d s.name (length s.nodes) ∷ []); name = []; word = [] }
pushed xs ys zs ys2 zs2 ns ms n a b m s d same e f g h =
    let cs = map (view_of xs ys zs) ns in
    let all : map (view_of xs ys2 zs2) ms ≡ cs ++ (d (slice_range xs a b) (length cs) ∷ []) =
    ap (map (view_of xs ys2 zs2)) e ∙ map-append (view_of xs ys2 zs2) ns (n ∷ []) ∙ ap (λ x. x ++ (view_of xs ys2 zs2 n ∷ [])) same ∙ ap (λ x. cs ++ (x ∷ [])) h ∙ ap (λ k. cs ++ (d (slice_range xs a b) k ∷ [])) (sym (length-map ns (view_of xs ys zs))) in
    ap (λ x. list_as x (slice_range xs m m) (drop m xs)) all
    ∙ ap (λ x. list_as (cs ++ (d (slice_range xs a b) (length cs) ∷ [])) x (drop m xs)) (no-part xs m) ∙ ap (list_as (cs ++ (d (slice_range xs a b) (length cs) ∷ [])) []) (no-rest xs m g)
    ∙ ap (λ (x : NodeList). list_as (x.nodes ++ (d x.name (length x.nodes) ∷ [])) [] []) f

module _ (xs ys zs more new : List ℕ) (ns ms : List Node) (k : NodeKind) (a b i j bits end : ℕ) (grew : ms ≡ ns ++ (record { kind = k; name_start = a; name_end = b; start = i; bound = j; bit_length = bits; end = end } ∷ [])) (all : All (HasRanges xs ys zs) ns) (name : IsCharRange xs a b) where
  pub octets_within : new ≡ ys ++ more → i ≡ length ys → j ≡ length new → has_text k ≡ false → has_arcs k ≡ false → All (HasRanges xs new zs) ms
  octets_within e f g p q =
      let P : Node → Type 0 = HasRanges xs new zs in
      let lies : IsRange new i j = record { order = omega (arith, ap (λ (x : List ℕ). length x) e, length-append ys more); within = omega arith } in
      let here : P (record { kind = k; name_start = a; name_end = b; start = i; bound = j; bit_length = bits; end = end }) =
      record { name = name; text = λ h. let n : ⊥ = cc in absurd n; octets = λ _. lies; arcs = λ h. let n : ⊥ = cc in absurd n } in
      subst (All P) (sym grew) (All-push P ns _ (subst (λ x. All (HasRanges xs x zs) ns) (sym e) (all_within ns all (λ n w. within_octets xs ys zs more n w))) here)

  pub octets_listed : new ≡ ys ++ more → i ≡ length ys → j ≡ length new → has_text k ≡ false → has_octets k ≡ true → has_arcs k ≡ false → end ≡ length ns + 1 → (m : ℕ) → m ≡ length xs → (s : NodeList) → node_list xs ys zs ns a b ≡ s → node_list xs new zs ms m m ≡ with_octets k more bits s
  octets_listed e f g p o q u m v s w =
      let suc-end : end ≡ suc (length ns) = omega arith in
      pushed xs ys zs new zs ns ms _ a b m s (λ name len. view_as k name [] more bits [] (suc len))
      (ap (λ x. map (view_of xs x zs) ns) e ∙ all_same (view_of xs (ys ++ more) zs) (view_of xs ys zs) ns all (λ n w. view_of-octets xs ys zs more n w)) grew w v
      (ap (λ x. view_as k (slice_range xs a b) (cond x (slice_range xs i j) []) (cond (has_octets k) (slice_range new i j) []) bits (cond (has_arcs k) (slice_range zs i j) []) end) p
      ∙ ap (λ x. view_as k (slice_range xs a b) [] (cond x (slice_range new i j) []) bits (cond (has_arcs k) (slice_range zs i j) []) end) o
      ∙ ap (λ x. view_as k (slice_range xs a b) [] (slice_range new i j) bits (cond x (slice_range zs i j) []) end) q
      ∙ ap (λ x. view_as k (slice_range xs a b) [] x bits [] end) (last-part ys more new i j e f g) ∙ ap (view_as k (slice_range xs a b) [] more bits []) suc-end)

  pub arcs_within : new ≡ zs ++ more → i ≡ length zs → j ≡ length new → has_text k ≡ false → has_octets k ≡ false → All (HasRanges xs ys new) ms
  arcs_within e f g p q =
      let P : Node → Type 0 = HasRanges xs ys new in
      let lies : IsRange new i j = record { order = omega (arith, ap (λ (x : List ℕ). length x) e, length-append zs more); within = omega arith } in
      let here : P (record { kind = k; name_start = a; name_end = b; start = i; bound = j; bit_length = bits; end = end }) =
      record { name = name; text = λ h. let n : ⊥ = cc in absurd n; octets = λ h. let n : ⊥ = cc in absurd n; arcs = λ _. lies } in
      subst (All P) (sym grew) (All-push P ns _ (subst (λ x. All (HasRanges xs ys x) ns) (sym e) (all_within ns all (λ n w. within_arcs xs ys zs more n w))) here)

  pub arcs_listed : new ≡ zs ++ more → i ≡ length zs → j ≡ length new → has_text k ≡ false → has_octets k ≡ false → has_arcs k ≡ true → end ≡ length ns + 1 → (m : ℕ) → m ≡ length xs → (s : NodeList) → node_list xs ys zs ns a b ≡ s
      → node_list xs ys new ms m m ≡ record { nodes = s.nodes ++ (view_as k s.name [] [] bits more (suc (length s.nodes)) ∷ []); name = []; word = [] }
  arcs_listed e f g p o q u m v s w =
      let suc-end : end ≡ suc (length ns) = omega arith in
      pushed xs ys zs ys new ns ms _ a b m s (λ name len. view_as k name [] [] bits more (suc len))
      (ap (λ x. map (view_of xs ys x) ns) e ∙ all_same (view_of xs ys (zs ++ more)) (view_of xs ys zs) ns all (λ n w. view_of-arcs xs ys zs more n w)) grew w v
      (ap (λ x. view_as k (slice_range xs a b) (cond x (slice_range xs i j) []) (cond (has_octets k) (slice_range ys i j) []) bits (cond (has_arcs k) (slice_range new i j) []) end) p
      ∙ ap (λ x. view_as k (slice_range xs a b) [] (cond x (slice_range ys i j) []) bits (cond (has_arcs k) (slice_range new i j) []) end) o
      ∙ ap (λ x. view_as k (slice_range xs a b) [] [] bits (cond x (slice_range new i j) []) end) q
      ∙ ap (λ x. view_as k (slice_range xs a b) [] [] bits x end) (last-part zs more new i j e f g) ∙ ap (view_as k (slice_range xs a b) [] [] bits more) suc-end)

pub char_range_edges : {Z : Type 0} (s : String Z) (a b : ℕ) → IsCharRange (string_bytes s) a b → IsCharBoundary (string_bytes s) a × IsCharBoundary (string_bytes s) b
char_range_edges s a b k =
    (IsCharBoundary-from_take (string_bytes s) a (IsUtf8-string_bytes s) (omega (arith, k.order, k.within)) k.from, IsCharBoundary-from_take (string_bytes s) b (IsUtf8-string_bytes s) k.within k.to)
