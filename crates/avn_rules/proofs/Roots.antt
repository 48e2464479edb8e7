-- Whole texts, read and written.
use Rattle.std.proofs.Common.{◌≡◌, refl, true, ap, sym, ◌∙◌, subst, ℕ, List, [], ◌∷◌, map, Option, Some, None, Result, Ok, Err, IfErr, String, Global, string_bytes}
use Rattle.std.specs.Prelude.{option_map}
use Rattle.asn_slots.specs.Slots.{last_present}
use Rattle.asn_slots.specs.Trees.{trees_of}
use Rattle.asn_slots.proofs.Trees.{last-trees, no_tree}
use Rattle.asn_fault.specs.Failure.{Failure, is_out_of_memory}
use Rattle.asn_traits.specs.Canonical.{avn_tree, canonical_text}
use Rattle.asn_traits.specs.Notation.{Notation}
use Rattle.asn_coding.specs.Root.{RootAnswerBy, ReadsBy}
use Rattle.asn_coding.specs.Writing.{Frame}
use Rattle.asn_traits.specs.DecodesTo.{DecodesTo}
use Rattle.asn_traits.specs.Shape.{Shape}
use Rattle.asn_traits.specs.Tree.{Tree}
use Rattle.asn_traits.specs.Value.{Value}
use Rattle.asn_coding.proofs.Whole.{root_complete}
use Rattle.avn_grammar.specs.Print.{print}
use Rattle.avn_grammar.specs.Tree.{Tree as AvnTree}
use Rattle.avn_grammar.proofs.OneAnswer.{reads-unread, reads-deep}
use Rattle.avn_grammar.proofs.OneTree.{same_parses}
use Rattle.avn_frames.specs.Listing.{IsListOf, last_frame}
use Rattle.avn_nodes.specs.Forest.{tree_of_nodes}
use Rattle.avn_nodes.specs.ForestLaws.{tree_of_nodes-node_views}
use Rattle.avn_nodes.specs.NodeLists.{NodeList, extended, no_nodes}
use Rattle.avn_nodes.specs.Preorder.{preorder}
use Rattle.avn_value.specs.Answer.{Explains}
use Rattle.avn_rules.specs.Text.{IsAvn, NoTree, RefusesText}

-- A refusal of the tree is one of its text.
pub text_refused : {A E : Type 0} (failure : E → Failure) (limit : ℕ) (s : Shape) (value : A → Value) (text : List ℕ) (t : AvnTree) (r : Result A E) → IsAvn limit text t → RootAnswerBy failure Notation.avn s value (Tree.avn t) r → IfErr r (λ e. RefusesText limit s text (failure e))
text_refused failure limit s value text t (Ok x) is h = tt
text_refused failure limit s value text t (Err e) is h = RefusesText.no_value t is h

-- A text that decodes to a value is read as that value.
pub text_complete : {A E : Type 0} (failure : E → Failure) (limit : ℕ) (s : Shape) (value : A → Value) (text : List ℕ) (t : AvnTree) (r : Result A E) → IsAvn limit text t → RootAnswerBy failure Notation.avn s value (Tree.avn t) r
    → (u : AvnTree) (v : Value) → IsAvn limit text u → DecodesTo Notation.avn s (Some (Tree.avn u)) v → ReadsBy failure value v r
text_complete failure limit s value text t r is h u v was says =
    root_complete failure Notation.avn s value (Tree.avn t) r tt h v (subst (λ x. DecodesTo Notation.avn s (Some (Tree.avn x)) v) ((same_parses was.1 is.1).0) says)

-- A text that is a value of the notation is refused for lack of memory alone.
pub explained_memory : (limit : ℕ) (text : List ℕ) {failure : Failure} {t : AvnTree} → NoTree limit text failure → IsAvn limit text t → is_out_of_memory failure ≡ true
explained_memory limit text (Explains.unexpected_token found u) r = absurd (reads-unread r u)
explained_memory limit text (Explains.exceeds_depth d) r = absurd (reads-deep r d)
explained_memory limit text Explains.out_of_memory r = refl

-- The last tree of the last frame is that of the last value.
pub last_held : (frames : List (List (Option AvnTree))) (f : Frame) (fs : List Frame) → map (trees_of avn_tree) (f ∷ fs) ≡ frames → last_present (last_frame frames) ≡ option_map avn_tree (last_present f)
last_held frames f fs h = ap (λ x. last_present (last_frame x)) (sym h) ∙ last-trees avn_tree f

-- Where there is no last tree, there is no last value.
pub none_held : (frames : List (List (Option AvnTree))) (f : Frame) (fs : List Frame) → last_present (last_frame frames) ≡ None → map (trees_of avn_tree) (f ∷ fs) ≡ frames → last_present f ≡ None
none_held frames f fs none h = no_tree avn_tree (last_present f) (sym (last_held frames f fs h) ∙ none)

printed : (o : Option Value) → option_map (print 0) (option_map avn_tree o) ≡ option_map (canonical_text Notation.avn) o
printed None = refl
printed (Some v) = refl

-- The text of the last tree is the canonical one of the last value.
pub text_held : (frames : List (List (Option AvnTree))) (text : Option (String Global)) (f : Frame) (fs : List Frame) → option_map string_bytes text ≡ option_map (print 0) (last_present (last_frame frames)) → map (trees_of avn_tree) (f ∷ fs) ≡ frames
    → option_map (canonical_text Notation.avn) (last_present f) ≡ option_map string_bytes text
text_held frames text f fs e h = sym (e ∙ ap (option_map (print 0)) (last_held frames f fs h) ∙ printed (last_present f))

tree-listed : (s : NodeList) (t : AvnTree) → s ≡ extended no_nodes (preorder [] t) → tree_of_nodes s.nodes ≡ t
tree-listed s t e = ap (λ (x : NodeList). tree_of_nodes x.nodes) e ∙ tree_of_nodes-node_views t

-- The nodes of a slot alone are those of the tree that they list.
pub tree_listed : (s : NodeList) (o : Option AvnTree) → IsListOf s o → s ≡ extended no_nodes (preorder [] (tree_of_nodes s.nodes))
tree_listed s None e = absurd e
tree_listed s (Some t) e = e ∙ ap (λ u. extended no_nodes (preorder [] u)) (sym (tree-listed s t e))

-- The slot is that tree.
pub slot_listed : (s : NodeList) (o : Option AvnTree) → IsListOf s o → o ≡ Some (tree_of_nodes s.nodes)
slot_listed s None e = absurd e
slot_listed s (Some t) e = ap Some (sym (tree-listed s t e))
