-- What JER reads of a JSON value, by its kind.
use Rattle.std.proofs.Common.{◌≡◌, ◌∷◌, refl, ap, sym, subst, ◌∙◌, List, Option, Some, None}
use Rattle.std.specs.Prelude.{option_map}
use Rattle.serde_json.specs.Data.{Data, Members}
use Rattle.serde_json.specs.Find.{as_array as items_in, as_object as members_in}
use Rattle.asn_fault.specs.Failure.{Failure}
use Rattle.asn_coding.specs.Answer.{AtRoot, Refuses, RefusesLeaf}
use Rattle.asn_traits.specs.FailsWith.{FailsWith}
use Rattle.asn_traits.specs.Leaf.{IsFailureOf, LeafFailure, choice_mismatch, list_mismatch, set_mismatch}
use Rattle.asn_traits.specs.Notation.{Notation}
use Rattle.asn_coding.specs.Opening.{list_shape}
use Rattle.asn_traits.specs.Shape.{SeqKind, Shape}
use Rattle.asn_traits.specs.Tree.{Slot, Tree, as_list, as_members, as_choice, head_slot, item_slots, member_slot}
use Rattle.asn_model.specs.declared.words.TheConstants.{JER_OBJECT}
use Rattle.asn_coding.proofs.Refusing.{no_list}
use Rattle.asn_coding.proofs.Steps.{refuses_by}

list-read : (d : Data) → as_list Notation.jer (Tree.json d) ≡ option_map item_slots (items_in d)
list-read Data.null = refl
list-read (Data.boolean b) = refl
list-read (Data.number n) = refl
list-read (Data.string x) = refl
list-read (Data.array ds) = refl
list-read (Data.object ms) = refl

members-read : (d : Data) → as_members Notation.jer (Tree.json d) ≡ option_map member_slot (members_in d)
members-read Data.null = refl
members-read (Data.boolean b) = refl
members-read (Data.number n) = refl
members-read (Data.string x) = refl
members-read (Data.array ds) = refl
members-read (Data.object ms) = refl

pub list-none : (d : Data) → items_in d ≡ None → as_list Notation.jer (Tree.json d) ≡ None
list-none d e = list-read d ∙ ap (option_map item_slots) e

pub members-none : (d : Data) → members_in d ≡ None → as_members Notation.jer (Tree.json d) ≡ None
members-none d e = members-read d ∙ ap (option_map member_slot) e

no_object : {A : Type 0} (ms : Members) → members_in (Data.object ms) ≡ None → A
no_object ms e = let x : ◌≡◌ {A = Option Members} (Some ms) None = e in cc x

pub choice-none : (d : Data) → members_in d ≡ None → as_choice Notation.jer (Tree.json d) ≡ None
choice-none (Data.object ms) e = no_object ms e
choice-none d e = refl

choice_mismatch-other : (d : Data) → members_in d ≡ None → choice_mismatch Notation.jer (Tree.json d) ≡ LeafFailure.mismatch JER_OBJECT.now
choice_mismatch-other (Data.object ms) e = no_object ms e
choice_mismatch-other d e = refl

-- The mismatch of a value that is no object is that of a choice.
pub choice_refused : (d : Data) (e : Failure) → members_in d ≡ None → RefusesLeaf Notation.jer (Tree.json d) (LeafFailure.mismatch JER_OBJECT.now) e → RefusesLeaf Notation.jer (Tree.json d) (choice_mismatch Notation.jer (Tree.json d)) e
choice_refused d e none tells = subst (λ blame. RefusesLeaf Notation.jer (Tree.json d) blame e) (sym (choice_mismatch-other d none)) tells

-- A tree that is no list decodes to no list of either kind.
pub no_list_of : (kind : SeqKind) (s : Shape) (t : Tree) (before after : List Slot) (e : Failure) → before ≡ Some t ∷ after → as_list Notation.jer t ≡ None → RefusesLeaf Notation.jer t (list_mismatch Notation.jer) e
    → Refuses Notation.jer (FailsWith Notation.jer (list_shape kind s) (head_slot before)) e
no_list_of SeqKind.sequence s t before after e was is tells = no_list s t before after e was is tells
no_list_of SeqKind.set s t before after e was is tells =
    refuses_by {P = AtRoot (IsFailureOf Notation.jer t (set_mismatch Notation.jer))} {Q = FailsWith Notation.jer (Shape.set_of s) (head_slot before)} (λ p w h. rw (was, h.0) (FailsWith.fails_no_set s t w is h.1)) e tells
