-- Values without parts, by what stands at a node.
use Rattle.std.proofs.Common.{◌≡◌, ◌≢◌, refl, ap, sym, ◌∙◌, subst, ℕ, List, [], ◌∷◌, Bool, true, false, if◌then◌else◌, Option, Some, None, Result, Ok, Err, inl, inr, String, Global, string_bytes}
use Rattle.std.specs.Prelude.{IfSome}
use Rattle.std.specs.Str.{is_utf8, IsUtf8}
use Rattle.std.proofs.lemmas.Str.{is_utf8-from_IsUtf8}
use Rattle.asn_core.specs.declared.codec.Codec.TheVariants.{Avn}
use Rattle.asn_core.specs.declared.whole_number.WholeNumber.{WholeNumber}
use Rattle.asn_fault.specs.Failure.{Cause, Failure, at_root}
use Rattle.asn_model.specs.declared.leaves.LeafKind.{LeafKind}
use Rattle.asn_model.specs.declared.leaves.LeafKind.TheVariants.{Number, Text, Time, Date, Oid}
use Rattle.asn_model.specs.declared.leaves.OwnedLeaf.TheVariants as got
use Rattle.asn_coding.specs.Answer.{OfPlace, RefusesLeaf}
use Rattle.asn_traits.specs.Arcs.{braced_arcs, checked_identifier}
use Rattle.asn_traits.specs.Leaf.{LeafFailure, answer_kind, as_leaf, number_or, or_blame}
use Rattle.asn_traits.specs.Notation.{Notation}
use Rattle.asn_coding.specs.Opening.{IsTaken}
use Rattle.asn_traits.specs.Tree.{Tree}
use Rattle.asn_traits.specs.Value.{Value}
use Rattle.asn_coding.proofs.Refusing.{no_leaf, out_of_memory, refuses_because_or_memory}
use Rattle.avn_grammar.specs.Tree.{Tree as AvnTree, integer, char_string, octet_string, sequence_of}
use Rattle.avn_nodes.specs.NodeViews.{kind_of, text_of, octets_of}
use Rattle.avn_nodes.specs.declared.node_kind.NodeKind.TheVariants as kind
use Rattle.avn_rules.specs.LeafAnswer.{IsCause, IsWrong, RefusesKind}
use Rattle.avn_rules.specs.Numbers.{ReadsNumber}
use Rattle.avn_rules.specs.Parts.{elements_of}
use Rattle.avn_rules.specs.Pending.{avn_or_null}
use Rattle.avn_rules.proofs.NumbersTaken.{number_taken}
use Rattle.asn_model.specs.declared.words.TheConstants.{AVN_NO_UTF8}

-- The value of what stands at a node.
abbrev seen : Option AvnTree → Tree
seen o = Tree.avn (avn_or_null o)

-- A node that is no absent field has a value.
pub present_is : (o : Option AvnTree) → kind_of o ≢ kind.Absent → o ≡ Some (avn_or_null o)
present_is None h = absurd (h refl)
present_is (Some t) h = refl

integer_node : (o : Option AvnTree) → kind_of o ≡ kind.Integer → avn_or_null o ≡ integer (text_of o)
integer_node (Some (integer x)) e = refl
integer_node o e = let n : ⊥ = cc in absurd n

pub number_node_taken : (o : Option AvnTree) (text : List ℕ) (n : Option WholeNumber) → kind_of o ≡ kind.Integer → text ≡ text_of o → ReadsNumber text (Some n) → IsTaken Notation.avn Number (seen o) (got.Number n)
number_node_taken o text n e is r = number_taken text (avn_or_null o) n (integer_node o e ∙ ap integer (sym is)) r

-- The number of at most 128 bits that the text is, if it is one.
pub number_node_seen : (o : Option AvnTree) (text : List ℕ) (n : Option WholeNumber) → kind_of o ≡ kind.Integer → text ≡ text_of o → ReadsNumber text (Some n) → IfSome n (λ x. IsTaken Notation.avn Number (seen o) (got.Number (Some x)))
number_node_seen o text (Some x) e is r = number_node_taken o text (Some x) e is r
number_node_seen o text None e is r = tt

pub no_number_text : (o : Option AvnTree) (text : List ℕ) → kind_of o ≡ kind.Integer → text ≡ text_of o → ReadsNumber text None → as_leaf Notation.avn Number (seen o) ≡ Err (LeafFailure.because (Cause.integer_parse_error text))
no_number_text o text e is r =
    ap (λ t. as_leaf Notation.avn Number (Tree.avn t)) (integer_node o e ∙ ap integer (sym is)) ∙ ap (number_or (LeafFailure.because (Cause.integer_parse_error text))) r

-- A time and a date are read as a text is.
same_as_text : (k : LeafKind) (t : AvnTree) → answer_kind k ≡ Text → as_leaf Notation.avn k (Tree.avn t) ≡ as_leaf Notation.avn Text (Tree.avn t)
same_as_text Text t a = refl
same_as_text Time (char_string x) a = refl
same_as_text Time (octet_string o) a = refl
same_as_text Time t a = refl
same_as_text Date (char_string x) a = refl
same_as_text Date (octet_string o) a = refl
same_as_text Date t a = refl
same_as_text k t a = let n : ⊥ = cc in absurd n

octets_read : (o : Option AvnTree) → kind_of o ≡ kind.OctetString → avn_or_null o ≡ octet_string (octets_of o)
octets_read (Some (octet_string x)) e = refl
octets_read o e = let n : ⊥ = cc in absurd n

octets_as_text : (k : LeafKind) (o : Option AvnTree) (b : Bool) → answer_kind k ≡ Text → kind_of o ≡ kind.OctetString → is_utf8 (octets_of o) ≡ b
    → as_leaf Notation.avn k (seen o) ≡ (if b then Ok (Value.text (octets_of o)) else Err (LeafFailure.because (Cause.custom AVN_NO_UTF8.now)))
octets_as_text k o b a e is =
    same_as_text k (avn_or_null o) a ∙ ap (λ t. as_leaf Notation.avn Text (Tree.avn t)) (octets_read o e)
    ∙ ap (λ c. if c then Ok (Value.text (octets_of o)) else Err (LeafFailure.because (Cause.custom AVN_NO_UTF8.now))) is

pub no_utf8_text : (k : LeafKind) (o : Option AvnTree) (octets : List ℕ) → answer_kind k ≡ Text → kind_of o ≡ kind.OctetString → octets ≡ octets_of o → is_utf8 octets ≡ false → as_leaf Notation.avn k (seen o) ≡ Err (LeafFailure.because (Cause.custom AVN_NO_UTF8.now))
no_utf8_text k o octets a e is h = octets_as_text k o false a e (ap is_utf8 (sym is) ∙ h)

-- Octets of UTF-8 are a text, and their copy is that text.
pub utf8_text_taken : (k : LeafKind) (o : Option AvnTree) (octets : List ℕ) (text : String Global) → answer_kind k ≡ Text → kind_of o ≡ kind.OctetString → octets ≡ octets_of o → IsUtf8 octets → string_bytes text ≡ octets → IsTaken Notation.avn k (seen o) (got.Text text)
utf8_text_taken k o octets text a e is utf8 same = record {
  value = Value.text (octets_of o);
  reads = octets_as_text k o true a e (is_utf8-from_IsUtf8 _ (subst IsUtf8 is utf8));
  is = ap Value.text (sym (same ∙ is));
  kind = sym a;
}

pub elements_read : (o : Option AvnTree) → kind_of o ≡ kind.SequenceOf → as_leaf Notation.avn Oid (seen o) ≡ or_blame (checked_identifier (braced_arcs (elements_of o)))
elements_read (Some (sequence_of ts)) e = refl
elements_read o e = let n : ⊥ = cc in absurd n

-- Refusals.

pub memory_refused : (k : LeafKind) (t : Tree) (failure : Failure) → failure ≡ at_root Cause.out_of_memory Avn → RefusesKind k t failure
memory_refused k t failure e = λ s is. out_of_memory Avn failure e refl

pub kind_refused : (k : LeafKind) (t : Tree) (blame : LeafFailure) (failure : Failure) → as_leaf Notation.avn k t ≡ Err blame → RefusesLeaf Notation.avn t blame failure → RefusesKind k t failure
kind_refused k t blame failure says tells = λ s is. no_leaf k t blame (Some t ∷ []) [] failure refl says tells s is

pub cause_refused : (k : LeafKind) (t : Tree) (cause : Cause) (failure : Failure) → as_leaf Notation.avn k t ≡ Err (LeafFailure.because cause) → OfPlace Notation.avn cause Avn → IsCause cause failure → RefusesKind k t failure
cause_refused k t cause failure says of tells = kind_refused k t (LeafFailure.because cause) failure says (refuses_because_or_memory cause Avn t failure tells of refl)

pub wrong_refused : (k : LeafKind) (t : Tree) (r : Result Value Cause) (failure : Failure) → as_leaf Notation.avn k t ≡ or_blame r → IsWrong r failure → RefusesKind k t failure
wrong_refused k t r failure says (inl w) = cause_refused k t w.0 failure (says ∙ ap or_blame w.1) w.2 (inl w.3)
wrong_refused k t r failure says (inr e) = memory_refused k t failure e

-- What is wrong with the arcs is wrong with the identifier of them.
pub arcs_wrong : (r : Result (List ℕ) Cause) (failure : Failure) → IsWrong r failure → IsWrong (checked_identifier r) failure
arcs_wrong r failure (inl w) = inl (w.0, ap checked_identifier w.1, w.2, w.3)
arcs_wrong r failure (inr e) = inr e
