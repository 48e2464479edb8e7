-- Whole texts, read and written.
use Rattle.std.proofs.Common.{◌≡◌, sym, ◌∙◌, subst, ℕ, List, Option, Some, Result, Ok, Err, IfErr}
use Rattle.serde_json.specs.Data.{Data}
use Rattle.serde_json.specs.Read.{read}
use Rattle.asn_fault.specs.Failure.{Failure}
use Rattle.asn_traits.specs.Notation.{Notation}
use Rattle.asn_coding.specs.Root.{RootAnswerBy, ReadsBy}
use Rattle.asn_traits.specs.DecodesTo.{DecodesTo}
use Rattle.asn_traits.specs.Shape.{Shape}
use Rattle.asn_traits.specs.Tree.{Tree}
use Rattle.asn_traits.specs.Value.{Value}
use Rattle.asn_coding.proofs.Whole.{root_complete}
use Rattle.jer_rules.specs.Text.{IsJer, RefusesText}

-- A refusal of the tree is one of its text.
pub text_refused : {A E : Type 0} (failure : E → Failure) (s : Shape) (value : A → Value) (text : List ℕ) (d : Data) (r : Result A E) → IsJer text d → RootAnswerBy failure Notation.jer s value (Tree.json d) r → IfErr r (λ e. RefusesText s text (failure e))
text_refused failure s value text d (Ok x) is h = tt
text_refused failure s value text d (Err e) is h = RefusesText.no_value d is h

-- A text is one JSON value at most.
one_data : (text : List ℕ) (d e : Data) → read text ≡ Some d → read text ≡ Some e → d ≡ e
one_data text d e h k = let x : ◌≡◌ {A = Option Data} (Some d) (Some e) = sym h ∙ k in cc x

-- A text that decodes to a value is read as that value.
pub text_complete : {A E : Type 0} (failure : E → Failure) (s : Shape) (value : A → Value) (text : List ℕ) (d : Data) (r : Result A E) → IsJer text d → RootAnswerBy failure Notation.jer s value (Tree.json d) r
    → (e : Data) (v : Value) → IsJer text e → DecodesTo Notation.jer s (Some (Tree.json e)) v → ReadsBy failure value v r
text_complete failure s value text d r is h e v was says =
    root_complete failure Notation.jer s value (Tree.json d) r tt h v (subst (λ x. DecodesTo Notation.jer s (Some (Tree.json x)) v) (one_data text e d was.0 is.0) says)
