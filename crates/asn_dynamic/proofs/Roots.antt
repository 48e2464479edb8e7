-- A whole text, read by a part around which no loop is open.
use Rattle.std.proofs.Common.{◌≡◌, ◌⊎◌, sym, ap, ◌∙◌, subst, ℕ, List, [], ◌∷◌, Option, Some, None, Result, Ok, Err, true, false, inl, inr}
use Rattle.std.specs.Prelude.{IfErr, IfOk}
use Rattle.serde_json.specs.Data.{Data}
use Rattle.serde_json.specs.Written.{has_float}
use Rattle.asn_codec.specs.Texts.{HasTree, IsDecodeFailure, TextDecodesTo}
use Rattle.asn_coding.specs.Answer.{AnswerBy}
use Rattle.asn_coding.specs.Root.{RootAnswerBy}
use Rattle.asn_coding.proofs.Whole.{root_answer}
use Rattle.asn_core.specs.declared.codec.Codec.{Codec}
use Rattle.asn_core.specs.declared.codec.Codec.TheVariants.{Avn, Jer}
use Rattle.asn_dynamic_reading.specs.fitting.HeldValue.{IsHeldValue}
use Rattle.asn_dynamic_faults.specs.DynFailure.{IsTold, dyn_failure, recoded}
use Rattle.asn_dynamic_faults.specs.declared.errors.DynError.{DynError}
use Rattle.asn_dynamic_values.specs.DynView.{dyn_value}
use Rattle.asn_dynamic_values.specs.declared.value.DynValue.{DynValue}
use Rattle.asn_fault.specs.Failure.{Cause, Failure, at_root, is_out_of_memory}
use Rattle.asn_model.specs.DecodesTo.{DecodesTo}
use Rattle.asn_model.specs.Notation.{IsText, Notation}
use Rattle.asn_model.specs.Readable.{is_readable}
use Rattle.asn_model.specs.Shape.{Shape}
use Rattle.asn_model.specs.Tree.{Slot, Tree}
use Rattle.asn_model.specs.Value.{Fits, Value}
use Rattle.asn_parts.specs.Chain.{bodies_of}
use Rattle.asn_parts.specs.declared.loops.Loops.TheVariants.{Outermost}
use Rattle.asn_parts.proofs.Chains.{bodies-outermost}
use Rattle.asn_parts.specs.Bodies.{IsReadablePart, meant}
use Rattle.asn_parts.proofs.Closing.{closed-none}
use Rattle.avn_value.specs.Answer.{Explains}
use Rattle.jer_rules.specs.Text as jer

module _ {P : Type 0} (shape : List P → P → Shape) (part : P) where
  -- The part is read where no loop is open.
  pub root-part : is_readable (shape [] part) ≡ true → IsReadablePart shape (bodies_of {P = P} Outermost) part
  root-part e = subst (λ bodies. IsReadablePart shape bodies part) (sym (bodies-outermost P)) (tt, ap is_readable (closed-none (shape [] part) 0) ∙ e)

  root-meant : meant shape (bodies_of {P = P} Outermost) part ≡ shape [] part
  root-meant = ap (λ bodies. meant shape bodies part) (bodies-outermost P) ∙ closed-none (shape [] part) 0

  -- What it answers is the answer of the tree.
  pub part-answer : (n : Notation) (t : Tree) (before after rest : List Slot) (r : Result DynValue DynError) → before ≡ Some t ∷ rest → AnswerBy dyn_failure n (meant shape (bodies_of {P = P} Outermost) part) dyn_value before r after
      → RootAnswerBy dyn_failure n (shape [] part) dyn_value t r
  part-answer n t before after rest r was h = root_answer dyn_failure n (shape [] part) dyn_value t before after rest r was (subst (λ s. AnswerBy dyn_failure n s dyn_value before r after) root-meant h)

-- The value of a text's tree is that of the text.
pub text-read : (limit : ℕ) (n : Notation) (s : Shape) (text : List ℕ) (t : Tree) (r : Result DynValue DynError) → HasTree limit n text t → RootAnswerBy dyn_failure n s dyn_value t r → IfOk r (λ v. TextDecodesTo limit n s text (dyn_value v))
text-read limit n s text t (Ok v) has h = record { tree = t; has = has; says = h }
text-read limit n s text t (Err e) has h = tt

-- A JSON text is refused for lack of memory alone.
pub jer-memory : (text : List ℕ) (f : Failure) (d : Data) → jer.NoTree text f → jer.IsJer text d → is_out_of_memory f ≡ true
jer-memory text f d (jer.NoTree.no_json none is) j = let e : ◌≡◌ {A = Option Data} None (Some d) = sym none ∙ j.0 in cc e
jer-memory text f d (jer.NoTree.has_real x read float is) j =
    let e : ◌≡◌ {A = Option Data} (Some x) (Some d) = sym read ∙ j.0 in
    let same : x ≡ d = cc e in
    let b : true ≡ false = sym float ∙ ap has_float same ∙ j.1 in
    cc b
jer-memory text f d (jer.NoTree.no_memory is) j = ap is_out_of_memory is

-- A failure at no field is told as it is.
told-root : (c d : Codec) (cause : Cause) (f g : Failure) → f ≡ at_root cause d → IsTold c f g → (g ≡ at_root cause d) ⊎ (g ≡ at_root Cause.out_of_memory c)
told-root c d cause f g is (inl told) = inl (told ∙ ap (recoded c) is)
told-root c d cause f g is (inr memory) = inr memory

-- A text without a tree has none by what is told.
pub jer-told : (text : List ℕ) (f g : Failure) → jer.NoTree text f → IsTold Jer f g → jer.NoTree text g
jer-told text f g (jer.NoTree.no_json none is) told = elim (told-root Jer Jer _ f g is told) [ inl same ↦ jer.NoTree.no_json none same | inr memory ↦ jer.NoTree.no_memory memory ]
jer-told text f g (jer.NoTree.has_real d read float is) told = elim (told-root Jer Jer _ f g is told) [ inl same ↦ jer.NoTree.has_real d read float same | inr memory ↦ jer.NoTree.no_memory memory ]
jer-told text f g (jer.NoTree.no_memory is) told = elim (told-root Jer Jer _ f g is told) [ inl same ↦ jer.NoTree.no_memory same | inr memory ↦ jer.NoTree.no_memory memory ]

explains-at : (limit : ℕ) (text : List ℕ) (cause : Cause) (g : Failure) → Explains limit text (at_root cause Avn) → (g ≡ at_root cause Avn) ⊎ (g ≡ at_root Cause.out_of_memory Avn) → Explains limit text g
explains-at limit text cause g h (inl same) = subst (Explains limit text) (sym same) h
explains-at limit text cause g h (inr memory) = subst (Explains limit text) (sym memory) Explains.out_of_memory

pub avn-told : (limit : ℕ) (text : List ℕ) {f : Failure} (g : Failure) → Explains limit text f → IsTold Avn f g → Explains limit text g
avn-told limit text g (Explains.unexpected_token found h) told = explains-at limit text (Cause.unexpected_token found) g (Explains.unexpected_token found h) told
avn-told limit text g (Explains.exceeds_depth h) told = explains-at limit text Cause.exceeds_max_parse_depth g (Explains.exceeds_depth h) told
avn-told limit text g Explains.out_of_memory told = explains-at limit text Cause.out_of_memory g Explains.out_of_memory told

-- What is refused for its codec is so by what is told.
pub other-told : (limit : ℕ) (c : Codec) (s : Shape) (text : List ℕ) (cause : Cause) (f g : Failure) → IsDecodeFailure limit c s text (at_root cause c) → (f ≡ at_root cause c) ⊎ (f ≡ at_root Cause.out_of_memory c) → IsTold c f g
    → (g ≡ at_root Cause.out_of_memory c) ⊎ IsDecodeFailure limit c s text g
other-told limit c s text cause f g h (inl is) told = elim (told-root c c cause f g is told) [ inl same ↦ inr (subst (IsDecodeFailure limit c s text) (sym same) h) | inr memory ↦ inl memory ]
other-told limit c s text cause f g h (inr is) told = elim (told-root c c Cause.out_of_memory f g is told) [ inl same ↦ inl same | inr memory ↦ inl memory ]

-- What a text decodes to fits, where it is held.
pub text-fits : ((n : Notation) (s : Shape) (slot : Slot) (v : Value) → IsText n → DecodesTo n s slot v → IsHeldValue v → Fits s v) → (limit : ℕ) (n : Notation) (s : Shape) (text : List ℕ) (r : Result DynValue DynError) → IsText n
    → IfOk r (λ v. TextDecodesTo limit n s text (dyn_value v)) → IfOk r (λ v. IsHeldValue (dyn_value v)) → IfOk r (λ v. Fits s (dyn_value v))
text-fits law limit n s text (Ok v) is h held = law n s (Some h.tree) (dyn_value v) is h.says held
text-fits law limit n s text (Err e) is h held = tt
