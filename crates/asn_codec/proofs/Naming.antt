-- What a call by a codec's name answers, from what the notation's own call answers.
use Rattle.std.proofs.Common.{◌≡◌, ◌≢◌, refl, sym, ap, ◌∙◌, subst, ℕ, List, [], ◌∷◌, Some, Result, Ok, Err, true, false, ◌⊎◌, inl, inr}
use Rattle.std.specs.Prelude.{IfOk, IfErr, IsUtf8, codes}
use Rattle.std.specs.Str.{chars}
use Rattle.serde_json.specs.Data.{Data}
use Rattle.avn_grammar.specs.Tree.{Tree as AvnTree}
use Rattle.avn_grammar.specs.declared.limits.TheConstants.{LEVEL_LIMIT}
use Rattle.avn_value.specs.Answer.{Explains}
use Rattle.asn_core.specs.declared.codec.Codec.{Codec}
use Rattle.asn_core.specs.declared.codec.Codec.TheVariants.{Jer, Avn}
use Rattle.asn_fault.specs.Failure.{Failure, Level, Cause, at_root, failure_of, is_out_of_memory, is_out_of_memory_at}
use Rattle.asn_fault.specs.EncodeCause.{encode_cause, is_encode_out_of_memory}
use Rattle.asn_fault.specs.declared.decode.DecodeError.{DecodeError}
use Rattle.asn_fault.specs.declared.encode.EncodeError.{EncodeError}
use Rattle.asn_coding.specs.Answer as answer
use Rattle.asn_traits.specs.Notation.{Notation, notation_of}
use Rattle.asn_coding.specs.Root.{ReadsBy}
use Rattle.asn_traits.specs.DecodesTo.{DecodesTo}
use Rattle.asn_traits.specs.Shape.{Shape}
use Rattle.asn_traits.specs.Tree.{Tree}
use Rattle.asn_traits.specs.Value.{Value}
use Rattle.asn_coding.specs.Writing.{FailsToEncode}
use Rattle.jer_rules.specs.Text as jer
use Rattle.avn_rules.specs.Text as avn
use Rattle.asn_codec.specs.Texts.{HasTree, TextDecodesTo, IsDecodeFailure, IsUnencodable}
use Rattle.asn_codec.specs.Binary.{IsBytesFailure}
use Rattle.asn_codec.specs.Refused.{no_text, no_utf8, IsCustomEncodeError, IsCustomDecodeError}

-- the codec of JER is Jer
jer_codec : (c : Codec) → notation_of c ≡ Notation.jer → c ≡ Jer
jer_codec Jer h = refl
jer_codec Avn h = let e : ◌≡◌ {A = Notation} Notation.avn Notation.jer = h in cc e
jer_codec c h = let e : ◌≡◌ {A = Notation} Notation.other Notation.jer = h in cc e

-- the codec of AVN is Avn
avn_codec : (c : Codec) → notation_of c ≡ Notation.avn → c ≡ Avn
avn_codec Avn h = refl
avn_codec Jer h = let e : ◌≡◌ {A = Notation} Notation.jer Notation.avn = h in cc e
avn_codec c h = let e : ◌≡◌ {A = Notation} Notation.other Notation.avn = h in cc e

-- lack of memory at no field is this failure of its codec
memory_failure : (failure : Failure) → is_out_of_memory failure ≡ true → failure ≡ at_root Cause.out_of_memory failure.codec
memory_failure failure is = by failure.path failure.cause failure.codec is
  where
    by : (path : List Level) (cause : Cause) (codec : Codec) → is_out_of_memory_at path cause ≡ true → ◌≡◌ {A = Failure} (record { path = path; cause = cause; codec = codec }) (at_root Cause.out_of_memory codec)
    by [] Cause.out_of_memory codec h = refl
    by [] cause codec h = let e : false ≡ true = h in cc e
    by (level ∷ path) cause codec h = let e : false ≡ true = h in cc e

-- a JSON text that is not read is refused, unless memory ran out
pub jer_unread : (limit : ℕ) (s : Shape) (text : List ℕ) (failure : Failure) → jer.RefusesText s text failure → (failure ≡ at_root Cause.out_of_memory Jer) ⊎ IsDecodeFailure limit Jer s text failure
jer_unread limit s text failure (jer.RefusesText.no_tree (jer.NoTree.no_json e is)) = inr (subst (IsDecodeFailure limit Jer s text) (sym is) (IsDecodeFailure.no_json refl e))
jer_unread limit s text failure (jer.RefusesText.no_tree (jer.NoTree.has_real d e f is)) = inr (subst (IsDecodeFailure limit Jer s text) (sym is) (IsDecodeFailure.has_real d refl e f))
jer_unread limit s text failure (jer.RefusesText.no_tree (jer.NoTree.no_memory m)) = inl m
jer_unread limit s text failure (jer.RefusesText.no_value d h (answer.Refuses.no_memory m)) = inl (memory_failure failure m.0 ∙ ap (at_root Cause.out_of_memory) (jer_codec failure.codec m.1))
jer_unread limit s text failure (jer.RefusesText.no_value d h (answer.Refuses.stopped p levels place)) = inr (IsDecodeFailure.no_value (Tree.json d) failure (HasTree.json_tree h) p levels place)
jer_unread limit s text failure (jer.RefusesText.no_value d h (answer.Refuses.refuses_free o)) = cc o

avn_no_tree : (limit : ℕ) (s : Shape) (text : List ℕ) (failure : Failure) → Explains limit (chars text) failure → (failure ≡ at_root Cause.out_of_memory Avn) ⊎ IsDecodeFailure limit Avn s text failure
avn_no_tree limit s text failure (Explains.unexpected_token found h) = inr (IsDecodeFailure.no_avn found refl h)
avn_no_tree limit s text failure (Explains.exceeds_depth h) = inr (IsDecodeFailure.too_deep refl h)
avn_no_tree limit s text failure Explains.out_of_memory = inl refl

-- a text of the value notation that is not read is refused, unless memory ran out
pub avn_unread : (limit : ℕ) (s : Shape) (text : List ℕ) (failure : Failure) → avn.RefusesText limit s text failure → (failure ≡ at_root Cause.out_of_memory Avn) ⊎ IsDecodeFailure limit Avn s text failure
avn_unread limit s text failure (avn.RefusesText.no_tree h) = avn_no_tree limit s text failure h
avn_unread limit s text failure (avn.RefusesText.no_value t h (answer.Refuses.no_memory m)) = inl (memory_failure failure m.0 ∙ ap (at_root Cause.out_of_memory) (avn_codec failure.codec m.1))
avn_unread limit s text failure (avn.RefusesText.no_value t h (answer.Refuses.stopped p levels place)) = inr (IsDecodeFailure.no_value (Tree.avn t) failure (HasTree.avn_tree h) p levels place)
avn_unread limit s text failure (avn.RefusesText.no_value t h (answer.Refuses.refuses_free o)) = cc o

-- the tree of a JSON text is its JSON value
json_of : {limit : ℕ} {text : List ℕ} {t : Tree} → HasTree limit Notation.jer text t → (d : Data) × jer.IsJer text d × (t ≡ Tree.json d)
json_of (HasTree.json_tree {d = d} h) = (d, h, refl)

-- the tree of a text of the value notation is its value of the notation
avn_of : {limit : ℕ} {text : List ℕ} {t : Tree} → HasTree limit Notation.avn text t → (u : AvnTree) × avn.IsAvn limit text u × (t ≡ Tree.avn u)
avn_of (HasTree.avn_tree {t = u} h) = (u, h, refl)

-- a JSON text that decodes to a value is read as that value, unless memory runs out
pub jer_complete : {A E : Type 0} (failure : E → Failure) (limit : ℕ) (s : Shape) (text : List ℕ) (value : A → Value) (r : Result A E)
    → ((d : Data) (v : Value) → jer.IsJer text d → DecodesTo Notation.jer s (Some (Tree.json d)) v → ReadsBy failure value v r)
    → (v : Value) → TextDecodesTo limit Notation.jer s text v → ReadsBy failure value v r
jer_complete failure limit s text value r complete v h =
    let (d, is, same) = json_of h.has in
    complete d v is (subst (λ t. DecodesTo Notation.jer s (Some t) v) same h.says)

-- a text of the value notation that decodes to a value is read as that value, unless memory runs out
pub avn_complete : {A E : Type 0} (failure : E → Failure) (limit : ℕ) (s : Shape) (text : List ℕ) (value : A → Value) (r : Result A E)
    → ((t : AvnTree) (v : Value) → avn.IsAvn limit text t → DecodesTo Notation.avn s (Some (Tree.avn t)) v → ReadsBy failure value v r)
    → (v : Value) → TextDecodesTo limit Notation.avn s text v → ReadsBy failure value v r
avn_complete failure limit s text value r complete v h =
    let (t, is, same) = avn_of h.has in
    complete t v is (subst (λ u. DecodesTo Notation.avn s (Some u) v) same h.says)

-- no text has a tree under a codec that is no text notation
pub no_tree : {limit : ℕ} {s : Shape} {text : List ℕ} {v : Value} → TextDecodesTo limit Notation.other s text v → ⊥
no_tree {limit} h = none_has h.has
  where
    none_has : {text : List ℕ} {t : Tree} → HasTree limit Notation.other text t → ⊥
    none_has k = elim k [ ]

-- a value that JER does not write is refused, unless memory ran out
pub jer_unwritten : (v : Value) (e : EncodeError) → FailsToEncode Notation.jer v e → ((is_encode_out_of_memory (encode_cause e.kind) ≡ true) ⊎ IsUnencodable Jer v (encode_cause e.kind)) × (e.codec ≡ Jer)
jer_unwritten v e (FailsToEncode.no_memory o) = (inl (rw o.0 refl), jer_codec e.codec o.1)
jer_unwritten v e (FailsToEncode.blocked b c) = (inr (IsUnencodable.blocked _ tt b), jer_codec e.codec c)
jer_unwritten v e (FailsToEncode.write_free o) = cc o

-- a value that AVN does not write is refused, unless memory ran out
pub avn_unwritten : (v : Value) (e : EncodeError) → FailsToEncode Notation.avn v e → ((is_encode_out_of_memory (encode_cause e.kind) ≡ true) ⊎ IsUnencodable Avn v (encode_cause e.kind)) × (e.codec ≡ Avn)
avn_unwritten v e (FailsToEncode.no_memory o) = (inl (rw o.0 refl), avn_codec e.codec o.1)
avn_unwritten v e (FailsToEncode.blocked b c) = (inr (IsUnencodable.blocked _ tt b), avn_codec e.codec c)
avn_unwritten v e (FailsToEncode.write_free o) = cc o

-- a codec that is neither of the two is no text notation
pub other_codec : (c : Codec) → c ≢ Jer → c ≢ Avn → notation_of c ≡ Notation.other
other_codec Jer h k = absurd (h refl)
other_codec Avn h k = absurd (k refl)
other_codec c h k = refl

-- the call's answer, where its codec is this one
pub jer_value : {A E : Type 0} (failure : E → Failure) (limit : ℕ) (c : Codec) (s : Shape) (text : List ℕ) (value : A → Value) (r : Result A E) → c ≡ Jer
    → IfOk r (λ x. (d : Data) × jer.IsJer text d × DecodesTo Notation.jer s (Some (Tree.json d)) (value x)) → IfOk r (λ x. TextDecodesTo limit (notation_of c) s text (value x))
jer_value failure limit c s text value (Ok x) is (d, h, says) = subst (λ k. TextDecodesTo limit (notation_of k) s text (value x)) (sym is) record { tree = Tree.json d; has = HasTree.json_tree h; says = says }
jer_value failure limit c s text value (Err e) is h = tt

pub avn_value_of : {A E : Type 0} (failure : E → Failure) (limit : ℕ) (c : Codec) (s : Shape) (text : List ℕ) (value : A → Value) (r : Result A E) → c ≡ Avn
    → IfOk r (λ x. (t : AvnTree) × avn.IsAvn limit text t × DecodesTo Notation.avn s (Some (Tree.avn t)) (value x)) → IfOk r (λ x. TextDecodesTo limit (notation_of c) s text (value x))
avn_value_of failure limit c s text value (Ok x) is (t, h, says) = subst (λ k. TextDecodesTo limit (notation_of k) s text (value x)) (sym is) record { tree = Tree.avn t; has = HasTree.avn_tree h; says = says }
avn_value_of failure limit c s text value (Err e) is h = tt

pub jer_refused : {A E : Type 0} (failure : E → Failure) (limit : ℕ) (c : Codec) (s : Shape) (text : List ℕ) (r : Result A E) → c ≡ Jer → IfErr r (λ e. jer.RefusesText s text (failure e))
    → IfErr r (λ e. (failure e ≡ at_root Cause.out_of_memory c) ⊎ IsDecodeFailure limit c s text (failure e))
jer_refused failure limit c s text (Ok x) is h = tt
jer_refused failure limit c s text (Err e) is h = subst (λ k. (failure e ≡ at_root Cause.out_of_memory k) ⊎ IsDecodeFailure limit k s text (failure e)) (sym is) (jer_unread limit s text (failure e) h)

pub avn_refused : {A E : Type 0} (failure : E → Failure) (limit : ℕ) (c : Codec) (s : Shape) (text : List ℕ) (r : Result A E) → c ≡ Avn → IfErr r (λ e. avn.RefusesText limit s text (failure e))
    → IfErr r (λ e. (failure e ≡ at_root Cause.out_of_memory c) ⊎ IsDecodeFailure limit c s text (failure e))
avn_refused failure limit c s text (Ok x) is h = tt
avn_refused failure limit c s text (Err e) is h = subst (λ k. (failure e ≡ at_root Cause.out_of_memory k) ⊎ IsDecodeFailure limit k s text (failure e)) (sym is) (avn_unread limit s text (failure e) h)

pub jer_not_written : {A : Type 0} (c : Codec) (v : Value) (r : Result A EncodeError) → c ≡ Jer → IfErr r (FailsToEncode Notation.jer v)
    → IfErr r (λ e. ((is_encode_out_of_memory (encode_cause e.kind) ≡ true) ⊎ IsUnencodable c v (encode_cause e.kind)) × (e.codec ≡ c))
jer_not_written c v (Ok x) is h = tt
jer_not_written c v (Err e) is h = subst (λ k. ((is_encode_out_of_memory (encode_cause e.kind) ≡ true) ⊎ IsUnencodable k v (encode_cause e.kind)) × (e.codec ≡ k)) (sym is) (jer_unwritten v e h)

pub avn_not_written : {A : Type 0} (c : Codec) (v : Value) (r : Result A EncodeError) → c ≡ Avn → IfErr r (FailsToEncode Notation.avn v)
    → IfErr r (λ e. ((is_encode_out_of_memory (encode_cause e.kind) ≡ true) ⊎ IsUnencodable c v (encode_cause e.kind)) × (e.codec ≡ c))
avn_not_written c v (Ok x) is h = tt
avn_not_written c v (Err e) is h = subst (λ k. ((is_encode_out_of_memory (encode_cause e.kind) ≡ true) ⊎ IsUnencodable k v (encode_cause e.kind)) × (e.codec ≡ k)) (sym is) (avn_unwritten v e h)

-- what is refused for its codec is so
pub other_unread : (limit : ℕ) (c : Codec) (s : Shape) (text : List ℕ) (e : DecodeError) → notation_of c ≡ Notation.other → IsCustomDecodeError (no_text c (codes "decode_from_binary")) c e
    → (failure_of e ≡ at_root Cause.out_of_memory c) ⊎ IsDecodeFailure limit c s text (failure_of e)
other_unread limit c s text e h (inl custom) = inr (subst (IsDecodeFailure limit c s text) (sym custom) (IsDecodeFailure.not_text h))
other_unread limit c s text e h (inr memory) = inl memory

pub other_unwritten : (c : Codec) (v : Value) (e : EncodeError) → notation_of c ≡ Notation.other → IsCustomEncodeError (no_text c (codes "encode_to_binary")) c e
    → ((is_encode_out_of_memory (encode_cause e.kind) ≡ true) ⊎ IsUnencodable c v (encode_cause e.kind)) × (e.codec ≡ c)
other_unwritten c v e h (inl custom, same) = (inr (subst (IsUnencodable c v) (sym custom) (IsUnencodable.not_text h)), same)
other_unwritten c v e h (inr memory, same) = (inl (rw memory refl), same)

-- bytes whose text is refused are refused
pub text_refused : {A : Type 0} (c : Codec) (s : Shape) (input text : List ℕ) (r : Result A DecodeError) → text ≡ input → IsUtf8 input
    → IfErr r (λ e. (failure_of e ≡ at_root Cause.out_of_memory c) ⊎ IsDecodeFailure LEVEL_LIMIT c s text (failure_of e)) → IfErr r (λ e. (failure_of e ≡ at_root Cause.out_of_memory c) ⊎ IsBytesFailure c s input (failure_of e))
text_refused c s input text (Ok x) same utf8 h = tt
text_refused c s input text (Err e) same utf8 (inl m) = inl m
text_refused c s input text (Err e) same utf8 (inr h) = inr (IsBytesFailure.not_decoded _ utf8 (subst (λ t. IsDecodeFailure LEVEL_LIMIT c s t (failure_of e)) same h))

-- bytes that are no text are refused
pub bytes_refused : (c : Codec) (s : Shape) (input : List ℕ) (e : DecodeError) → ¬ IsUtf8 input → IsCustomDecodeError (no_utf8 c) c e → (failure_of e ≡ at_root Cause.out_of_memory c) ⊎ IsBytesFailure c s input (failure_of e)
bytes_refused c s input e other (inl custom) = inr (subst (IsBytesFailure c s input) (sym custom) (IsBytesFailure.not_utf8 other))
bytes_refused c s input e other (inr memory) = inl memory
