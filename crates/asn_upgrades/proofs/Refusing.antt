-- Why a text that has a tree is refused.
use Rattle.std.proofs.Common.{◌≡◌, List, ℕ, Option, Some, None, true, false, map, sym, ap, subst, ◌∙◌}
use Rattle.serde_json.specs.Data.{Data}
use Rattle.serde_json.specs.Written.{has_float}
use Rattle.avn_grammar.specs.Tree.{Tree as AvnTree}
use Rattle.avn_grammar.proofs.OneAnswer.{reads-deep, reads-unread}
use Rattle.asn_core.specs.declared.codec.Codec.{Codec}
use Rattle.asn_fault.specs.Failure.{Failure}
use Rattle.asn_model.specs.FailsWith.{FailsWith}
use Rattle.asn_model.specs.Notation.{Notation, IsText, notation_of}
use Rattle.asn_model.specs.Shape.{Shape}
use Rattle.asn_model.specs.Tree.{Tree}
use Rattle.asn_codec.specs.Texts.{HasTree, IsDecodeFailure}
use Rattle.asn_codec.proofs.Again.{one_tree}
use Rattle.jer_rules.specs.Text.{IsJer}
use Rattle.avn_rules.specs.Text.{IsAvn}

-- What has a tree is a text of JER or AVN.
pub is_text : {n : Notation} {limit : ℕ} {text : List ℕ} {t : Tree} → HasTree limit n text t → IsText n
is_text (HasTree.json_tree h) = tt
is_text (HasTree.avn_tree h) = tt

json_of : {limit : ℕ} {text : List ℕ} {t : Tree} → HasTree limit Notation.jer text t → (d : Data) × IsJer text d
json_of (HasTree.json_tree {d = d} h) = (d, h)

avn_of : {limit : ℕ} {text : List ℕ} {t : Tree} → HasTree limit Notation.avn text t → (u : AvnTree) × IsAvn limit text u
avn_of (HasTree.avn_tree {t = u} h) = (u, h)

not_other : {limit : ℕ} {text : List ℕ} {t : Tree} → HasTree limit Notation.other text t → ⊥
not_other h = elim h [ ]

whole_and_float : {limit : ℕ} {text : List ℕ} {t : Tree} (d : Data) → HasTree limit Notation.jer text t → IsJer text d → has_float d ≡ true → ⊥
whole_and_float d h is float = let x : false ≡ true = sym is.1 ∙ float in cc x

-- A text that has a tree is refused for its tree alone.
pub refused_tree : {limit : ℕ} (codec : Codec) (s : Shape) (text : List ℕ) (t : Tree) (failure : Failure) → HasTree limit (notation_of codec) text t → IsDecodeFailure limit codec s text failure
    → FailsWith (notation_of codec) s (Some t) (map (λ level. level.name) failure.path) failure.cause
refused_tree {limit} codec s text t failure has (IsDecodeFailure.no_json e none) =
    let is = json_of (subst (λ c. HasTree limit (notation_of c) text t) e has) in
    let x : ◌≡◌ {A = Option Data} None (Some is.0) = sym none ∙ is.1.0 in cc x
refused_tree {limit} codec s text t failure has (IsDecodeFailure.has_real d e some float) =
    let is = json_of (subst (λ c. HasTree limit (notation_of c) text t) e has) in
    let same : ◌≡◌ {A = Option Data} (Some is.0) (Some d) = sym is.1.0 ∙ some in
    let one : is.0 ≡ d = cc same in
    let x : false ≡ true = sym is.1.1 ∙ ap has_float one ∙ float in cc x
refused_tree {limit} codec s text t failure has (IsDecodeFailure.no_avn found e unread) =
    let is = avn_of (subst (λ c. HasTree limit (notation_of c) text t) e has) in absurd (reads-unread is.1 unread)
refused_tree {limit} codec s text t failure has (IsDecodeFailure.too_deep e deep) =
    let is = avn_of (subst (λ c. HasTree limit (notation_of c) text t) e has) in absurd (reads-deep is.1 deep)
refused_tree {limit} codec s text t failure has (IsDecodeFailure.no_value u same other fails levels place) =
    subst (λ r. FailsWith (notation_of codec) s (Some r) (map (λ level. level.name) failure.path) failure.cause) (one_tree limit (notation_of codec) text u t other has) fails
refused_tree {limit} codec s text t failure has (IsDecodeFailure.not_text e) = absurd (not_other (subst (λ n. HasTree limit n text t) e has))
