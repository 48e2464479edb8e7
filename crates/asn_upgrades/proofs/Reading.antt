-- What readers of one version make of texts of another.
use Rattle.std.proofs.Common.{◌≡◌, ◌⊎◌, List, ℕ, Some, true, inl, inr, subst}
use Rattle.asn_core.specs.declared.codec.Codec.{Codec}
use Rattle.asn_fault.specs.Failure.{Cause, Failure}
use Rattle.asn_model.specs.Canonical.{avn_tree, jer_data}
use Rattle.asn_model.specs.DecodesTo.{DecodesTo}
use Rattle.asn_model.specs.FailsWith.{Path}
use Rattle.asn_model.specs.Notation.{Notation, IsText, notation_of}
use Rattle.asn_model.specs.Readable.{is_readable}
use Rattle.asn_model.specs.Shape.{Shape}
use Rattle.asn_model.specs.Tree.{Tree}
use Rattle.asn_model.specs.Value.{Fits, Value}
use Rattle.asn_model.specs.Writable.{Writable}
use Rattle.asn_model.proofs.Meanings.{one, apart}
use Rattle.avn_grammar.specs.Normal.{normal}
use Rattle.asn_codec.specs.Texts.{HasTree, IsDecodeFailure, IsShallow, ReadsBack, TextDecodesTo}
use Rattle.avn_grammar.specs.declared.limits.TheConstants.{LEVEL_LIMIT}
use Rattle.asn_growth.specs.Adapted.{lift, project}
use Rattle.asn_growth.specs.ComesUpon.{ComesUpon, IsMissing, IsUnknown, Known}
use Rattle.asn_growth.specs.Grows.{Grows}
use Rattle.asn_growth.proofs.Backward.{taken}
use Rattle.asn_growth.proofs.Forward.{forward, read-or-upon}
use Rattle.asn_growth.proofs.Unknowns.{fails-upon, fails_there}
use Rattle.asn_upgrades.specs.Apart.{IsApart}
use Rattle.asn_codec.proofs.Again.{one_tree}
use Rattle.asn_upgrades.proofs.Refusing.{is_text, refused_tree}

-- The value by the shape in the place of another one, or a reason to refuse it.
abbrev pub Reached : Notation → Shape → Tree → Value → (Cause → Type 0) → Type 0
Reached n s t v IsSuch = DecodesTo n s (Some t) v ⊎ ((p : Path) × (w : Cause) × ComesUpon n s t p w × IsSuch w)

where_known : {n : Notation} {s : Shape} {t : Tree} {v : Value} → Known n s t → Reached n s t v IsUnknown → DecodesTo n s (Some t) v
where_known k (inl d) = d
where_known k (inr (p, w, u, i)) = absurd (k p w u i)

where_read : {n : Notation} {s : Shape} {t : Tree} {v w : Value} {IsSuch : Cause → Type 0} → IsText n → DecodesTo n s (Some t) w → Reached n s t v IsSuch → w ≡ v
where_read x d (inl e) = one x d e
where_read x d (inr (p, w, u, i)) = absurd (apart x d (fails-upon u))

-- The tree of a text that decodes to a value decodes to it.
says : {n : Notation} {s : Shape} {text : List ℕ} {t : Tree} {w : Value} → HasTree LEVEL_LIMIT n text t → TextDecodesTo LEVEL_LIMIT n s text w → DecodesTo n s (Some t) w
says {n} {s} {text} {t} {w} has h = subst (λ u. DecodesTo n s (Some u) w) (one_tree LEVEL_LIMIT n text h.tree t h.has has) h.says

apart_at : {codec : Codec} {s : Shape} {text : List ℕ} {t : Tree} {v : Value} {failure : Failure} (IsSuch : Cause → Type 0) → HasTree LEVEL_LIMIT (notation_of codec) text t → Reached (notation_of codec) s t v IsSuch → IsDecodeFailure LEVEL_LIMIT codec s text failure
    → IsApart (notation_of codec) s t IsSuch failure
apart_at {codec} {s} {text} {t} {v} {failure} IsSuch has reached h =
    let k = fails_there IsSuch (is_text has) reached (refused_tree codec s text t failure has h) in record { reason = k.0; upon = k.1; such = k.2; told = k.3 }

-- An older reader over a text of a newer version.
module _ (codec : Codec) (old new : Shape) (text : List ℕ) (t : Tree) (v : Value) (a : is_readable old ≡ true) (g : Grows old new) (has : HasTree LEVEL_LIMIT (notation_of codec) text t) (d : DecodesTo (notation_of codec) new (Some t) v) where
  reached : Reached (notation_of codec) old t (project old v) IsUnknown
  reached = read-or-upon v (forward (is_text has) a g d)

  pub older_known : Known (notation_of codec) old t → TextDecodesTo LEVEL_LIMIT (notation_of codec) old text (project old v)
  older_known known = record { tree = t; has = has; says = where_known known reached }

  pub older_projected : (w : Value) → TextDecodesTo LEVEL_LIMIT (notation_of codec) old text w → w ≡ project old v
  older_projected w h = where_read (is_text has) (says has h) reached

  pub older_unknown : (failure : Failure) → IsDecodeFailure LEVEL_LIMIT codec old text failure → IsApart (notation_of codec) old t IsUnknown failure
  older_unknown failure h = apart_at IsUnknown has reached h

-- The tree of a text that was written for a value of an older version, and what a newer reader makes of it.
pub record Handed (n : Notation) (new : Shape) (text : List ℕ) (v : Value) : Type 0 where
  pub tree : Tree
  pub has : HasTree LEVEL_LIMIT n text tree
  pub reached : Reached n new tree (lift new v) IsMissing

pub handed : (n : Notation) (old new : Shape) (text : List ℕ) (v : Value) → IsText n → is_readable old ≡ true → is_readable new ≡ true → Grows old new → Fits old v → Writable n v → ReadsBack LEVEL_LIMIT n v text → IsShallow LEVEL_LIMIT Notation.avn n v → Handed n new text v
handed Notation.jer old new text v x a b g fit can back shallow =
    let k = taken {n = Notation.jer} tt g a b fit can in record { tree = Tree.json (jer_data v); has = HasTree.json_tree (back shallow); reached = k.read }
handed Notation.avn old new text v x a b g fit can back shallow =
    let k = taken {n = Notation.avn} tt g a b fit can in record { tree = Tree.avn (normal (avn_tree v)); has = HasTree.avn_tree (back.again shallow); reached = k.read }
handed Notation.other old new text v x a b g fit can back shallow = absurd x

pub newer_lifted : (n : Notation) (new : Shape) (text : List ℕ) (v w : Value) → Handed n new text v → TextDecodesTo LEVEL_LIMIT n new text w → w ≡ lift new v
newer_lifted n new text v w k h = where_read (is_text k.has) (says k.has h) k.reached

pub newer_missing : (codec : Codec) (new : Shape) (text : List ℕ) (v : Value) (failure : Failure) → Handed (notation_of codec) new text v → IsDecodeFailure LEVEL_LIMIT codec new text failure
    → (t : Tree) × HasTree LEVEL_LIMIT (notation_of codec) text t × IsApart (notation_of codec) new t IsMissing failure
newer_missing codec new text v failure k h = (k.tree, k.has, apart_at IsMissing k.has k.reached h)
