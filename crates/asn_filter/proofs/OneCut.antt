-- A line that is kept isn't refused.
use Rattle.std.proofs.Common.{◌≡◌, List, ℕ, Some, subst}
use Rattle.avn_grammar.specs.declared.limits.TheConstants.{LEVEL_LIMIT}
use Rattle.asn_codec.specs.Texts.{IsUnencodable, TextDecodesTo}
use Rattle.asn_codec.proofs.Again.{one_tree}
use Rattle.asn_coding.proofs.Whole.{not_blocked}
use Rattle.asn_core.specs.declared.codec.Codec.{Codec}
use Rattle.asn_core.specs.declared.codec.Codec.TheVariants.{Jer}
use Rattle.asn_dynamic.specs.declared.conversion.ConvertError.{ConvertError}
use Rattle.asn_fault.specs.EncodeCause.{EncodeCause}
use Rattle.asn_fault.specs.Failure.{Cause}
use Rattle.asn_filter.specs.Kept.{IsKept, IsRefused}
use Rattle.asn_growth.specs.Adapted.{project}
use Rattle.asn_growth.specs.ComesUpon.{ComesUpon}
use Rattle.asn_model.proofs.Meanings.{apart, one}
use Rattle.asn_model.specs.DecodesTo.{DecodesTo}
use Rattle.asn_model.specs.FailsWith.{Path}
use Rattle.asn_model.specs.Notation.{Notation, notation_of}
use Rattle.asn_model.specs.Shape.{Shape}
use Rattle.asn_model.specs.Tree.{Tree}
use Rattle.asn_model.specs.Value.{Value}
use Rattle.asn_model.specs.Writable.{Writable}
use Rattle.asn_upgrades.proofs.Refusing.{is_text, refused_tree}

-- What is written isn't refused.
not_unencodable : (v : Value) (cause : EncodeCause) → Writable Notation.jer v → IsUnencodable Jer v cause → ⊥
not_unencodable v cause can (IsUnencodable.blocked why text h) = not_blocked Notation.jer v why can h
not_unencodable v cause can (IsUnencodable.not_text other) = let e : ◌≡◌ {A = Notation} Notation.jer Notation.other = other in cc e

-- A text decodes to one value.
one_value : (n : Notation) (s : Shape) (text : List ℕ) (v w : Value) → TextDecodesTo LEVEL_LIMIT n s text v → TextDecodesTo LEVEL_LIMIT n s text w → v ≡ w
one_value n s text v w h k = one (is_text h.has) h.says (subst (λ t. DecodesTo n s (Some t) w) (one_tree LEVEL_LIMIT n text k.tree h.tree k.has h.has) k.says)

in_tree : {n : Notation} {s : Shape} {t u : Tree} {p : Path} {w : Cause} → t ≡ u → ComesUpon n s t p w → ComesUpon n s u p w
in_tree {n} {s} {p = p} {w = w} e h = subst (λ t. ComesUpon n s t p w) e h

pub not_both : {from : Codec} {old new : Shape} {line output : List ℕ} {fault : ConvertError} → IsKept from old new line output → IsRefused from old new line fault → ⊥
not_both {from} {old} {new} {line} k (IsRefused.unread e fails) =
    apart (is_text k.read.has) k.read.says (refused_tree from new line k.read.tree _ k.read.has fails)
not_both {from} {old} {new} {line} k (IsRefused.unknown e value read upon fails) =
    let same = one_tree LEVEL_LIMIT (notation_of from) line read.tree k.read.tree read.has k.read.has in
    k.known _ _ (in_tree same upon.upon) upon.such
not_both {from} {old} {new} {line} k (IsRefused.unwritten e value read known fails codec) =
    let same = one_value (notation_of from) new line k.value value k.read read in
    not_unencodable (project old value) _ (subst (λ v. Writable Notation.jer (project old v)) same k.writable) fails
