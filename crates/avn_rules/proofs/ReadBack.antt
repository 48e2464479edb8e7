-- What is written is read again.
use Rattle.std.proofs.Common.{◌≡◌, ℕ, subst, sym, true, Result, Ok, Err, String, Global, string_bytes, IfOk}
use Rattle.std.specs.Str.{chars}
use Rattle.avn_grammar.specs.Depth.{ExceedsDepth}
use Rattle.avn_grammar.specs.Grammar.{ParsesWhole}
use Rattle.avn_grammar.specs.Normal.{normal}
use Rattle.avn_grammar.proofs.WholePrinted.{reads_whole, sinks_whole}
use Rattle.asn_fault.specs.declared.encode.EncodeError.{EncodeError}
use Rattle.asn_traits.specs.Canonical.{avn_tree, canonical_text}
use Rattle.asn_traits.specs.Notation.{Notation}
use Rattle.asn_traits.specs.Readable.{is_readable}
use Rattle.asn_traits.specs.Shape.{Shape}
use Rattle.asn_traits.specs.Value.{Value, Fits}
use Rattle.asn_traits.specs.Writable.{Writable}
use Rattle.asn_traits.proofs.WrittenAvn.{well-formed}
use Rattle.avn_rules.specs.Text.{ReadsBack}

-- The canonical text of a value of a shape that can be read, which AVN can write, is read back.
pub read_back : (s : Shape) (v : Value) (r : Result (String Global) EncodeError) → is_readable s ≡ true → Fits s v → Writable Notation.avn v → IfOk r (λ t. string_bytes t ≡ canonical_text Notation.avn v) → IfOk r (λ t. (limit : ℕ) → ReadsBack limit v (string_bytes t))
read_back s v (Ok t) a fit can text = λ limit. record {
  again = λ within. subst (λ x. ParsesWhole limit (chars x) (normal (avn_tree v))) (sym text) (reads_whole limit 0 (avn_tree v) (well-formed a fit can) within);
  deep = λ above. subst (λ x. ExceedsDepth limit 0 (chars x)) (sym text) (sinks_whole limit 0 (avn_tree v) (well-formed a fit can) above);
}
read_back s v (Err e) a fit can text = tt
