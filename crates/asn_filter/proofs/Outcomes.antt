-- What a line comes to, from what reading by the newer shape and converting by the older one answer.
use Rattle.std.proofs.Common.{◌≡◌, ◌⊎◌, List, ℕ, Some, Result, Ok, Err, true, false, inl, inr, refl, sym, ap, ◌∙◌, subst}
use Rattle.std.specs.Prelude.{IfOk}
use Rattle.avn_grammar.specs.declared.limits.TheConstants.{LEVEL_LIMIT}
use Rattle.asn_codec.specs.Conversion.{Converts, IsMemoryRefusal, Refusal, Refuses, is_refusal_out_of_memory}
use Rattle.asn_codec.specs.Texts.{IsDecodeFailure, IsUnencodable, TextDecodesTo}
use Rattle.asn_codec.proofs.Again.{one_tree}
use Rattle.asn_codec.proofs.Passing.{memory_refused}
use Rattle.asn_core.specs.declared.codec.Codec.{Codec}
use Rattle.asn_core.specs.declared.codec.Codec.TheVariants.{Jer}
use Rattle.asn_dynamic.specs.Converting.{convert_refusal_of}
use Rattle.asn_dynamic.specs.declared.conversion.ConvertError.{ConvertError}
use Rattle.asn_dynamic.specs.declared.conversion.ConvertError.TheVariants.{Read, Write}
use Rattle.asn_dynamic_faults.specs.DynFailure.{dyn_failure}
use Rattle.asn_dynamic_faults.specs.declared.errors.DynError.{DynError}
use Rattle.asn_dynamic_values.specs.DynView.{dyn_value}
use Rattle.asn_dynamic_values.specs.declared.value.DynValue.{DynValue}
use Rattle.asn_fault.specs.EncodeCause.{EncodeCause, encode_cause}
use Rattle.asn_fault.specs.Failure.{Cause, Failure, at_root, is_out_of_memory}
use Rattle.asn_filter.specs.Kept.{IsKept, IsRefused}
use Rattle.asn_growth.specs.Adapted.{project}
use Rattle.asn_growth.specs.ComesUpon.{Known}
use Rattle.asn_growth.specs.Grows.{Grows}
use Rattle.asn_growth.proofs.Unknowns.{fails-upon}
use Rattle.asn_model.proofs.Meanings.{apart}
use Rattle.asn_model.specs.Canonical.{canonical_text}
use Rattle.asn_model.specs.DecodesTo.{DecodesTo}
use Rattle.asn_model.specs.Notation.{Notation, notation_of}
use Rattle.asn_model.specs.Readable.{is_readable}
use Rattle.asn_model.specs.Shape.{Shape}
use Rattle.asn_model.specs.Value.{Value}
use Rattle.asn_model.specs.Writable.{Writable}
use Rattle.asn_upgrades.proofs.Reading.{older_projected, older_unknown}
use Rattle.asn_upgrades.proofs.Refusing.{is_text}

-- Of a line that isn't read, a refusal that isn't of memory states why.
pub line_unread : (from : Codec) (old new : Shape) (line : List ℕ) (e : DynError) → (dyn_failure e ≡ at_root Cause.out_of_memory from) ⊎ IsDecodeFailure LEVEL_LIMIT from new line (dyn_failure e)
    → is_out_of_memory (dyn_failure e) ≡ false → IsRefused from old new line (Read e)
line_unread from old new line e (inl m) other = let x : true ≡ false = ap is_out_of_memory (sym m) ∙ other in cc x
line_unread from old new line e (inr h) other = IsRefused.unread e h

unread_by : (from : Codec) (s : Shape) (text : List ℕ) (f : Failure) → Refuses LEVEL_LIMIT from Jer s text (Refusal.decode f) → IsDecodeFailure LEVEL_LIMIT from s text f
unread_by from s text f (Refuses.unread g h) = h

unwritten_by : (from : Codec) (s : Shape) (text : List ℕ) (cause : EncodeCause) (codec : Codec) → Refuses LEVEL_LIMIT from Jer s text (Refusal.encode cause codec)
    → (v : Value) × TextDecodesTo LEVEL_LIMIT (notation_of from) s text v × IsUnencodable Jer v cause × (codec ≡ Jer)
unwritten_by from s text cause codec (Refuses.unwritten v why says h) = (v, says, h, refl)

-- A line of which reading answers no error has a value.
pub line_read : (from : Codec) (new : Shape) (line : List ℕ) (r : Result DynValue DynError) → IfOk r (λ v. TextDecodesTo LEVEL_LIMIT (notation_of from) new line (dyn_value v)) → ((e : DynError) → r ≡ Err e → ⊥)
    → (v : Value) × TextDecodesTo LEVEL_LIMIT (notation_of from) new line v
line_read from new line (Ok v) h none = (dyn_value v, h)
line_read from new line (Err e) h none = absurd (none e refl)

-- A line that the newer shape reads, and what the older one makes of it.
module _ (from : Codec) (old new : Shape) (line : List ℕ) (a : is_readable old ≡ true) (g : Grows old new) (value : Value) (read : TextDecodesTo LEVEL_LIMIT (notation_of from) new line value) where
  is_known : (w : Value) → TextDecodesTo LEVEL_LIMIT (notation_of from) old line w → Known (notation_of from) old read.tree
  is_known w h = λ p x upon unknown.
      let same = one_tree LEVEL_LIMIT (notation_of from) line h.tree read.tree h.has read.has in
      apart (is_text read.has) (subst (λ t. DecodesTo (notation_of from) old (Some t) w) same h.says) (fails-upon upon)

  is_projected : (w : Value) → TextDecodesTo LEVEL_LIMIT (notation_of from) old line w → w ≡ project old value
  is_projected w h = older_projected from old new line read.tree value a g read.has read.says w h

  pub line_kept : (output : List ℕ) → Converts LEVEL_LIMIT from Jer old line output → IsKept from old new line output
  line_kept output h =
      let same = is_projected h.value h.says in
      record { value = value; read = read; known = is_known h.value h.says; writable = subst (Writable Notation.jer) same h.writable; text = h.text ∙ ap (canonical_text Notation.jer) same }

  line_refused : (fault : ConvertError) → Refuses LEVEL_LIMIT from Jer old line (convert_refusal_of fault) → IsRefused from old new line fault
  line_refused (Read e) h =
      let fails = unread_by from old line (dyn_failure e) h in
      IsRefused.unknown e value read (older_unknown from old new line read.tree value a g read.has read.says (dyn_failure e) fails) fails
  line_refused (Write e) h =
      let k = unwritten_by from old line (encode_cause e.kind) e.codec h in
      IsRefused.unwritten e value read (is_known k.0 k.1) (subst (λ v. IsUnencodable Jer v (encode_cause e.kind)) (is_projected k.0 k.1) k.2) k.3

  pub line_unconverted : (fault : ConvertError) → IsMemoryRefusal from Jer (convert_refusal_of fault) ⊎ Refuses LEVEL_LIMIT from Jer old line (convert_refusal_of fault)
      → is_refusal_out_of_memory (convert_refusal_of fault) ≡ false → IsRefused from old new line fault
  line_unconverted fault (inl m) other = let x : true ≡ false = sym (memory_refused from Jer (convert_refusal_of fault) m) ∙ other in cc x
  line_unconverted fault (inr h) other = line_refused fault h
