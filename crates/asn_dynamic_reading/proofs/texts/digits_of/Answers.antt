use Rattle.std.proofs.Common.{◌≡◌, ◌⊎◌, ◌∙◌, ℕ, List, true, false, if◌then◌else◌, Ok, Err, ap, inl, inr, refl, sym, string_bytes}
use Rattle.asn_core.specs.declared.codec.Codec.{Codec}
use Rattle.asn_fault.specs.Failure.{Cause, Failure, at_root, failure_of}
use Rattle.asn_model.specs.Decimals.{is_decimal}
use Rattle.asn_model.specs.Leaf.{LeafFailure, no_decimal, refine}
use Rattle.asn_model.specs.Shape.{Shape}
use Rattle.asn_model.specs.Value.{Value}
use Rattle.asn_types.specs.TextTypes.{IsNoText}
use Rattle.asn_dynamic_values.specs.DynView.{dyn_value}
use Rattle.asn_dynamic_reading.proofs.texts.digits_of.Goals as goal

decimal-made : (text : List ℕ) (v : Value) → is_decimal text ≡ true → v ≡ Value.text text → (c : Codec) → refine c Shape.decimal (Value.text text) ≡ Ok v
decimal-made text v e is c = ap (λ b. if b then Ok (Value.text text) else Err (LeafFailure.because (no_decimal text))) e ∙ ap (λ w. Ok w) (sym is)

decimal-refused : (text other : List ℕ) (codec : Codec) (e : Failure) → is_decimal text ≡ false → other ≡ text → (e ≡ at_root (no_decimal other) codec) ⊎ (e ≡ at_root Cause.out_of_memory codec)
    → IsNoText Shape.decimal text codec e ⊎ (e ≡ at_root Cause.out_of_memory codec)
decimal-refused text other codec e outside same (inl is) =
    inl (record { cause = no_decimal text; place = codec; refused = λ c. ap (λ b. if b then Ok (Value.text text) else Err (LeafFailure.because (no_decimal text))) outside; is = is ∙ ap (λ t. at_root (no_decimal t) codec) same; of = refl })
decimal-refused text other codec e outside same (inr memory) = inr memory

pub returns-then-is_some-clause-made : goal.returns-then-is_some-clause-made
returns-then-is_some-clause-made c codec =
    decimal-made (string_bytes c.args.text) (dyn_value c.text_value.result) (sym (c.is_some.ensures ∙ c.of_digits.ensures.is ∙ ap is_decimal c.as_str.ensures.value) ∙ c.if-is_some.true) c.text_value.ensures.value codec

pub returns-else-is_some-clause-made : goal.returns-else-is_some-clause-made
returns-else-is_some-clause-made c =
    decimal-refused (string_bytes c.args.text) c.as_str-else-is_some.result.now c.args.codec (failure_of c.no_decimal.result) (sym (c.is_some.ensures ∙ c.of_digits.ensures.is ∙ ap is_decimal c.as_str.ensures.value) ∙ c.if-is_some.false)
    c.as_str-else-is_some.ensures.value c.no_decimal.ensures
