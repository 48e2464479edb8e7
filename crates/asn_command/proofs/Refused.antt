-- Which texts are refused.
use Rattle.std.proofs.Common.{◌≡◌, ◌⊎◌, ℕ, List, Bool, true, false, sym, ◌∙◌, inl, inr}
use Rattle.avn_grammar.specs.declared.limits.TheConstants.{LEVEL_LIMIT}
use Rattle.asn_codec.specs.Conversion.{IsConvertible, IsMemoryRefusal, Refuses, is_refusal_out_of_memory}
use Rattle.asn_codec.proofs.Passing.{memory_refused}
use Rattle.asn_command.specs.Conversions.{IsRefusal}
use Rattle.asn_core.specs.declared.codec.Codec.{Codec}
use Rattle.asn_dynamic.specs.Converting.{convert_refusal_of}
use Rattle.asn_dynamic.specs.declared.conversion.ConvertError.{ConvertError}
use Rattle.asn_model.specs.Shape.{Shape}
use Rattle.asn_value_refusals.specs.Lines.{IsRefusalLines}
use Rattle.asn_value_refusals.specs.declared.origin.Origin.{Origin}

-- A refusal for an error that isn't out of memory.
pub refused_so : (from to : Codec) (s : Shape) (o : Origin) (explain : Bool) (text due : List ℕ) (e : ConvertError)
    → IsMemoryRefusal from to (convert_refusal_of e) ⊎ Refuses LEVEL_LIMIT from to s text (convert_refusal_of e)
    → (IsConvertible LEVEL_LIMIT from to s text → is_refusal_out_of_memory (convert_refusal_of e) ≡ true)
    → is_refusal_out_of_memory (convert_refusal_of e) ≡ false → IsRefusalLines o e text explain due → IsRefusal from to s o explain text due
refused_so from to s o explain text due e (inl m) complete fine lines = let wrong : true ≡ false = sym (memory_refused from to _ m) ∙ fine in cc wrong
refused_so from to s o explain text due e (inr r) complete fine lines =
    record { unanswerable = λ h. let wrong : true ≡ false = sym (complete h) ∙ fine in cc wrong; error = e; refuses = r; lines = lines }
