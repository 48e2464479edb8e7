use Rattle.std.proofs.Common.{ap, refl, subst, sym}
use Rattle.asn_notation.specs.Grammar.{ModuleParses}
use Rattle.asn_notation.specs.Printed.{module_text}
use Rattle.asn_notation.proofs.OneNotation.{same_module}
use Rattle.asn_notation.proofs.ReadAgain.{module_again}
use Rattle.asn_notation.proofs.laws.equal_texts_are_of_equal_modules.Goals as goal

pub returns : goal.returns
returns c = λ limit assignments others proper also.
    let read = module_again limit (module_text assignments) assignments refl proper in
    let again = module_again limit (module_text others) others refl also in
    ((λ same. same_module read (subst (λ text. ModuleParses limit text others) (sym same) again)), (λ same. ap module_text same))
