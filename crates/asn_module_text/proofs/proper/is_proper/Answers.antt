use Rattle.std.proofs.Common.{◌↔◌, IsTrue, map, subst}
use Rattle.asn_notation.specs.View.{assignment_view}
use Rattle.asn_module_text.specs.Modules.{IsProper}
use Rattle.asn_module_text.proofs.Properness.{from_text, to_text}
use Rattle.asn_module_text.proofs.proper.is_proper.Goals as goal

pub returns-clause-text : goal.returns-clause-text
returns-clause-text c =
    let p = subst (λ xs. IsTrue c.are_proper.result ↔ IsProper 64 (map assignment_view xs)) c.deref.ensures.value c.are_proper.ensures in ((λ t. to_text (p.0 t)), (λ m. p.1 (from_text m)))
