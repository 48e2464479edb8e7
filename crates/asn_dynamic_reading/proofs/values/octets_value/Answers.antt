use Rattle.std.proofs.Common.{◌≡◌, subst, sym, true}
use Rattle.asn_dynamic_reading.specs.fitting.HeldValue.{IsHeldValue}
use Rattle.avn_grammar.specs.Chars.{all}
use Rattle.avn_grammar.specs.WellFormed.{is_octet}
use Rattle.asn_dynamic_values.proofs.Views.{view-Octets}
use Rattle.asn_dynamic_reading.proofs.values.octets_value.Goals as goal

pub returns-clause-value : goal.returns-clause-value
returns-clause-value c = view-Octets c.args.octets

pub returns-clause-held : goal.returns-clause-held
returns-clause-held c = subst IsHeldValue (sym (view-Octets c.args.octets)) (subst (λ os. all is_octet os ≡ true) c.as_slice.ensures.value c.are_octets.ensures)
