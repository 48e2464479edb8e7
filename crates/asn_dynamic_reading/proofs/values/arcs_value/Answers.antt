use Rattle.std.proofs.Common.{◌≡◌, subst, sym, true}
use Rattle.asn_dynamic_reading.specs.fitting.HeldValue.{IsHeldValue}
use Rattle.avn_grammar.specs.Chars.{all}
use Rattle.avn_grammar.specs.WellFormed.{is_arc}
use Rattle.asn_dynamic_values.proofs.Views.{view-Arcs}
use Rattle.asn_dynamic_reading.proofs.values.arcs_value.Goals as goal

pub returns-clause-value : goal.returns-clause-value
returns-clause-value c = view-Arcs c.args.arcs

pub returns-clause-held : goal.returns-clause-held
returns-clause-held c = subst IsHeldValue (sym (view-Arcs c.args.arcs)) (subst (λ arcs. all is_arc arcs ≡ true) c.as_slice.ensures.value c.are_arcs.ensures)
