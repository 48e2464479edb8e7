use Rattle.std.proofs.Common.{ap, ◌∙◌, inr, string_bytes}
use Rattle.std.proofs.lemmas.Result.{IfOk-at_ok}
use Rattle.std.specs.Prelude.{option_map}
use Rattle.asn_slots.specs.Slots.{last_present}
use Rattle.asn_slots.proofs.Trees.{no_tree}
use Rattle.asn_traits.specs.Canonical.{canonical_text}
use Rattle.asn_traits.specs.Notation.{Notation}
use Rattle.avn_rules.proofs.Roots.{text_held}
use Rattle.avn_rules.proofs.avn.enc.Encoder.to_string.Goals as goal

pub returns-in-Some-clause-text : goal.returns-in-Some-clause-text
returns-in-Some-clause-text c = λ f fs held.
    text_held c.args.self.frames c.in_ok-text.field-0 f fs (IfOk-at_ok _ c.in_ok-text.ensures.same c.print_last.ensures) held ∙ ap (option_map string_bytes) c.in-Some.is

pub returns-clause-refused : goal.returns-clause-refused
returns-clause-refused c =
    inr (c.no_root_value.ensures.kind, λ f fs held. no_tree (canonical_text Notation.avn) (last_present f) (text_held c.args.self.frames c.in_ok-text.field-0 f fs (IfOk-at_ok _ c.in_ok-text.ensures.same c.print_last.ensures) held ∙ ap (option_map string_bytes) c.in-None.is))
