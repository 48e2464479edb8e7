use Rattle.std.proofs.Common.{refl, sym, ◌∙◌}
use Rattle.avn_rules.proofs.LeafNodes.{no_utf8_text, utf8_text_taken, cause_refused}
use Rattle.avn_rules.proofs.Octets.{octets_are_no_text}
use Rattle.avn_rules.proofs.avn.leaf_nodes.text_of_node.Goals as goal

pub returns-in_ok-owned_text-in-Ok : goal.returns-in_ok-owned_text-in-Ok
returns-in_ok-owned_text-in-Ok c =
    utf8_text_taken c.args.kind _ c.octets.result.now c.in_ok-owned_text-in-Ok.field-0 c.requires.text (sym c.in-OctetString.ensures) c.octets.ensures c.in-Ok.ensures.cases.1 (c.in_ok-owned_text-in-Ok.ensures.same ∙ c.in-Ok.ensures.cases.0)

pub returns-in-Err : goal.returns-in-Err
returns-in-Err c = cause_refused c.args.kind _ _ _ (no_utf8_text c.args.kind _ c.octets.result.now c.requires.text (sym c.in-OctetString.ensures) c.octets.ensures (octets_are_no_text _ c.in-Err.ensures.cases.0)) refl c.no_utf8.ensures
