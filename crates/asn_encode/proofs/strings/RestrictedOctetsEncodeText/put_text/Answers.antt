use Rattle.std.proofs.Common.{◌≡◌, ap, ◌∙◌, subst, true}
use Rattle.std.proofs.lemmas.Result.{on_ok_weaker}
use Rattle.std.specs.Str.{IsUtf8}
use Rattle.std.specs.Str.Lossy.{utf8_valid_len}
use Rattle.avn_grammar.specs.Chars.{all}
use Rattle.avn_grammar.specs.WellFormed.{is_octet}
use Rattle.asn_model.specs.Shape.{Shape}
use Rattle.asn_model.specs.Value.{Value}
use Rattle.asn_coding.proofs.LeafValues.{leaf_written}
use Rattle.asn_types.proofs.TextLeaves.{octets_block, told_unwritten}
use Rattle.asn_encode.proofs.strings.RestrictedOctetsEncodeText.put_text.Goals as goal

pub returns-in-Ok-clause-written : goal.returns-in-Ok-clause-written
returns-in-Ok-clause-written g c =
    let octets = c.args.self.now in
    let o = c.octets-octets.ensures in
    let fit = g.met.C.OctetsSet.is_value octets (subst (λ bs. all is_octet bs ≡ true) o.octets c.are_octets.ensures) o.within in
    on_ok_weaker c.put_leaf.result (leaf_written (Shape.text g.C.NamedSet.name) (Value.text octets) _ (ap Value.text (c.in-Ok.ensures.cases.0 ∙ o.octets)) fit) c.put_leaf.ensures.put

pub returns-in-Err-clause-refused : goal.returns-in-Err-clause-refused
returns-in-Err-clause-refused g c =
    let octets = c.args.self.now in
    let o = c.octets-octets.ensures in
    let none = subst (λ bs. IsUtf8 bs → ⊥) o.octets c.in-Err.ensures.cases.0 in
    let place = c.valid_up_to.ensures ∙ c.in-Err.ensures.valid_len ∙ ap utf8_valid_len o.octets in
    told_unwritten (Value.text octets) _ c.no_unicode.result (octets_block g.E.Encoder.notation octets c.valid_up_to.result none place) c.no_unicode.ensures
