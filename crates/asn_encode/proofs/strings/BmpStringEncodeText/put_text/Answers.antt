use Rattle.std.proofs.Common.{◌≡◌, refl, sym, subst, true, IsTrue}
use Rattle.std.proofs.lemmas.Result.{on_ok_weaker, IfErr-weaker}
use Rattle.std.specs.Prelude.{string_bytes}
use Rattle.std.specs.Str.{is_utf8}
use Rattle.asn_strings.specs.Alphabets.{all_within, is_bmp}
use Rattle.asn_strings.specs.Units.{text_of_units}
use Rattle.asn_model.specs.Shape.{Shape}
use Rattle.asn_model.specs.Value.{Value}
use Rattle.asn_model.proofs.StringFacts.{units_utf8}
use Rattle.asn_types.proofs.TextLeaves.{text_tree, text_unwritten, text_written}
use Rattle.asn_encode.proofs.strings.BmpStringEncodeText.put_text.Goals as goal

pub returns-in-Ok-clause-written : goal.returns-in-Ok-clause-written
returns-in-Ok-clause-written g c =
    let units = c.args.self.now in
    let text = c.in-Ok.ensures.text in
    let fit = subst (λ us. IsTrue (all_within is_bmp us)) c.units.ensures c.units_are_within.ensures in
    let tree = text_tree g.E.Encoder.notation (Value.units units) (text_of_units units) (string_bytes c.in-Ok.text) refl refl text in
    on_ok_weaker c.put_leaf.result (text_written Shape.bmp (Value.units units) (string_bytes c.in-Ok.text) tree c.in-Ok.ensures.characters fit) c.put_leaf.ensures.put

pub returns-in-Ok-clause-refused : goal.returns-in-Ok-clause-refused
returns-in-Ok-clause-refused g c =
    let units = c.args.self.now in
    let text = c.in-Ok.ensures.text in
    let utf8 = subst (λ t. is_utf8 t ≡ true) (sym text) (units_utf8 units c.in-Ok.ensures.characters) in
    IfErr-weaker c.put_leaf.result _ _ (λ e cause. text_unwritten (Value.units units) (string_bytes c.in-Ok.text) e utf8 cause) c.put_leaf.ensures.refused
