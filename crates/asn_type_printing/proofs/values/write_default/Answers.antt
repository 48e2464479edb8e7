use Rattle.std.proofs.Common.{◌∙◌, ◌++◌, ap, sym, string_bytes}
use Rattle.asn_model.specs.ShapeView.{plain_view}
use Rattle.asn_type_printing.specs.Printed.{default_text}
use Rattle.avn_grammar.specs.Print.{print}
use Rattle.avn_grammar.specs.Tree.{char_string}
use Rattle.asn_type_printing.proofs.values.write_default.Goals as goal

pub returns-in_ok-write-in-Text : goal.returns-in_ok-write-in-Text
unfolding print
returns-in_ok-write-in-Text c =
    c.in_ok-write-in-Text.ensures.bytes ∙ ap (λ t. string_bytes c.args.out.now ++ print 0 (char_string t)) c.as_str.ensures.value ∙ ap (λ p. string_bytes c.args.out.now ++ default_text (plain_view p)) (sym c.in-Text.is)
