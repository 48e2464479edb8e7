use Rattle.std.proofs.Common.{◌≡◌, true, false, refl, sym, ◌∙◌}
use Rattle.avn_grammar.specs.Chars.{skip}
use Rattle.avn_grammar.specs.declared.chars.CharClass.TheVariants as is
use Rattle.asn_notation.specs.Tokens.{Token}
use Rattle.asn_module_reader.proofs.TokensTaken.{token_is, past_is, no_brace}
use Rattle.asn_module_reader.proofs.token.take_closing_brace.Goals as goal

pub returns-in-CloseBrace-clause-yes : goal.returns-in-CloseBrace-clause-yes
returns-in-CloseBrace-clause-yes c = λ e. sym (token_is _ (skip c.args.cursor.now.rest) is.CloseBrace Token.close_brace refl (sym c.class_after_blanks.ensures.found ∙ c.in-CloseBrace.is) refl)

pub returns-in-CloseBrace-clause-moves : goal.returns-in-CloseBrace-clause-moves
returns-in-CloseBrace-clause-moves c = λ e. past_is _ (skip c.args.cursor.now.rest) _ is.CloseBrace refl (sym c.class_after_blanks.ensures.found ∙ c.in-CloseBrace.is) (cc)

pub returns-in_default : goal.returns-in_default
returns-in_default c =
    let no : false ≡ true → ⊥ = λ e. cc in
    record {
      yes = λ e. absurd (no e);
      moves = λ e. absurd (no e);
      shorter = λ e. absurd (no e);
      no = λ e. no_brace c.args.cursor.now.rest (λ h. c.in_default.not-CloseBrace (c.class_after_blanks.ensures.found ∙ h));
      stays = λ e. c.class_after_blanks.ensures.stays;
    }
