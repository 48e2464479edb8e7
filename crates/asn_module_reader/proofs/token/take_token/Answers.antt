use Rattle.std.proofs.Common.{◌∷◌, [], if◌then◌else◌, refl, sym, ap, ◌∙◌, string_bytes}
use Rattle.avn_grammar.specs.Chars.{class_of_next}
use Rattle.avn_grammar.specs.declared.chars.CharClass.TheVariants as is
use Rattle.asn_notation.specs.Tokens.{Token, begins}
use Rattle.asn_module_reader.proofs.TokensTaken.{token_is, past_is, word_bytes, word_left, unknown_class}
use Rattle.asn_module_reader.proofs.token.take_token.Goals as goal

pub returns-in-AtEnd-clause-found : goal.returns-in-AtEnd-clause-found
returns-in-AtEnd-clause-found c = token_is _ c.skip.new.self.rest is.AtEnd Token.end c.skip.ensures.moves (sym c.class_of_next.ensures.found ∙ c.in-AtEnd.is) refl

pub returns-in_ok-take_run-in-Letter-clause-found : goal.returns-in_ok-take_run-in-Letter-clause-found
returns-in_ok-take_run-in-Letter-clause-found c =
    let e = c.class_of_next.ensures.stays ∙ c.skip.ensures.moves in
    let h = ap class_of_next c.class_of_next.ensures.stays ∙ sym c.class_of_next.ensures.found ∙ c.in-Letter.is in
    let m = word_bytes c.class_of_next.new.self.rest (string_bytes c.take_run.new.out) (string_bytes c.new-word.result) c.new-word.ensures.bytes c.in_ok-take_run-in-Letter.ensures.found in
    token_is _ c.class_of_next.new.self.rest is.Letter (Token.word (string_bytes c.take_run.new.out)) e h (ap (λ x. Token.word x) (sym m))

pub returns-in_ok-take_run-in-Letter-clause-moves : goal.returns-in_ok-take_run-in-Letter-clause-moves
returns-in_ok-take_run-in-Letter-clause-moves c = λ u.
    let e = c.class_of_next.ensures.stays ∙ c.skip.ensures.moves in
    let h = ap class_of_next c.class_of_next.ensures.stays ∙ sym c.class_of_next.ensures.found ∙ c.in-Letter.is in
    past_is _ c.class_of_next.new.self.rest _ is.Letter e h c.in_ok-take_run-in-Letter.ensures.moves

pub returns-in_ok-take_run-in-Letter-clause-shorter : goal.returns-in_ok-take_run-in-Letter-clause-shorter
returns-in_ok-take_run-in-Letter-clause-shorter c = λ u.
    let e = c.class_of_next.ensures.stays ∙ c.skip.ensures.moves in
    let h = ap class_of_next c.class_of_next.ensures.stays ∙ sym c.class_of_next.ensures.found ∙ c.in-Letter.is in
    word_left _ c.class_of_next.new.self.rest _ e h c.in_ok-take_run-in-Letter.ensures.moves

pub returns-in-OpenBrace-clause-found : goal.returns-in-OpenBrace-clause-found
returns-in-OpenBrace-clause-found c = token_is _ c.skip.new.self.rest is.OpenBrace Token.open_brace c.skip.ensures.moves (sym c.class_of_next.ensures.found ∙ c.in-OpenBrace.is) refl

pub returns-in-OpenBrace-clause-moves : goal.returns-in-OpenBrace-clause-moves
returns-in-OpenBrace-clause-moves c = λ h. past_is _ c.skip.new.self.rest _ is.OpenBrace c.skip.ensures.moves (sym c.class_of_next.ensures.found ∙ c.in-OpenBrace.is) (cc)

pub returns-in-CloseBrace-clause-found : goal.returns-in-CloseBrace-clause-found
returns-in-CloseBrace-clause-found c = token_is _ c.skip.new.self.rest is.CloseBrace Token.close_brace c.skip.ensures.moves (sym c.class_of_next.ensures.found ∙ c.in-CloseBrace.is) refl

pub returns-in-CloseBrace-clause-moves : goal.returns-in-CloseBrace-clause-moves
returns-in-CloseBrace-clause-moves c = λ h. past_is _ c.skip.new.self.rest _ is.CloseBrace c.skip.ensures.moves (sym c.class_of_next.ensures.found ∙ c.in-CloseBrace.is) (cc)

pub returns-in-Comma-clause-found : goal.returns-in-Comma-clause-found
returns-in-Comma-clause-found c = token_is _ c.skip.new.self.rest is.Comma Token.comma c.skip.ensures.moves (sym c.class_of_next.ensures.found ∙ c.in-Comma.is) refl

pub returns-in-Comma-clause-moves : goal.returns-in-Comma-clause-moves
returns-in-Comma-clause-moves c = λ h. past_is _ c.skip.new.self.rest _ is.Comma c.skip.ensures.moves (sym c.class_of_next.ensures.found ∙ c.in-Comma.is) (cc)

pub returns-then-takes_all-clause-found : goal.returns-then-takes_all-clause-found
returns-then-takes_all-clause-found c =
    token_is _ c.skip.new.self.rest is.Colon Token.assignment c.skip.ensures.moves (sym c.class_of_next.ensures.found ∙ c.in-Colon.is)
    (ap (λ b. if b then Token.assignment else Token.unknown) (ap (λ x. begins (58 ∷ 58 ∷ 61 ∷ []) x) (sym c.class_of_next.ensures.stays) ∙ sym c.takes_all.ensures.found ∙ c.if-takes_all.true))

pub returns-then-takes_all-clause-moves : goal.returns-then-takes_all-clause-moves
returns-then-takes_all-clause-moves c = λ h.
    let m = c.takes_all.ensures.moves c.if-takes_all.true in
    past_is _ c.skip.new.self.rest _ is.Colon c.skip.ensures.moves (sym c.class_of_next.ensures.found ∙ c.in-Colon.is) (cc)

pub returns-else-takes_all-clause-found : goal.returns-else-takes_all-clause-found
returns-else-takes_all-clause-found c =
    token_is _ c.skip.new.self.rest is.Colon Token.unknown c.skip.ensures.moves (sym c.class_of_next.ensures.found ∙ c.in-Colon.is)
    (ap (λ b. if b then Token.assignment else Token.unknown) (ap (λ x. begins (58 ∷ 58 ∷ 61 ∷ []) x) (sym c.class_of_next.ensures.stays) ∙ sym c.takes_all.ensures.found ∙ c.if-takes_all.false))

pub returns-then-takes_all-2-clause-found : goal.returns-then-takes_all-2-clause-found
returns-then-takes_all-2-clause-found c =
    token_is _ c.skip.new.self.rest is.Other Token.ellipsis c.skip.ensures.moves (sym c.class_of_next.ensures.found ∙ c.in-Other.is)
    (ap (λ b. if b then Token.ellipsis else Token.unknown) (ap (λ x. begins (46 ∷ 46 ∷ 46 ∷ []) x) (sym c.class_of_next.ensures.stays) ∙ sym c.takes_all-in-Other.ensures.found ∙ c.if-takes_all-2.true))

pub returns-then-takes_all-2-clause-moves : goal.returns-then-takes_all-2-clause-moves
returns-then-takes_all-2-clause-moves c = λ h.
    let m = c.takes_all-in-Other.ensures.moves c.if-takes_all-2.true in
    past_is _ c.skip.new.self.rest _ is.Other c.skip.ensures.moves (sym c.class_of_next.ensures.found ∙ c.in-Other.is) (cc)

pub returns-else-takes_all-2-clause-found : goal.returns-else-takes_all-2-clause-found
returns-else-takes_all-2-clause-found c =
    token_is _ c.skip.new.self.rest is.Other Token.unknown c.skip.ensures.moves (sym c.class_of_next.ensures.found ∙ c.in-Other.is)
    (ap (λ b. if b then Token.ellipsis else Token.unknown) (ap (λ x. begins (46 ∷ 46 ∷ 46 ∷ []) x) (sym c.class_of_next.ensures.stays) ∙ sym c.takes_all-in-Other.ensures.found ∙ c.if-takes_all-2.false))

pub returns-in_default-clause-found : goal.returns-in_default-clause-found
returns-in_default-clause-found c =
    let d = c.in_default in
    token_is _ c.skip.new.self.rest c.class_of_next.result Token.unknown c.skip.ensures.moves (sym c.class_of_next.ensures.found) (unknown_class c.class_of_next.result _ d.not-AtEnd d.not-Letter d.not-OpenBrace d.not-CloseBrace d.not-Comma d.not-Colon d.not-Other)
