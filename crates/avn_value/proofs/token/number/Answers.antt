use Rattle.std.proofs.Common.{◌≡◌, ◌∙◌, ap, arith}
use Rattle.avn_grammar.specs.declared.chars.CharClass.TheVariants as is
use Rattle.avn_grammar.specs.Chars.{tail, class_of_next}
use Rattle.avn_value.proofs.NoToken.{minus_none, plain_none}
use Rattle.avn_value.proofs.NumberNodes.{plain_read, signed_read, shorter_read}
use Rattle.avn_value.proofs.token.number.Goals as goal

pub returns-in_ok-push_char-in-Minus-clause-ok : goal.returns-in_ok-push_char-in-Minus-clause-ok
returns-in_ok-push_char-in-Minus-clause-ok c =
    let e = c.unsigned.ensures in
    let m : class_of_next c.args.cursor.now.rest ≡ is.Minus = cc in
    signed_read c.args.cursor.now.rest c.unsigned.new.cursor.rest c.take-minus.new.self.rest _ c.args.nodes.now c.push_char.new.self c.unsigned.new.nodes c.unsigned.result c.requires.clear c.in_ok-push_char-in-Minus.ensures.pushed
    (c.push_char.ensures.ascii (omega arith)) m (c.take-minus.ensures.moves ∙ ap tail c.class_of_next.ensures.stays) e.digit e.moves e.integer e.tree

pub returns-in_ok-push_char-in-Minus-clause-shorter : goal.returns-in_ok-push_char-in-Minus-clause-shorter
returns-in_ok-push_char-in-Minus-clause-shorter c = shorter_read _ _ c.args.nodes.now _ _ (returns-in_ok-push_char-in-Minus-clause-ok c)

pub returns-in_ok-push_char-in-Minus-clause-none : goal.returns-in_ok-push_char-in-Minus-clause-none
returns-in_ok-push_char-in-Minus-clause-none c = λ e.
    let m : class_of_next c.args.cursor.now.rest ≡ is.Minus = cc in
    minus_none c.args.cursor.now.rest c.take-minus.new.self.rest m (c.take-minus.ensures.moves ∙ ap tail c.class_of_next.ensures.stays) (c.unsigned.ensures.none e)

pub returns-in_default-clause-ok : goal.returns-in_default-clause-ok
returns-in_default-clause-ok c =
    let e = c.unsigned-in_default.ensures in
    plain_read c.args.cursor.now.rest c.unsigned-in_default.new.cursor.rest c.class_of_next.new.self.rest c.args.nodes.now c.unsigned-in_default.new.nodes c.unsigned-in_default.result c.requires.clear c.class_of_next.ensures.stays e.digit e.moves e.integer e.tree

pub returns-in_default-clause-shorter : goal.returns-in_default-clause-shorter
returns-in_default-clause-shorter c = shorter_read _ _ c.args.nodes.now _ _ (returns-in_default-clause-ok c)

pub returns-in_default-clause-none : goal.returns-in_default-clause-none
returns-in_default-clause-none c = λ e.
    let f : c.class_of_next.result ≡ class_of_next c.args.cursor.now.rest = c.class_of_next.ensures.found in
    plain_none c.args.cursor.now.rest c.class_of_next.new.self.rest c.requires.begins (λ h. c.in_default.not-Minus (f ∙ h)) c.class_of_next.ensures.stays (c.unsigned-in_default.ensures.none e)
