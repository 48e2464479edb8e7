use Rattle.std.proofs.Common.{◌≡◌, ◌-◌, length, take, sym, subst, ap, ◌∙◌, arith}
use Rattle.std.proofs.lemmas.Grind.{common_steps}
use Rattle.std.proofs.lemmas.Str.{IsUtf8-from_ascii}
use Rattle.std.specs.Str.{IsUtf8}
use Rattle.asn_lexer.specs.Words.{word_front}
use Rattle.asn_lexer.proofs.Words.{word_le, word_taken, word_ascii}
use Rattle.asn_lexer.proofs.word.word_at.Goals as goal

pub slice_bounds-from_utf8-count : goal.slice_bounds-from_utf8-count
slice_bounds-from_utf8-count c = omega (arith, word_le c.args.text.now, ap (λ v. length v) c.past_word-rest.ensures)

pub returns-clause-word : goal.returns-clause-word
returns-clause-word c =
    let t = c.args.text.now in
    let e : take (length t - length c.past_word-rest.result.now) t ≡ word_front t = ap (λ v. take (length t - length v) t) c.past_word-rest.ensures ∙ word_taken t in
    grind (arith, common_steps, e)

pub unreachable-requires : goal.unreachable-requires
unreachable-requires c =
    let t = c.args.text.now in
    let e : take (length t - length c.past_word-rest.result.now) t ≡ word_front t = ap (λ v. take (length t - length v) t) c.past_word-rest.ensures ∙ word_taken t in
    c.in-Err.ensures.cases.0 (subst IsUtf8 (sym e) (IsUtf8-from_ascii (word_front t) (word_ascii t)))
