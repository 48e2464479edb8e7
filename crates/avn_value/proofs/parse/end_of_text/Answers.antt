use Rattle.std.proofs.Common.{◌≡◌, ◌≢◌, [], string_bytes, MatchOption, sym, ap, subst, ◌∙◌}
use Rattle.std.specs.Str.{encode_utf8_all}
use Rattle.std.specs.Char.{is_whitespace}
use Rattle.asn_core.specs.declared.codec.Codec.TheVariants.{Avn}
use Rattle.asn_fault.specs.Failure.{Cause, at_root}
use Rattle.avn_grammar.specs.Chars.{skip_while}
use Rattle.avn_value.specs.Answer.{IsMoreOrMemory, more, no_memory}
use Rattle.avn_value.proofs.parse.end_of_text.Goals as goal

pub returns-in-Some-clause-err : goal.returns-in-Some-clause-err
returns-in-Some-clause-err c =
    let u = c.args.cursor.now.rest in
    let k = subst (λ o. MatchOption o (skip_while is_whitespace u ≡ []) (λ s. (skip_while is_whitespace u ≢ []) × (string_bytes s ≡ encode_utf8_all u))) c.in-Some.is c.in-Ok.ensures.found in
    subst (IsMoreOrMemory u) (sym (c.into.ensures ∙ ap (λ b. at_root (Cause.unexpected_token b) Avn) k.1)) (more k.0)

pub returns-in_default-clause-err : goal.returns-in_default-clause-err
returns-in_default-clause-err c = subst (IsMoreOrMemory c.args.cursor.now.rest) (sym c.out_of_memory.ensures) no_memory
