use Rattle.std.proofs.Common.{sym}
use Rattle.asn_lexer.proofs.Reading.{nothing_read, past_blank, past_token, within}
use Rattle.asn_lexer.proofs.Shorter.{piece_lt}
use Rattle.asn_lexer.proofs.split.tokens.Goals as goal

pub loop-rest-init : goal.loop-rest-init
loop-rest-init c = nothing_read c.args.text.now c.as_bytes-rest.result.now c.new-tokens.result.items c.as_bytes-rest.ensures.value c.new-tokens.ensures.items

pub overflow_sub-total-in-Token : goal.overflow_sub-total-in-Token
overflow_sub-total-in-Token c = within c.args.text.now c.loop-rest.rest.now c.in-Some.after.now c.in-Some.piece c.in-Some.ensures c.loop-rest.invariant.1

pub loop-rest-smaller-in_ok-push : goal.loop-rest-smaller-in_ok-push
loop-rest-smaller-in_ok-push c = piece_lt c.loop-rest.rest.now c.in-Some.after.now c.in-Some.piece (sym c.in-Some.ensures)

pub loop-rest-preserved-in_ok-push : goal.loop-rest-preserved-in_ok-push
loop-rest-preserved-in_ok-push c = (
  past_token c.args.text.now c.loop-rest.rest.now c.in-Some.after.now c.loop-rest.tokens.items c.push.new.self.items c.in-Some.piece c.in-Token.kind
      c.loop-rest.invariant.0 c.in-Some.ensures c.in-Token.is c.in_ok-push.ensures.items,
  within c.args.text.now c.loop-rest.rest.now c.in-Some.after.now c.in-Some.piece c.in-Some.ensures c.loop-rest.invariant.1,
)

pub loop-rest-smaller : goal.loop-rest-smaller
loop-rest-smaller c = piece_lt c.loop-rest.rest.now c.in-Some.after.now c.in-Some.piece (sym c.in-Some.ensures)

pub loop-rest-preserved : goal.loop-rest-preserved
loop-rest-preserved c = (
  past_blank c.args.text.now c.loop-rest.rest.now c.in-Some.after.now c.loop-rest.tokens.items c.in-Some.piece c.loop-rest.invariant.0 c.in-Some.ensures c.in_default-piece.is,
  within c.args.text.now c.loop-rest.rest.now c.in-Some.after.now c.in-Some.piece c.in-Some.ensures c.loop-rest.invariant.1,
)
