use Rattle.std.proofs.Common.{refl, arith}
use Rattle.std.proofs.lemmas.Result.{err_from_is_err_and}
use Rattle.asn_modules_grammar.specs.notation.Lists.{Listed}
use Rattle.asn_modules_grammar.specs.notation.Numbers.{named_number_at}
use Rattle.asn_modules_reader.proofs.parts.NumbersRead.{numbers_bare, numbers_all, numbers_none}
use Rattle.asn_modules_reader.proofs.parts.Repeats.{listed_step, listed_last, listed_none, listed_unended}
use Rattle.asn_modules_reader.proofs.parts.Runs.{going_start, going_next, going_last}
use Rattle.asn_modules_reader.proofs.parts.number.read_named_numbers.Goals as goal

pub returns-in_default-clause-found : goal.returns-in_default-clause-found
returns-in_default-clause-found c = numbers_bare c.args.tokens.now c.new-numbers.result.items c.in_default.ensures c.new-numbers.ensures.items

pub numbers-init : goal.numbers-init
numbers-init c = (going_start (Listed named_number_at) c.in-Some.first.now c.in-Some.first.now c.new-numbers.result.items refl c.new-numbers.ensures.items, omega arith)

pub returns-in_err-number-clause-found : goal.returns-in_err-number-clause-found
returns-in_err-number-clause-found c =
    let p = err_from_is_err_and c.from_residual.result c.from_residual.ensures.1 in
    rw (p.1, p.2) (λ syntax xs rest q.
    numbers_none c.args.tokens.now c.in-Some.first.now c.numbers.rest.now c.numbers.numbers.items c.in-Some.ensures.0 c.in-Some.ensures.1 c.numbers.invariant.0
    (listed_none named_number_at c.numbers.rest.now (c.in_err-number.ensures.found syntax)) xs rest q)

pub returns-in-Some-take_sign-clause-found : goal.returns-in-Some-take_sign-clause-found
returns-in-Some-take_sign-clause-found c =
    numbers_all c.args.tokens.now c.in-Some.first.now c.in-Some-take_sign.after.now c.push.new.self.items c.in-Some.ensures.0 c.in-Some.ensures.1
    (going_last (Listed named_number_at) c.in-Some.first.now c.numbers.rest.now c.in-Some-take_sign.after.now c.numbers.numbers.items c.push.new.self.items c.in_ok-number.number c.numbers.invariant.0
    (listed_last named_number_at c.numbers.rest.now c.in_ok-number.behind.now c.in-Some-take_sign.after.now c.in_ok-number.number c.in_ok-number.ensures.found c.in-Some-take_sign.ensures.0 c.in-Some-take_sign.ensures.1)
    c.in_ok-push.ensures.items)

pub returns-in_default-take_sign-2-clause-found : goal.returns-in_default-take_sign-2-clause-found
returns-in_default-take_sign-2-clause-found c = λ syntax xs rest q.
    numbers_none c.args.tokens.now c.in-Some.first.now c.numbers.rest.now c.numbers.numbers.items c.in-Some.ensures.0 c.in-Some.ensures.1 c.numbers.invariant.0
    (listed_unended named_number_at c.numbers.rest.now c.in_ok-number.behind.now c.in_ok-number.number c.in_ok-number.ensures.found c.in_default-take_sign.ensures c.in_default-take_sign-2.ensures) xs rest q

pub numbers-preserved : goal.numbers-preserved
numbers-preserved c = (
  going_next (Listed named_number_at) c.in-Some.first.now c.numbers.rest.now c.in-Some-take_sign-2.next.now c.numbers.numbers.items c.push.new.self.items c.in_ok-number.number c.numbers.invariant.0
      (listed_step named_number_at c.numbers.rest.now c.in_ok-number.behind.now c.in-Some-take_sign-2.next.now c.in_ok-number.number c.in_ok-number.ensures.found c.in-Some-take_sign-2.ensures.0 c.in-Some-take_sign-2.ensures.1)
      c.in_ok-push.ensures.items,
  omega (arith, c.numbers.invariant.1, c.in_ok-number.ensures.shorter, c.in-Some-take_sign-2.ensures.2),
)
