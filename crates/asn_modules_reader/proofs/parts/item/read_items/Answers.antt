use Rattle.std.proofs.Common.{refl, sym, ap, ◌∙◌, nat_le, arith}
use Rattle.std.proofs.lemmas.Result.{err_from_is_err_and}
use Rattle.std.specs.List.{count_by}
use Rattle.asn_modules_grammar.specs.notation.Lists.{Listed}
use Rattle.asn_modules_grammar.specs.notation.Numbers.{item_at}
use Rattle.asn_modules_reader.specs.parts.EntryLists.{entries_of, is_marker}
use Rattle.asn_modules_reader.proofs.parts.ItemsRead.{no_items_read, all_items_read, items_none, items_over, two_of_one}
use Rattle.asn_modules_reader.proofs.parts.Repeats.{listed_step, listed_last, listed_none, listed_unended}
use Rattle.asn_modules_reader.proofs.parts.Runs.{going_start, going_next, going_last}
use Rattle.asn_modules_reader.proofs.parts.item.read_items.Goals as goal

pub returns-in-Some-clause-found : goal.returns-in-Some-clause-found
returns-in-Some-clause-found c = no_items_read c.args.tokens.now c.in-Some.after.now (entries_of c.new-items.result) c.in-Some.ensures.0 c.in-Some.ensures.1 c.new-items.ensures

pub items-init : goal.items-init
items-init c = (
  going_start (Listed item_at) c.args.tokens.now c.args.tokens.now (entries_of c.new-items.result) refl c.new-items.ensures,
  ap (λ l. nat_le (count_by is_marker l) 1) c.new-items.ensures,
  omega arith,
)

pub returns-in_err-item-clause-found : goal.returns-in_err-item-clause-found
returns-in_err-item-clause-found c =
    let p = err_from_is_err_and c.from_residual.result c.from_residual.ensures.1 in
    rw (p.1, p.2) (λ syntax xs rest q.
    items_none c.args.tokens.now c.items.rest.now (entries_of c.items.items) c.in_default.ensures c.items.invariant.0 (listed_none item_at c.items.rest.now (c.in_err-item.ensures.found syntax)) xs rest q)

pub returns-then-not-may_add-clause-found : goal.returns-then-not-may_add-clause-found
returns-then-not-may_add-clause-found c = λ syntax xs rest q.
    items_over c.args.tokens.now c.items.rest.now c.in_ok-item.behind.now (entries_of c.items.items) c.in_ok-item.item c.in_default.ensures c.items.invariant.0 c.in_ok-item.ensures.found
    (sym c.may_add.ensures ∙ c.if-not-may_add.true) xs rest q

pub add-requires : goal.add-requires
add-requires c = two_of_one _ (sym c.may_add.ensures ∙ c.if-not-may_add.false)

pub returns-in-Some-take_sign-clause-found : goal.returns-in-Some-take_sign-clause-found
returns-in-Some-take_sign-clause-found c =
    all_items_read c.args.tokens.now c.in-Some-take_sign.after.now (entries_of c.add.new.self)
    (going_last (Listed item_at) c.args.tokens.now c.items.rest.now c.in-Some-take_sign.after.now (entries_of c.items.items) (entries_of c.add.new.self) c.in_ok-item.item c.items.invariant.0
    (listed_last item_at c.items.rest.now c.in_ok-item.behind.now c.in-Some-take_sign.after.now c.in_ok-item.item c.in_ok-item.ensures.found c.in-Some-take_sign.ensures.0 c.in-Some-take_sign.ensures.1)
    c.in_ok-add.ensures)
    (ap (λ l. nat_le (count_by is_marker l) 1) c.in_ok-add.ensures ∙ sym c.may_add.ensures ∙ c.if-not-may_add.false)

pub returns-in_default-take_sign-2-clause-found : goal.returns-in_default-take_sign-2-clause-found
returns-in_default-take_sign-2-clause-found c = λ syntax xs rest q.
    items_none c.args.tokens.now c.items.rest.now (entries_of c.items.items) c.in_default.ensures c.items.invariant.0
    (listed_unended item_at c.items.rest.now c.in_ok-item.behind.now c.in_ok-item.item c.in_ok-item.ensures.found c.in_default-take_sign.ensures c.in_default-take_sign-2.ensures) xs rest q

pub items-preserved : goal.items-preserved
items-preserved c = (
  going_next (Listed item_at) c.args.tokens.now c.items.rest.now c.in-Some-take_sign-2.next.now (entries_of c.items.items) (entries_of c.add.new.self) c.in_ok-item.item c.items.invariant.0
      (listed_step item_at c.items.rest.now c.in_ok-item.behind.now c.in-Some-take_sign-2.next.now c.in_ok-item.item c.in_ok-item.ensures.found c.in-Some-take_sign-2.ensures.0 c.in-Some-take_sign-2.ensures.1)
      c.in_ok-add.ensures,
  ap (λ l. nat_le (count_by is_marker l) 1) c.in_ok-add.ensures ∙ sym c.may_add.ensures ∙ c.if-not-may_add.false,
  omega (arith, c.items.invariant.2, c.in_ok-item.ensures.shorter, c.in-Some-take_sign-2.ensures.2),
)
