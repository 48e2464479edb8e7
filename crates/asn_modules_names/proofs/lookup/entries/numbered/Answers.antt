use Rattle.std.proofs.Common.{ap, sym, ◌++◌, drop, arith}
use Rattle.asn_modules_names.specs.lookup.Entries.{numbered}
use Rattle.asn_modules_names.proofs.Founds.{listed_all}
use Rattle.asn_modules_names.proofs.lookup.Listing.{number_added, numbers_end}
use Rattle.asn_modules_names.proofs.lookup.entries.numbered.Goals as goal

pub loop-number-init : goal.loop-number-init
loop-number-init c = ap (λ l. l ++ numbered 0 c.args.keys.now) (sym c.new-entries.ensures.items)

pub loop-number-preserved : goal.loop-number-preserved
loop-number-preserved c =
    number_added (numbered 0 c.args.keys.now) c.loop-number.entries.items c.push.new.self.items c.args.keys.now c.loop-number.number _
    c.loop-number-test.true c.loop-number.invariant c.in_ok-push.ensures.items

pub returns : goal.returns
returns c =
    sym (listed_all (numbered 0 c.args.keys.now) c.loop-number.entries.items (numbered c.loop-number.number (drop c.loop-number.number c.args.keys.now)) c.loop-number.invariant
    (numbers_end c.args.keys.now c.loop-number.number (omega (arith, c.loop-number-test.false))))
