use Rattle.std.proofs.Common.{◌≡◌, ◌++◌, ◌<◌, IfSome, length}
use Rattle.asn_modules.proofs.Naming.{listed, named_from}
use Rattle.asn_modules.proofs.names.number_named.Given as goal

abbrev pub invariant-loop-number : goal.invariant-loop-number
invariant-loop-number l = record {
  named : named_from l.names 0 l.text ≡ listed l.found ++ named_from l.names l.number l.text;
  below : IfSome l.found (λ number. number < length l.names);
}
