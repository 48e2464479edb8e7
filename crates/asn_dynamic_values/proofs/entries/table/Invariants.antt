use Rattle.std.proofs.Common.{◌≡◌, ◌++◌, [], map}
use Rattle.asn_dynamic_values.specs.DynView.{dyn_value}
use Rattle.asn_dynamic_values.proofs.Lasts.{lasts_from}
use Rattle.asn_dynamic_values.proofs.Tables.{by_key, by_key-total}
use Rattle.asn_dynamic_values.proofs.entries.table.Given as goal

-- Of the entries so far the last one of each key is left; these and the others are all.
abbrev pub invariant-loop-entry : goal.invariant-loop-entry
invariant-loop-entry l = record {
  kept : map dyn_value l.lasts.items ≡ lasts_from by_key by_key-total [] (map dyn_value l.yielded);
  whole : l.yielded ++ l.entry-iterator.rest.items ≡ l.initial.entry-iterator.rest.items;
}
