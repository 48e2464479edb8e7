-- The member goes in at this place or after it.
use Rattle.std.proofs.Common.{◌≡◌}
use Rattle.jer_values.specs.Names.{name_bytes}
use Rattle.jer_values.specs.Views.{data_of}
use Rattle.jer_values.proofs.Placing.{IsLater}
use Rattle.jer_values.proofs.members.put_member.Given as goal

abbrev pub invariant-loop-place : goal.invariant-loop-place
invariant-loop-place l = record {
  same : l.members.items ≡ l.fn.members.items;
  named : l.name ≡ l.fn.name;
  later : IsLater l.members.items l.place (name_bytes l.fn.name) (data_of l.value);
}
