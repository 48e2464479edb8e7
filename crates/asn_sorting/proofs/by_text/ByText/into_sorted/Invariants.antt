use Rattle.std.proofs.Common.{◌≡◌, ◌++◌, map}
use Rattle.asn_model.specs.Sorting.{sort, by_text}
use Rattle.asn_sorting.specs.Entries.{text_of, value_of}
use Rattle.asn_sorting.specs.Groups.{entries_of}
use Rattle.asn_sorting.proofs.by_text.ByText.into_sorted.Given as goal

-- The values so far, and those of the groups that are left, are all.
abbrev pub invariant-loop-group : goal.invariant-loop-group
invariant-loop-group g l = l.values.items ++ map value_of (entries_of l.group-iterator.rest.items) ≡ map value_of (sort (by_text text_of) l.fn.self)
