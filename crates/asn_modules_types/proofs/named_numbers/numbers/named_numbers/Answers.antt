use Rattle.std.proofs.Common.{map, ap, ◌∙◌}
use Rattle.asn_modules_names.specs.lookup.Indexes.{same_pair}
use Rattle.asn_modules_names.specs.lookup.Lookup.{last_of}
use Rattle.asn_modules_types.specs.named_numbers.Views.{type_view}
use Rattle.asn_modules_types.proofs.named_numbers.Firsts.{first_holds}
use Rattle.asn_modules_types.proofs.named_numbers.numbers.named_numbers.Goals as goal

pub returns : goal.returns
returns c = record {
  first = λ q.
      c.in_ok-first.ensures q ∙ ap (λ l. last_of same_pair l q) (c.as_slice.ensures.value ∙ c.reverse.ensures.items)
      ∙ first_holds (map type_view c.args.types.now) c.in_ok-entries.entries.items c.in_ok-entries.ensures q;
}
