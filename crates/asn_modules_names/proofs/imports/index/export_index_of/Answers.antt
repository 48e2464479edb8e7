use Rattle.std.proofs.Common.{reverse, ap, ◌∙◌}
use Rattle.std.specs.Set.{is_member}
use Rattle.std.specs.Str.{bytes_eq}
use Rattle.asn_modules_names.specs.imports.Tables.{same_entry, same_named}
use Rattle.asn_modules_names.proofs.imports.Finding.{entries_turned, members_viewed}
use Rattle.asn_modules_names.proofs.imports.index.export_index_of.Goals as goal
use Rattle.asn_modules_names.specs.lookup.Indexes.{same_name}
use Rattle.asn_modules_names.specs.lookup.Lookup.{last_of}
use Rattle.asn_modules_names.specs.lookup.Views.{entry_view}
use Rattle.asn_modules_names.proofs.lookup.Indexing.{named_found}

pub returns-clause-tables : goal.returns-clause-tables
returns-clause-tables c =
    let titled = c.in_ok-titled.titled.items in
    let assigned = c.in_ok-assigned.assigned.items in
    let listed = c.in_ok-listed.listed.items in
    let known = c.in_ok-known.known.items in
    record {
      titles = λ q. c.in_ok-titles.ensures q ∙ ap (λ es. last_of same_name es q) (c.as_slice.ensures.value ∙ c.reverse.ensures.items) ∙ named_found (reverse titled) q
          ∙ ap (λ es. last_of bytes_eq es q.now) (entries_turned titled ∙ ap reverse c.in_ok-titled.ensures);
      first = λ q. c.in_ok-first.ensures q ∙ ap (λ es. last_of same_name es q) (c.as_slice-3.ensures.value ∙ c.reverse-2.ensures.items) ∙ named_found (reverse assigned) q
          ∙ ap (λ es. last_of bytes_eq es q.now) (entries_turned assigned ∙ ap reverse c.in_ok-assigned.ensures);
      last = λ q. c.in_ok-last.ensures q ∙ ap (λ es. last_of same_name es q) c.as_slice-2.ensures.value ∙ named_found assigned q ∙ ap (λ es. last_of bytes_eq es q.now) c.in_ok-assigned.ensures;
      exported = λ q. c.in_ok-exported.ensures q ∙ ap (λ es. is_member same_entry es q) c.as_slice-4.ensures.value ∙ members_viewed q listed ∙ ap (λ es. is_member same_named es (entry_view q)) c.in_ok-listed.ensures;
      held = λ q. c.in_ok-held.ensures q ∙ ap (λ es. is_member same_entry es q) c.as_slice-5.ensures.value ∙ members_viewed q known ∙ ap (λ es. is_member same_named es (entry_view q)) c.in_ok-known.ensures;
    }
