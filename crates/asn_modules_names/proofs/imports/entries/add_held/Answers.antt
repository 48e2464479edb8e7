use Rattle.std.proofs.Common.{ap, sym, ◌∙◌, ◌++◌, append_assoc, map}
use Rattle.std.proofs.lemmas.List.{map-append}
use Rattle.std.proofs.lemmas.Result.{on_ok_weaker}
use Rattle.asn_modules_names.specs.imports.Imported.{assigned_by, imported_names}
use Rattle.asn_modules_names.specs.imports.Tables.{numbered_by}
use Rattle.asn_modules_names.specs.lookup.Entries.{imports_of}
use Rattle.asn_modules_names.specs.lookup.Homes.{home_view}
use Rattle.asn_modules_names.specs.lookup.Views.{entry_view}
use Rattle.asn_modules_grammar.specs.notation.View.{assignment_view}
use Rattle.asn_modules_names.proofs.imports.Listing.{numbered_both}
use Rattle.asn_modules_names.proofs.imports.entries.add_held.Goals as goal

pub returns : goal.returns
returns c =
    let h = home_view c.args.home in
    let k = c.args.number in
    let before = map entry_view c.args.entries.now.items in
    let imported = imported_names h (imports_of h.parsed.header) in
    let middle = c.in_ok-add_assigned.ensures ∙ ap (λ l. before ++ numbered_by k (assigned_by h (map assignment_view l))) c.as_slice.ensures.value in
    on_ok_weaker c.add_imports.result (λ e.
    e ∙ ap (λ l. map entry_view c.add_assigned.new.entries.items ++ numbered_by k (imported_names h l)) c.imports_of.ensures
    ∙ numbered_both k before (map entry_view c.add_assigned.new.entries.items) (assigned_by h h.parsed.assignments) imported middle) c.add_imports.ensures
