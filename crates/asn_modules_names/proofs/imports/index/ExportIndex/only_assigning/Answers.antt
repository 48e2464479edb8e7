use Rattle.std.proofs.Common.{ap, ◌∙◌}
use Rattle.std.specs.List.{slice_get}
use Rattle.std.specs.Option.{option_and_then}
use Rattle.std.specs.Str.{bytes_eq}
use Rattle.asn_modules_names.specs.imports.Tables.{entries_of, modules_of, names_of}
use Rattle.asn_modules_names.specs.declared.imports.entries.Listed.TheVariants.{Assigned}
use Rattle.asn_modules_names.proofs.imports.Counting.{only_found}
use Rattle.asn_modules_names.proofs.imports.index.ExportIndex.only_assigning.Goals as goal
use Rattle.asn_modules_names.specs.lookup.Lookup.{if_same, last_of}

pub returns : goal.returns
returns c =
    let ms = modules_of c.args.self.now in
    let name = c.args.name in
    ap (option_and_then (slice_get ms))
    (c.if_same.ensures ∙ ap (λ o. if_same o c.copied-first.result) (c.copied-last.ensures ∙ c.get.ensures.value ∙ c.requires.last name)
    ∙ ap (if_same (last_of bytes_eq (entries_of Assigned ms) name.now)) (c.copied-first.ensures ∙ c.get-2.ensures.value ∙ c.requires.first name))
    ∙ only_found (names_of Assigned) name.now ms
