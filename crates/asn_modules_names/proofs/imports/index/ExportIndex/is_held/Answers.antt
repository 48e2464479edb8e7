use Rattle.std.proofs.Common.{◌≡◌, length, Some, refl, ap, sym, ◌∙◌}
use Rattle.std.proofs.lemmas.Option.{slice_get-map, slice_get_read}
use Rattle.std.specs.List.{slice_get}
use Rattle.std.specs.Option.{option_map}
use Rattle.asn_modules_names.specs.imports.Imported.{held_names, is_held_by}
use Rattle.asn_modules_names.specs.imports.Tables.{module_at, modules_of}
use Rattle.asn_modules_names.proofs.imports.Keeping.{kept_by}
use Rattle.asn_modules_names.proofs.imports.index.ExportIndex.is_held.Goals as goal
use Rattle.asn_modules_names.specs.lookup.Homes.{home_view}

pub returns : goal.returns
returns c =
    let index = c.args.self.now in
    let xs = index.homes.now in
    let name = c.args.name.now in
    let number = c.in-Some.number in
    let home = c.in-Some-get._home.now in
    let looked = c.in-Some-get.ensures.lookup in
    let there : slice_get (modules_of index) number ≡ Some (home_view home) = slice_get-map home_view xs number ∙ ap (option_map home_view) (slice_get_read xs (length xs) number home refl looked.3.0 looked.1) in
    c.contains.ensures ∙ c.requires.held (c.args.name, number) ∙ kept_by name held_names (modules_of index) number (home_view home) there
    ∙ sym (ap (λ o. is_held_by o name) there) ∙ ap (λ o. is_held_by (module_at index o) name) (sym c.in-Some.is)
