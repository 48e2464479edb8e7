use Rattle.std.proofs.Common.{◌≡◌, length, false, Some, refl, ap, sym, ◌∙◌}
use Rattle.std.proofs.lemmas.Option.{slice_get-map, slice_get_read}
use Rattle.std.specs.List.{slice_get}
use Rattle.std.specs.Option.{is_none, option_map}
use Rattle.asn_modules_names.specs.imports.Imported.{exports_of, is_exported_by}
use Rattle.asn_modules_names.specs.imports.Tables.{module_at, modules_of}
use Rattle.asn_modules_names.proofs.imports.Finding.{stated}
use Rattle.asn_modules_names.proofs.imports.index.ExportIndex.is_exported.Goals as goal
use Rattle.asn_modules_names.specs.lookup.Homes.{home_view}

pub returns : goal.returns
returns c =
    let index = c.args.self.now in
    let xs = index.homes.now in
    let name = c.args.name.now in
    let number = c.in-Some.number in
    let home = c.in-Some-get.home.now in
    let looked = c.in-Some-get.ensures.lookup in
    let there : slice_get (modules_of index) number ≡ Some (home_view home) = slice_get-map home_view xs number ∙ ap (option_map home_view) (slice_get_read xs (length xs) number home refl looked.3.0 looked.1) in
    let listed : is_none (exports_of (home_view home).parsed.header) ≡ false = sym c.exports_all.ensures ∙ c.if-exports_all.false in
    c.contains.ensures ∙ c.requires.exported (c.args.name, number) ∙ stated name (modules_of index) number (home_view home) there listed
    ∙ sym (ap (λ o. is_exported_by o name) there) ∙ ap (λ o. is_exported_by (module_at index o) name) (sym c.in-Some.is)
