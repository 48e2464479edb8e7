use Rattle.std.proofs.Common.{ap, sym, ◌∙◌, length, refl}
use Rattle.std.proofs.lemmas.Option.{slice_get-map, slice_get_past, slice_get_read}
use Rattle.std.specs.Option.{option_map}
use Rattle.asn_modules_types.specs.Known.{assigned_view}
use Rattle.asn_modules_types.proofs.assigned.assigned_at.Goals as goal

pub returns-in-Some : goal.returns-in-Some
returns-in-Some c =
    let looked = c.in-Some.ensures.lookup in
    let xs = c.args.assigned.now in
    record {
      there = sym (slice_get-map assigned_view xs c.args.place ∙ ap (option_map assigned_view) (slice_get_read xs (length xs) c.args.place c.in-Some.found.now refl looked.3.0 looked.1));
      within = looked.3.0;
    }

pub returns-in-None : goal.returns-in-None
returns-in-None c =
    let xs = c.args.assigned.now in
    record {
      there = sym (slice_get-map assigned_view xs c.args.place ∙ ap (option_map assigned_view) (slice_get_past xs c.args.place c.in-None.ensures.lookup.3));
      within = tt;
    }
