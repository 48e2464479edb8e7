-- The shape of the one type of a name, expanded from the types of modules.
use Rattle.std.proofs.Common.{◌≡◌, ap, sym, ◌∙◌, ℕ, List, [], length, map, true, Some}
use Rattle.std.proofs.lemmas.List.{length-map}
use Rattle.std.specs.Prelude.{nat_lt, option_map}
use Rattle.asn_linked_types.specs.Expansion.{expansion}
use Rattle.asn_linked_types.specs.Linked.{are_linked, are_readable_among}
use Rattle.asn_linked_types.specs.declared.limits.TheConstants.{TYPE_LIMIT}
use Rattle.asn_linked_types.proofs.Expanding.{types-readable}
use Rattle.asn_model.proofs.Readables.{and-right}
use Rattle.asn_model.specs.Readable.{is_readable}
use Rattle.asn_model.specs.Shape as spec
use Rattle.asn_model.specs.ShapeView.{shape_view}
use Rattle.asn_model.specs.declared.shape_type.Shape.{Shape}
use Rattle.asn_modules.specs.Modules.{Modules, shape_named, shape_of}
use Rattle.asn_modules.specs.Names.{number_named}

-- Values can be read by what a type is expanded to.
pub expanded-readable : (types : List Shape) (number : ℕ) (s : spec.Shape) → are_linked (map shape_view types) ≡ true → s ≡ expansion (map shape_view types) (length types) [] number → is_readable s ≡ true
expanded-readable types number s linked is =
    let views = map shape_view types in
    ap is_readable is ∙ types-readable views (length views) (and-right (nat_lt (length views) TYPE_LIMIT) (are_readable_among (length views) views) linked) (length types) number

-- It is the shape of the one type of the name.
pub expanded-named : (m : Modules) (name : List ℕ) (number : ℕ) (types : List Shape) (s : spec.Shape) → number_named m.names name ≡ Some number → map shape_view types ≡ m.types → s ≡ expansion (map shape_view types) (length types) [] number → shape_named m name ≡ Some s
expanded-named m name number types s found same is =
    ap (option_map (shape_of m)) found ∙ ap (λ l. Some (expansion l (length l) [] number)) (sym same) ∙ ap (λ k. Some (expansion (map shape_view types) k [] number)) (length-map types shape_view) ∙ ap Some (sym is)
