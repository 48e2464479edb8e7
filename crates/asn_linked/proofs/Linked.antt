-- The leaves of a shape whose names have shapes.
use Rattle.std.proofs.Common.{◌≡◌, refl, ℕ}
use Rattle.asn_linked_types.specs.Expansion.{linked_shape}
use Rattle.asn_model.specs.Shape.{Shape}
use Rattle.asn_parts.specs.Parts.{leaf_shape}
use Rattle.asn_parts.specs.declared.part.LeafPart.{LeafPart}
use Rattle.asn_parts.specs.declared.part.LeafPart.TheVariants.{Null, Bool, Int, Bits, Octets, Any, Oid, Str, Bmp, Utc, Gen, Day, Decimal}

-- A leaf has no names of types.
pub leaf-linked : (f : ℕ → Shape) (leaf : LeafPart) → linked_shape f (leaf_shape leaf) ≡ leaf_shape leaf
leaf-linked f Null = refl
leaf-linked f Bool = refl
leaf-linked f (Int least greatest width) = refl
leaf-linked f (Bits fixed) = refl
leaf-linked f Octets = refl
leaf-linked f Any = refl
leaf-linked f Oid = refl
leaf-linked f (Str alphabet) = refl
leaf-linked f Bmp = refl
leaf-linked f Utc = refl
leaf-linked f Gen = refl
leaf-linked f Day = refl
leaf-linked f Decimal = refl
