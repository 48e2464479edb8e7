-- Entries that are no extension markers, in the root and after it.
use Rattle.std.proofs.Common.{◌≡◌, refl, false}
use Rattle.asn_modules_rules.specs.included.Extents.{Inclusions, beside, front_extent, member_extent, tail_extent}
use Rattle.asn_modules_grammar.specs.notation.Notation.{Member, Members, component, components_of, group, is_marker, marker, member}

-- Such an entry belongs to the root before the first marker, and is passed over after that.
pub front_more : (f : Inclusions) (m : Member) (ms : Members) → is_marker m ≡ false → front_extent f (member m ms) ≡ beside (member_extent f m) (front_extent f ms)
front_more f (component name n presence) ms e = refl
front_more f (components_of n) ms e = refl
front_more f (group inner) ms e = refl
front_more f marker ms e = cc e

pub tail_more : (f : Inclusions) (m : Member) (ms : Members) → is_marker m ≡ false → tail_extent f (member m ms) ≡ tail_extent f ms
tail_more f (component name n presence) ms e = refl
tail_more f (components_of n) ms e = refl
tail_more f (group inner) ms e = refl
tail_more f marker ms e = cc e
