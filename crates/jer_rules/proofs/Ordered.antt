-- What JER writes has its members in order.
use Rattle.std.proofs.Common.{None, Some, refl, subst, sym}
use Rattle.std.specs.List.{AllByRecursion}
use Rattle.asn_model.proofs.Bags.{each-ordered, jer_items-sorted}
use Rattle.asn_traits.specs.Canonical.{jer_data, jer_items, jer_members, canonical_text}
use Rattle.asn_traits.specs.Notation.{Notation}
use Rattle.asn_traits.specs.Sorting.{by_text}
use Rattle.asn_traits.specs.Value.{Value, Values, Slots, elements}
use Rattle.jer_values.specs.Order.{AreOrdered, HasOrdered, IsOrdered}
use Rattle.jer_values.proofs.Putting.{ordered_put}

-- The JSON value that is written for the value is in order.
abbrev IsInOrder : Value → Type 0
IsInOrder v = IsOrdered (jer_data v)

items_of_each : (vs : Values) → AllByRecursion IsInOrder (elements vs) → AreOrdered (jer_items vs)
items_of_each Values.no_values h = tt
items_of_each (Values.value v vs) h = (h.0, items_of_each vs h.1)

mutual
  -- The JSON value that is written has its members in order.
  pub ordered : (v : Value) → IsOrdered (jer_data v)
  ordered (Value.bits bits None) = ((refl, tt), tt, (tt, tt, tt))
  ordered (Value.bits bits (Some size)) = tt
  ordered (Value.members ms) = members_ordered ms
  ordered (Value.list vs) = items_of_each vs (each_ordered vs)
  ordered (Value.bag vs) =
      subst AreOrdered (sym (jer_items-sorted vs))
      (items_of_each _ (each-ordered IsInOrder (by_text (canonical_text Notation.jer)) vs (each_ordered vs)))
  ordered (Value.choice i v) = (tt, ordered v, tt)
  ordered v = tt

  each_ordered : (vs : Values) → AllByRecursion IsInOrder (elements vs)
  each_ordered Values.no_values = tt
  each_ordered (Values.value v vs) = (ordered v, each_ordered vs)

  members_ordered : (ms : Slots) → HasOrdered (jer_members ms)
  members_ordered Slots.no_slots = tt
  members_ordered (Slots.absent n ms) = members_ordered ms
  members_ordered (Slots.present n v ms) =
      ordered_put n (jer_data v) (jer_members ms) (ordered v) (members_ordered ms)
