-- The order of values by the parts of their rows.
use Rattle.std.specs.Prelude.{ℕ, Bool, true, false, Option, Some, None}
use Rattle.std.specs.declared.cmp.Ordering.{Ordering}
use Rattle.std.specs.declared.cmp.Ordering.TheVariants.{Less, Equal, Greater}
use Rattle.std.specs.Cmp.Lexicographic.{slice_cmp}
use Rattle.std.specs.Ordering.{bool_cmp, int_cmp, match_ordering, nat_cmp, ordering_then}
use Rattle.asn_model.specs.Value.{Value, Values, Slots, key_of, value_cmp}

-- The number of a value's kind, by which kinds are ordered.
abbrev pub kind_number : Value → ℕ
kind_number Value.null = 0
kind_number (Value.boolean b) = 1
kind_number (Value.int n) = 2
kind_number (Value.bits bs size) = 3
kind_number (Value.octets o) = 4
kind_number (Value.arcs a) = 5
kind_number (Value.text t) = 6
kind_number (Value.units u) = 7
kind_number (Value.utc n) = 8
kind_number (Value.gen n) = 9
kind_number (Value.day n) = 10
kind_number (Value.item i) = 11
kind_number (Value.members ms) = 12
kind_number (Value.list vs) = 13
kind_number (Value.bag vs) = 14
kind_number (Value.choice i v) = 15

-- The order of elements, the first ones first.
abbrev pub elements_cmp : Values → Values → Ordering
elements_cmp Values.no_values Values.no_values = Equal
elements_cmp Values.no_values (Values.value w ws) = Less
elements_cmp (Values.value v vs) Values.no_values = Greater
elements_cmp (Values.value v vs) (Values.value w ws) = ordering_then (value_cmp v w) (elements_cmp vs ws)

-- The order of members, the first ones first: by name, then an absent one is below one that is present, and then by value.
abbrev pub members_cmp : Slots → Slots → Ordering
members_cmp Slots.no_slots Slots.no_slots = Equal
members_cmp Slots.no_slots ns = Less
members_cmp ms Slots.no_slots = Greater
members_cmp (Slots.absent m ms) (Slots.absent n ns) = ordering_then (slice_cmp nat_cmp m n) (members_cmp ms ns)
members_cmp (Slots.absent m ms) (Slots.present n w ns) = ordering_then (slice_cmp nat_cmp m n) Less
members_cmp (Slots.present m v ms) (Slots.absent n ns) = ordering_then (slice_cmp nat_cmp m n) Greater
members_cmp (Slots.present m v ms) (Slots.present n w ns) = ordering_then (slice_cmp nat_cmp m n) (ordering_then (value_cmp v w) (members_cmp ms ns))

-- The order of sizes: none is below any.
abbrev pub size_cmp : Option ℕ → Option ℕ → Ordering
size_cmp None None = Equal
size_cmp None (Some n) = Less
size_cmp (Some m) None = Greater
size_cmp (Some m) (Some n) = nat_cmp m n

-- The order of the contents of two values of one kind.
abbrev pub contents_cmp : Value → Value → Ordering
contents_cmp (Value.boolean a) (Value.boolean b) = bool_cmp a b
contents_cmp (Value.int a) (Value.int b) = int_cmp a b
contents_cmp (Value.bits a m) (Value.bits b n) = ordering_then (slice_cmp bool_cmp a b) (size_cmp m n)
contents_cmp (Value.octets a) (Value.octets b) = slice_cmp nat_cmp a b
contents_cmp (Value.arcs a) (Value.arcs b) = slice_cmp nat_cmp a b
contents_cmp (Value.text a) (Value.text b) = slice_cmp nat_cmp a b
contents_cmp (Value.units a) (Value.units b) = slice_cmp nat_cmp a b
contents_cmp (Value.utc a) (Value.utc b) = int_cmp a b
contents_cmp (Value.gen a) (Value.gen b) = int_cmp a b
contents_cmp (Value.day a) (Value.day b) = int_cmp a b
contents_cmp (Value.item a) (Value.item b) = slice_cmp nat_cmp a b
contents_cmp (Value.members ms) (Value.members ns) = members_cmp ms ns
contents_cmp (Value.list vs) (Value.list ws) = elements_cmp vs ws
contents_cmp (Value.bag vs) (Value.bag ws) = elements_cmp vs ws
contents_cmp (Value.choice i v) (Value.choice j w) = ordering_then (slice_cmp nat_cmp i j) (value_cmp v w)
contents_cmp _ _ = Equal

-- There is an entry before, and it has the key of this one.
abbrev pub ties_with : Option Value → Value → Bool
ties_with None e = false
ties_with (Some v) e = match_ordering (slice_cmp nat_cmp (key_of v) (key_of e)) false true false
