-- The values that Rust values hold: texts are UTF-8, octets and arcs have their width, and times are of the years that are held.
use Rattle.std.specs.Prelude.{◌≡◌, true}
use Rattle.std.specs.Str.{is_utf8}
use Rattle.avn_grammar.specs.Chars.{all}
use Rattle.avn_grammar.specs.WellFormed.{is_arc, is_octet}
use Rattle.asn_times.specs.Held.{is_held_day, is_held_nanosecond, is_held_second}
use Rattle.asn_model.specs.Value.{Value, Values, Slots}

abbrev mutual
  -- The parts of the value are held, at every depth.
  pub IsHeldValue : Value → Type 0
  IsHeldValue (Value.octets o) = all is_octet o ≡ true
  IsHeldValue (Value.arcs a) = all is_arc a ≡ true
  IsHeldValue (Value.text t) = (is_utf8 t ≡ true) × (all is_octet t ≡ true)
  IsHeldValue (Value.utc n) = is_held_second n ≡ true
  IsHeldValue (Value.gen n) = is_held_nanosecond n ≡ true
  IsHeldValue (Value.day n) = is_held_day n ≡ true
  IsHeldValue (Value.members ms) = AreHeldSlots ms
  IsHeldValue (Value.list vs) = AreHeldValues vs
  IsHeldValue (Value.bag vs) = AreHeldValues vs
  IsHeldValue (Value.choice i v) = IsHeldValue v
  IsHeldValue v = Unit {0}

  -- Each element is so.
  pub AreHeldValues : Values → Type 0
  AreHeldValues Values.no_values = Unit {0}
  AreHeldValues (Values.value v vs) = IsHeldValue v × AreHeldValues vs

  -- Each present member is so.
  pub AreHeldSlots : Slots → Type 0
  AreHeldSlots Slots.no_slots = Unit {0}
  AreHeldSlots (Slots.absent n ms) = AreHeldSlots ms
  AreHeldSlots (Slots.present n v ms) = IsHeldValue v × AreHeldSlots ms
