-- Values of which one element of a SET OF at most can't be written.
use Rattle.std.specs.Prelude.{◌⊎◌}
use Rattle.asn_model.specs.Notation.{Notation}
use Rattle.asn_model.specs.Value.{Value, Values, Slots}
use Rattle.asn_model.specs.Writable.{Writable, WritableEach}

-- One of the values at most can't be written.
abbrev pub BlocksOnce : Notation → Values → Type 0
BlocksOnce n Values.no_values = Unit {0}
BlocksOnce n (Values.value v vs) = WritableEach n vs ⊎ (Writable n v × BlocksOnce n vs)

abbrev mutual
  -- So it is with the elements of each SET OF in the value.
  pub BagsBlockOnce : Notation → Value → Type 0
  BagsBlockOnce n (Value.members ms) = SlotsBlockOnce n ms
  BagsBlockOnce n (Value.list vs) = EachBlocksOnce n vs
  BagsBlockOnce n (Value.bag vs) = BlocksOnce n vs × EachBlocksOnce n vs
  BagsBlockOnce n (Value.choice i v) = BagsBlockOnce n v
  BagsBlockOnce n v = Unit {0}

  -- So it is in each element.
  pub EachBlocksOnce : Notation → Values → Type 0
  EachBlocksOnce n Values.no_values = Unit {0}
  EachBlocksOnce n (Values.value v vs) = BagsBlockOnce n v × EachBlocksOnce n vs

  -- So it is in each present member.
  pub SlotsBlockOnce : Notation → Slots → Type 0
  SlotsBlockOnce n Slots.no_slots = Unit {0}
  SlotsBlockOnce n (Slots.absent m ms) = SlotsBlockOnce n ms
  SlotsBlockOnce n (Slots.present m v ms) = BagsBlockOnce n v × SlotsBlockOnce n ms
