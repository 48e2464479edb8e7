-- What the encoder holds.
use Rattle.std.specs.Prelude.{ℕ, List, [], ◌∷◌, Option, Some, None}
use Rattle.serde_json.specs.Data.{Data, Members, put}
use Rattle.jer_values.specs.Views.{data_of}
use Rattle.asn_slots.specs.Trees.{SameTrees}
use Rattle.asn_traits.specs.Canonical.{jer_data}
use Rattle.asn_coding.specs.Writing.{Frame, head_name, tail_names}
use Rattle.jer_rules.specs.declared.jer.enc.Encoder.{Encoder}

-- The encoder has the JSON values of these frames.
abbrev pub Holds : Encoder → List Frame → Type 0
Holds e fs = SameTrees jer_data data_of fs e.frames

-- The members with the present slots, each by its name, put before them.
abbrev pub members_onto : List (Option Data) → List (List ℕ) → Members → Members
members_onto [] names ms = ms
members_onto (None ∷ ss) names ms = members_onto ss (tail_names names) ms
members_onto (Some d ∷ ss) names ms = put (head_name names) d (members_onto ss (tail_names names) ms)

-- An object with one member.
abbrev pub one_member : List ℕ → Data → Data
one_member name d = Data.object (Members.member name d Members.no_members)
