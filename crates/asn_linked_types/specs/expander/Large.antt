-- When a shape is too large.
use Rattle.std.specs.Prelude.{ℕ, ◌<◌, ◌⊎◌}
use Rattle.asn_growth.specs.Parts.{node_count}
use Rattle.asn_linked_types.specs.expander.Loops.{loop_depth}
use Rattle.asn_linked_types.specs.declared.expander.limits.TheConstants.{NODE_LIMIT, OPEN_LIMIT}
use Rattle.asn_model.specs.Shape.{Shape}

-- It has more nodes than these, or more loops within each other than these.
abbrev pub IsBeyond : {A : Type 0} → (A → ℕ) → (A → ℕ) → ℕ → ℕ → A → Type 0
IsBeyond count depth nodes loops a = (nodes < count a) ⊎ (loops < depth a)

-- It has more nodes than the limit, or more types are open in it at once than the limit.
abbrev pub IsTooLarge : Shape → Type 0
IsTooLarge s = IsBeyond node_count loop_depth NODE_LIMIT OPEN_LIMIT s
