use Rattle.std.proofs.Common.{refl, Some}
use Rattle.asn_core.specs.declared.codec.Codec.TheVariants.{Jer}
use Rattle.asn_coding.proofs.Refusing.{out_of_memory, refuses_because, refuses_because_or_memory}
use Rattle.asn_traits.specs.FailsWith.{FailsWith}
use Rattle.asn_traits.specs.Notation.{Notation}
use Rattle.jer_rules.specs.Pending.{tree_of}
use Rattle.jer_rules.proofs.NoLeaves.{tells_none}
use Rattle.jer_rules.proofs.jer.leaves.refusal_of_leaf.Goals as goal

pub returns-in-Kind : goal.returns-in-Kind
returns-in-Kind c = λ value h. let p = rw c.in-Kind.is at h in tells_none c.args.kind value _ _ p.1 (rw (p.0, c.needed.ensures) at c.mismatch.ensures)

pub returns-in-Octets : goal.returns-in-Octets
returns-in-Octets c = λ value h. tells_none c.args.kind value _ _ (rw c.in-Octets.is at h) (refuses_because _ Jer _ _ c.no_octets.ensures refl)

pub returns-in-Object : goal.returns-in-Object
returns-in-Object c = λ value h. tells_none c.args.kind value _ _ (rw c.in-Object.is at h) (refuses_because_or_memory _ Jer _ _ c.no_object.ensures refl refl)

pub returns-in-Digits : goal.returns-in-Digits
returns-in-Digits c = λ value h. tells_none c.args.kind value _ _ (rw c.in-Digits.is at h) (refuses_because_or_memory _ Jer _ _ c.no_digits.ensures refl refl)

pub returns-in-Count : goal.returns-in-Count
returns-in-Count c = λ value h. tells_none c.args.kind value _ _ (rw c.in-Count.is at h) (refuses_because_or_memory _ Jer _ _ c.other_length.ensures refl refl)

pub returns-in-Arcs : goal.returns-in-Arcs
returns-in-Arcs c = λ value h. tells_none c.args.kind value _ _ (rw c.in-Arcs.is at h) (refuses_because_or_memory _ Jer _ _ c.no_oid.ensures refl refl)

pub returns-in-OutOfMemory : goal.returns-in-OutOfMemory
returns-in-OutOfMemory c = λ value h s is. out_of_memory {P = FailsWith Notation.jer s (Some (tree_of value))} Jer _ c.out_of_memory.ensures refl
