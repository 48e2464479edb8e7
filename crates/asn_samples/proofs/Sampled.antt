-- The shape of each sample type can be read, and has few nodes.
use denote.Enum.Bare.{sameb}
use Rattle.std.proofs.Common.{◌≡◌, ◌<◌, ◌^◌, ℕ, List, [], ◌∷◌, Bool, true, false, ◌&&◌, ltb, if◌then◌else◌, refl}
use Rattle.std.proofs.lemmas.Bool.{ltb-true}
use Rattle.asn_growth.specs.Parts.{node_count}
use Rattle.asn_model.proofs.Readables.{and-left, and-right}
use Rattle.asn_traits.specs.Readable.{is_readable}
use Rattle.asn_traits.specs.Shape.{Shape}
use Rattle.asn_samples.specs.Samples.{sample_shape, samples, shape_beside}
use Rattle.asn_samples.specs.contracts.sample.Sample.{the_type}
use Rattle.asn_samples.specs.declared.sample.Sample.{Sample}

-- The shape of each row passes the test.
abbrev all_pass : (Shape → Bool) → List (List ℕ × Sample × Shape) → Bool
all_pass test [] = true
all_pass test ((name, sample, shape) ∷ rows) = test shape && all_pass test rows

either : (test : Shape → Bool) (b : Bool) (s r : Shape) → test s ≡ true → test r ≡ true → test (if b then s else r) ≡ true
either test true s r h k = h
either test false s r h k = k

beside_passes : (test : Shape → Bool) → test Shape.null ≡ true → (rows : List (List ℕ × Sample × Shape)) → all_pass test rows ≡ true → (sample : Sample) → test (shape_beside rows sample) ≡ true
beside_passes test null [] all sample = null
beside_passes test null ((name, row, shape) ∷ rows) all sample =
    either test (sameb the_type sample row) shape (shape_beside rows sample) (and-left (test shape) (all_pass test rows) all) (beside_passes test null rows (and-right (test shape) (all_pass test rows) all) sample)

pub sample_readable : (sample : Sample) → is_readable (sample_shape sample) ≡ true
sample_readable sample = beside_passes is_readable refl samples refl sample

pub sample_few : (sample : Sample) → node_count (sample_shape sample) < 2 ^ 32
sample_few sample = ltb-true (node_count (sample_shape sample)) (2 ^ 32) (beside_passes (λ s. ltb (node_count s) (2 ^ 32)) refl samples refl sample)
