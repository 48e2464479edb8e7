-- Which row of a name is the first.
use Rattle.std.proofs.Common.{◌≡◌, ℕ, List, [], ◌∷◌, ◌++◌, Bool, true, false, if◌then◌else◌, Option, Some, None, refl, sym}
use Rattle.std.proofs.lemmas.Bool.{false_from_ne_true}
use Rattle.std.proofs.lemmas.Option.{none-some}
use Rattle.std.proofs.lemmas.Slice.Eq.{bytes_eq-Decides}
use Rattle.std.specs.Str.{bytes_eq}
use Rattle.asn_traits.specs.Shape.{Shape}
use Rattle.asn_samples.specs.Samples.{sample_beside}
use Rattle.asn_samples.specs.declared.sample.Sample.{Sample}

-- No row has that name.
abbrev pub NoneNamed : List (List ℕ × Sample × Shape) → List ℕ → Type 0
NoneNamed [] name = Unit {0}
NoneNamed ((row_name, row_sample, row_shape) ∷ rows) name = (name ≡ row_name → ⊥) × NoneNamed rows name

pub none_named : (rows : List (List ℕ × Sample × Shape)) (name : List ℕ) → NoneNamed rows name → None ≡ sample_beside rows name
none_named [] name h = refl
none_named ((row_name, row_sample, row_shape) ∷ rows) name h = rw (false_from_ne_true (bytes_eq name row_name) (λ e. h.0 ((bytes_eq-Decides name row_name).0 e))) (none_named rows name h.1)

-- Of two lists of rows, the first counts where it has a row of that name.
first_of : (b : Bool) (row sample : Sample) (few all : Option Sample) → (Some sample ≡ few → Some sample ≡ all) → Some sample ≡ (if b then Some row else few) → Some sample ≡ (if b then Some row else all)
first_of true row sample few all later e = e
first_of false row sample few all later e = later e

pub named_in_first : (rows more : List (List ℕ × Sample × Shape)) (name : List ℕ) (sample : Sample) → Some sample ≡ sample_beside rows name → Some sample ≡ sample_beside (rows ++ more) name
named_in_first [] more name sample e = absurd (none-some sample (sym e))
named_in_first ((row_name, row_sample, row_shape) ∷ rows) more name sample e =
    first_of (bytes_eq name row_name) row_sample sample (sample_beside rows name) (sample_beside (rows ++ more) name) (λ l. named_in_first rows more name sample l) e

-- Else the second counts.
second_of : (b : Bool) (row : Sample) (few all second : Option Sample) → (None ≡ few → second ≡ all) → None ≡ (if b then Some row else few) → second ≡ (if b then Some row else all)
second_of true row few all second later e = absurd (none-some row e)
second_of false row few all second later e = later e

pub named_in_second : (rows more : List (List ℕ × Sample × Shape)) (name : List ℕ) → None ≡ sample_beside rows name → sample_beside more name ≡ sample_beside (rows ++ more) name
named_in_second [] more name e = refl
named_in_second ((row_name, row_sample, row_shape) ∷ rows) more name e =
    second_of (bytes_eq name row_name) row_sample (sample_beside rows name) (sample_beside (rows ++ more) name) (sample_beside more name) (λ l. named_in_second rows more name l) e
