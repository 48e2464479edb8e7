-- Older and newer versions of a type of modules.
use Rattle.std.specs.Prelude.{◌≡◌, ◌⊎◌, ℕ, ◌<◌, ◌^◌, List, [], ◌++◌, codes, string_bytes, true, Some, None, Result, Ok, Err}
use Rattle.asn_command.specs.declared.versions.pair.Versions as code
use Rattle.asn_growth.specs.Differences.{differences_of}
use Rattle.asn_growth.specs.Grows.{Grows}
use Rattle.asn_growth.specs.Parts.{node_count}
use Rattle.asn_growth.specs.Paths.{paths}
use Rattle.asn_linked_types.specs.expander.Large.{IsTooLarge}
use Rattle.asn_model.specs.Readable.{is_readable}
use Rattle.asn_model.specs.Shape as spec
use Rattle.asn_model.specs.ShapeView.{shape_view}
use Rattle.asn_model.specs.declared.shape_type.Shape.{Shape}
use Rattle.asn_modules.specs.Modules.{Modules, shape_named}
use Rattle.asn_replies.specs.Namings.{IsMissingReply}
use Rattle.asn_replies.specs.Reading.{IsRefusal}
use Rattle.asn_replies.specs.declared.reply.Reply.{Reply}
use Rattle.asn_replies.specs.declared.reply.Reply.TheVariants.{Answer, Refusal}
use Rattle.asn_replies.specs.declared.status.Status.TheVariants.{Refused}
use Rattle.asn_version_reports.specs.Reports.{report_text}
use Rattle.asn_version_reports.specs.Valueless.{uncompared_lines, valueless_paths}

-- The line that says that the type of the name has too many parts.
abbrev pub large_line : List ℕ → List ℕ
large_line name = codes "asn: the type `" ++ (name ++ codes "` is too large to be compared\n")

-- The reply refuses a command since the one type of the name is too large.
pub record IsLargeReply (m : Modules) (name : List ℕ) (reply : Reply) : Type 0 where
  pub shape : spec.Shape
  pub named : shape_named m name ≡ Some shape
  pub large : IsTooLarge shape
  pub told : IsRefusal Refused (large_line name) reply

-- The reply refuses a command since no type or more than one has the name, or the one that has it
-- is too large.
abbrev pub IsNoType : Modules → List ℕ → Reply → Type 0
IsNoType m name reply =
    ((shape_named m name ≡ None) × IsMissingReply name reply) ⊎ IsLargeReply m name reply

-- The shape is that of the one type of the name. Values can be read by it, and its nodes have
-- numbers.
pub record IsTypeNamed (m : Modules) (name : List ℕ) (s : spec.Shape) : Type 0 where
  pub named : shape_named m name ≡ Some s
  pub readable : is_readable s ≡ true
  pub few : node_count s < 2 ^ 32

-- The shape of the one type of the name, or why there is none.
abbrev pub IsWhole : Modules → List ℕ → Result Shape Reply → Type 0
IsWhole m name (Ok s) = IsTypeNamed m name (shape_view s)
IsWhole m name (Err reply) = IsNoType m name reply

-- The shapes are those of the type of the name in older and in newer modules, and the newer one is
-- a later version of the older one. Each part of the older one has values. So has each part of the
-- newer one that is compared with one of these: the type without values is a later version of
-- itself alone.
pub record IsLater (old new : Modules) (name : List ℕ) (older newer : spec.Shape) : Type 0 where
  pub is_older : shape_named old name ≡ Some older
  pub is_newer : shape_named new name ≡ Some newer
  pub grows : Grows older newer
  pub valued : valueless_paths older ≡ []

-- The reply refuses a command since the newer one is no later version: it has a line for each place
-- of the older one that differs, and one for each part of that one that isn't compared since it has
-- no values.
pub record IsDifference (old new : Modules) (name : List ℕ) (reply : Reply) : Type 0 where
  pub older : spec.Shape
  pub newer : spec.Shape
  pub is_older : shape_named old name ≡ Some older
  pub is_newer : shape_named new name ≡ Some newer
  pub differs : Grows older newer → ⊥
  pub told : IsRefusal Refused
      (report_text (paths older) (differences_of older newer 0) ++ uncompared_lines older) reply

-- The reply refuses a command since parts of the older one have no values. Nothing else differs,
-- and each of them has a line.
pub record IsValueless (old new : Modules) (name : List ℕ) (reply : Reply) : Type 0 where
  pub older : spec.Shape
  pub newer : spec.Shape
  pub is_older : shape_named old name ≡ Some older
  pub is_newer : shape_named new name ≡ Some newer
  pub grows : Grows older newer
  pub lacking : valueless_paths older ≡ [] → ⊥
  pub told : IsRefusal Refused (uncompared_lines older) reply

-- The reply refuses a command since there are no such versions.
abbrev pub AreNone : Modules → Modules → List ℕ → Reply → Type 0
AreNone old new name reply =
    IsNoType old name reply
    ⊎ (IsNoType new name reply ⊎ (IsDifference old new name reply ⊎ IsValueless old new name reply))

-- The versions of the type of the name, or why there are none.
abbrev pub AreVersions : Modules → Modules → List ℕ → Result code.Versions Reply → Type 0
AreVersions old new name (Ok versions) =
    IsLater old new name (shape_view versions.older) (shape_view versions.newer)
AreVersions old new name (Err reply) = AreNone old new name reply

-- The line says that one is a later version of the other, and it is.
pub record IsGrowth (old new : Modules) (name line : List ℕ) : Type 0 where
  pub older : spec.Shape
  pub newer : spec.Shape
  pub later : IsLater old new name older newer
  pub is : line ≡ codes "grows\n"

-- The reply says so, or why it isn't so.
abbrev pub IsGrowthReply : Modules → Modules → List ℕ → Reply → Type 0
IsGrowthReply old new name (Answer line) = IsGrowth old new name (string_bytes line)
IsGrowthReply old new name (Refusal status lines) = AreNone old new name (Refusal status lines)
