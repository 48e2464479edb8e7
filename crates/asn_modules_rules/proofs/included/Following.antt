-- What types stand for, and what they include, past so many names.
use Rattle.std.proofs.Common.{◌≡◌, ◌+◌, ℕ, List, Option, Some, None, sym, ap, ◌∙◌, unwrap_or, add-one}
use Rattle.std.specs.List.{slice_get}
use Rattle.std.specs.Option.{option_map}
use Rattle.asn_modules_rules.specs.included.Extents.{Extent, included_extent, left_behind}
use Rattle.asn_modules_rules.specs.included.TooLarge.{extent_by, extent_or, included, inclusions}
use Rattle.asn_modules_rules.specs.included.Types.{AssignedType, next_type, stands_for, type_named}
use Rattle.asn_modules_rules.specs.declared.included.names.TypeName.{TypeName}
use Rattle.asn_modules_rules.proofs.included.Leaving.{left_nothing}
use Rattle.asn_modules_names.specs.lookup.Homes.{Home}
use Rattle.asn_modules_names.specs.Mentions.{Source}

stands_more : (ts : List AssignedType) (more less : ℕ) (t : AssignedType) → more ≡ less + 1 → stands_for ts more t ≡ unwrap_or (option_map (stands_for ts less) (next_type ts t)) t
unfolding stands_for
stands_more ts more less t e = ap (λ m. stands_for ts m t) (e ∙ add-one less)

pub stands_here : (ts : List AssignedType) (more : ℕ) (t : AssignedType) → more ≡ 0 → t ≡ stands_for ts more t
unfolding stands_for
stands_here ts more t e = sym (ap (λ m. stands_for ts m t) e)

pub stands_last : (ts : List AssignedType) (more less : ℕ) (t : AssignedType) → more ≡ less + 1 → None ≡ next_type ts t → t ≡ stands_for ts more t
stands_last ts more less t e none = sym (stands_more ts more less t e ∙ ap (λ o. unwrap_or (option_map (stands_for ts less) o) t) (sym none))

pub stands_on : (ts : List AssignedType) (more less : ℕ) (t next : AssignedType) → more ≡ less + 1 → Some next ≡ next_type ts t → stands_for ts less next ≡ stands_for ts more t
stands_on ts more less t next e one = sym (stands_more ts more less t e ∙ ap (λ o. unwrap_or (option_map (stands_for ts less) o) t) (sym one))

-- What names include.
module _ (ss : List Source) (ts : List AssignedType) (k : ℕ) (h : Home) (x : TypeName) (left levels : ℕ) where
  pub past_unknown : (f : ℕ → Extent) → None ≡ type_named ss k h x → Some left ≡ left_behind (inclusions ss k h f x.home x.name) left levels
  past_unknown f none = sym (ap (λ o. left_behind (extent_or f o) left levels) (sym none) ∙ left_nothing left levels)

  known : (f : ℕ → Extent) (n : ℕ) → Some n ≡ type_named ss k h x → left_behind (f n) left levels ≡ left_behind (inclusions ss k h f x.home x.name) left levels
  known f n is = ap (λ o. left_behind (extent_or f o) left levels) is

  pub past_last : (names n : ℕ) → names ≡ 0 → Some n ≡ type_named ss k h x → Some left ≡ left_behind (inclusions ss k h (included ss ts names) x.home x.name) left levels
  unfolding included
  past_last names n e is = sym (ap (λ m. left_behind (included ss ts m n) left levels) e ∙ left_nothing left levels) ∙ known (included ss ts names) n is

  more : (names less n : ℕ) → names ≡ less + 1 → included ss ts names n ≡ extent_by ss (included ss ts less) (slice_get ts n)
  unfolding included
  more names less n e = ap (λ m. included ss ts m n) (e ∙ add-one less)

  by : (names less n : ℕ) (o : Option AssignedType) → names ≡ less + 1 → Some n ≡ type_named ss k h x → o ≡ slice_get ts n → left_behind (extent_by ss (included ss ts less) o) left levels ≡ left_behind (inclusions ss k h (included ss ts names) x.home x.name) left levels
  by names less n o e is at = ap (λ p. left_behind (extent_by ss (included ss ts less) p) left levels) at ∙ ap (λ y. left_behind y left levels) (sym (more names less n e)) ∙ known (included ss ts names) n is

  pub past_missing : (names less n : ℕ) → names ≡ less + 1 → Some n ≡ type_named ss k h x → None ≡ slice_get ts n → Some left ≡ left_behind (inclusions ss k h (included ss ts names) x.home x.name) left levels
  past_missing names less n e is none = sym (left_nothing left levels) ∙ by names less n None e is none

  pub past_named : (names less n : ℕ) (t : AssignedType) → names ≡ less + 1 → Some n ≡ type_named ss k h x → Some t ≡ slice_get ts n
      → left_behind (included_extent (inclusions ss t.number t.home (included ss ts less)) t.notation) left levels ≡ left_behind (inclusions ss k h (included ss ts names) x.home x.name) left levels
  past_named names less n t e is one = by names less n (Some t) e is one
