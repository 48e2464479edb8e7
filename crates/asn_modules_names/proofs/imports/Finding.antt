-- What the tables find.
use Rattle.std.proofs.Common.{◌≡◌, ℕ, List, [], ◌∷◌, ◌++◌, map, reverse, Bool, true, false, ◌||◌, if◌then◌else◌, filter, Option, Some, None, refl, sym, ap, ◌∙◌}
use Rattle.std.proofs.lemmas.List.{map-append, reverse-append}
use Rattle.std.specs.Borrow.{Bor}
use Rattle.std.specs.List.{cons_option, slice_get}
use Rattle.std.specs.Option.{is_none, option_and_then, option_map}
use Rattle.std.specs.Set.{is_member}
use Rattle.std.specs.Str.{bytes_eq}
use Rattle.asn_lexer.specs.declared.token.Token.{Token}
use Rattle.asn_model.specs.Shape.{is_item}
use Rattle.asn_modules_names.specs.imports.Imported.{exports_of, is_among, is_exported, is_token, module_named}
use Rattle.asn_modules_names.specs.imports.Tables.{entries_of, names_in, names_of, same_entry, same_named}
use Rattle.asn_modules_names.specs.declared.imports.entries.Listed.TheVariants.{Exported, Title}
use Rattle.asn_modules_names.proofs.imports.Counting.{first_found, has, head_of}
use Rattle.asn_modules_names.proofs.imports.Keeping.{kept_by}
use Rattle.asn_modules_names.specs.lookup.Homes.{Home, bytes_in}
use Rattle.asn_modules_names.specs.lookup.Lookup.{last_of}
use Rattle.asn_modules_names.specs.lookup.Views.{entry_view}
use Rattle.asn_modules_names.specs.Assigned.{module_name}

-- Entries of a set, seen by the bytes of names.
pub members_viewed : (q : Bor (List ℕ) × ℕ) (es : List (Bor (List ℕ) × ℕ)) → is_member same_entry es q ≡ is_member same_named (map entry_view es) (entry_view q)
members_viewed q [] = refl
members_viewed q (e ∷ es) = ap (λ b. same_entry q e || b) (members_viewed q es)

-- Turned round and then seen is seen and then turned round.
pub entries_turned : (es : List (Bor (List ℕ) × ℕ)) → map entry_view (reverse es) ≡ reverse (map entry_view es)
entries_turned [] = refl
entries_turned (e ∷ es) =
    ap (map entry_view) (reverse-append (e ∷ []) es) ∙ map-append entry_view (reverse es) (e ∷ []) ∙ ap (λ l. l ++ entry_view e ∷ []) (entries_turned es) ∙ sym (reverse-append (entry_view e ∷ []) (map entry_view es))

module _ (name : List ℕ) where
  whole : (b : Bool) → b ≡ (if b then true else false)
  whole true = refl
  whole false = refl

  titled_by : (h : Home) (o : Option Token) → is_token h name o ≡ is_item (cons_option (option_map (bytes_in h) o) []) name
  titled_by h None = refl
  titled_by h (Some t) = whole (bytes_eq name (bytes_in h t))

  before : (h : Home) (b : Bool) (o : Option Home) (found : List Home) → o ≡ head_of found → (if b then Some h else o) ≡ head_of (if b then h ∷ found else found)
  before h true o found e = refl
  before h false o found e = e

  named_first : (hs : List Home) → module_named hs name ≡ head_of (filter (has (names_of Title) name) hs)
  named_first [] = refl
  named_first (h ∷ hs) =
      ap (λ b. if b then Some h else module_named hs name) (titled_by h (module_name h.parsed))
      ∙ before h (has (names_of Title) name h) (module_named hs name) (filter (has (names_of Title) name) hs) (named_first hs)

  -- The first module of the name.
  pub titled : (hs : List Home) → option_and_then (slice_get hs) (last_of bytes_eq (reverse (entries_of Title hs)) name) ≡ module_named hs name
  titled hs = first_found (names_of Title) name hs ∙ sym (named_first hs)

  listed : (h : Home) (o : Option (List Token)) → is_none o ≡ false → is_item (map (bytes_in h) (names_in o)) name ≡ is_among h o name
  listed h None e = let x : ⊥ = cc in absurd x
  listed h (Some names) e = refl

  unlisted : (h : Home) (o : Option (List Token)) → is_none o ≡ true → true ≡ is_among h o name
  unlisted h None e = refl
  unlisted h (Some names) e = let x : ⊥ = cc in absurd x

  -- A module without a list of exports exports the name.
  pub free : (h : Home) → is_none (exports_of h.parsed.header) ≡ true → true ≡ is_exported h name
  free h e = unlisted h (exports_of h.parsed.header) e

  -- One with a list does where the name is in it.
  pub stated : (hs : List Home) (i : ℕ) (h : Home) → slice_get hs i ≡ Some h → is_none (exports_of h.parsed.header) ≡ false → is_member same_named (entries_of Exported hs) (name, i) ≡ is_exported h name
  stated hs i h there e = kept_by name (names_of Exported) hs i h there ∙ listed h (exports_of h.parsed.header) e
