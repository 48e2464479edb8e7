-- What the tables of names hold.
use Rattle.std.specs.Prelude.{◌≡◌, ℕ, suc, List, [], ◌∷◌, ◌++◌, map, reverse, Bool, ◌&&◌, nat_eq, Option, Some, None}
use Rattle.std.specs.Borrow.{Bor}
use Rattle.std.specs.HashMap.{get}
use Rattle.std.specs.HashSet.{contains}
use Rattle.std.specs.List.{cons_option, slice_get}
use Rattle.std.specs.Option.{option_and_then, option_map}
use Rattle.std.specs.Set.{is_member}
use Rattle.std.specs.Str.{bytes_eq}
use Rattle.asn_lexer.specs.declared.token.Token.{Token}
use Rattle.asn_modules_names.specs.imports.Imported.{assigned_by, exports_of, held_names}
use Rattle.asn_modules_names.specs.declared.imports.entries.Listed.{Listed}
use Rattle.asn_modules_names.specs.declared.imports.entries.Listed.TheVariants.{Assigned, Exported, Title, Held}
use Rattle.asn_modules_names.specs.declared.imports.index.ExportIndex.{ExportIndex}
use Rattle.asn_modules_names.specs.lookup.Homes.{Home, bytes_in, home_view}
use Rattle.asn_modules_names.specs.lookup.Indexes.{same_name}
use Rattle.asn_modules_names.specs.lookup.Lookup.{last_of}
use Rattle.asn_modules_names.specs.lookup.Views.{entry_view}
use Rattle.asn_modules_names.specs.Assigned.{module_name}

-- The names in the list, if there is one.
abbrev pub names_in : Option (List Token) → List Token
names_in None = []
names_in (Some names) = names

-- The names that are listed of a module.
abbrev pub names_of : Listed → Home → List (List ℕ)
names_of Title h = cons_option (option_map (bytes_in h) (module_name h.parsed)) []
names_of Assigned h = assigned_by h h.parsed.assignments
names_of Exported h = map (bytes_in h) (names_in (exports_of h.parsed.header))
names_of Held h = held_names h

-- The names, each with this number.
abbrev pub numbered_by : ℕ → List (List ℕ) → List (List ℕ × ℕ)
numbered_by k names = map (λ n. (n, k)) names

-- The names that f gives of each module, with the number of the module; the first has number k.
abbrev pub names_by : (Home → List (List ℕ)) → ℕ → List Home → List (List ℕ × ℕ)
names_by f k [] = []
names_by f k (h ∷ hs) = numbered_by k (f h) ++ names_by f (suc k) hs

-- Those that are listed of these modules.
abbrev pub entries_of : Listed → List Home → List (List ℕ × ℕ)
entries_of listed hs = names_by (names_of listed) 0 hs

-- The same name and the same number.
abbrev pub same_named : List ℕ × ℕ → List ℕ × ℕ → Bool
same_named e f = bytes_eq e.0 f.0 && nat_eq e.1 f.1

abbrev pub same_entry : Bor (List ℕ) × ℕ → Bor (List ℕ) × ℕ → Bool
same_entry e f = same_named (entry_view e) (entry_view f)

-- The modules of an index.
abbrev pub modules_of : ExportIndex → List Home
modules_of index = map home_view index.homes.now

-- The module of the number.
abbrev pub module_at : ExportIndex → Option ℕ → Option Home
module_at index number = option_and_then (slice_get (modules_of index)) number

-- The tables are those of the modules.
pub record IsExportIndex (index : ExportIndex) : Type 0 where
  pub titles : (q : Bor (List ℕ))
      → get same_name index.titles q
      ≡ last_of bytes_eq (reverse (entries_of Title (modules_of index))) q.now
  pub first : (q : Bor (List ℕ))
      → get same_name index.first q
      ≡ last_of bytes_eq (reverse (entries_of Assigned (modules_of index))) q.now
  pub last : (q : Bor (List ℕ))
      → get same_name index.last q ≡ last_of bytes_eq (entries_of Assigned (modules_of index)) q.now
  pub exported : (q : Bor (List ℕ) × ℕ)
      → contains same_entry index.exported q
      ≡ is_member same_named (entries_of Exported (modules_of index)) (entry_view q)
  pub held : (q : Bor (List ℕ) × ℕ)
      → contains same_entry index.held q
      ≡ is_member same_named (entries_of Held (modules_of index)) (entry_view q)
