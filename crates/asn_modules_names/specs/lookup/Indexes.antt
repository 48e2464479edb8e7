-- What tables hold.
use Rattle.std.specs.Prelude.{◌≡◌, ℕ, List, Bool, ◌&&◌, nat_eq, reverse}
use Rattle.std.specs.Borrow.{Bor}
use Rattle.std.specs.HashMap.{get}
use Rattle.std.specs.Option.{option_map}
use Rattle.std.specs.Str.{bytes_eq}
use Rattle.asn_modules_names.specs.lookup.Entries.{import_entries, module_entries}
use Rattle.asn_modules_names.specs.lookup.Homes.{homes}
use Rattle.asn_modules_names.specs.lookup.Lookup.{assigned, last_of, named, same_key}
use Rattle.asn_modules_names.specs.lookup.Views.{key_view}
use Rattle.asn_modules_names.specs.declared.lookup.index.Index.{Index}
use Rattle.asn_modules_names.specs.declared.lookup.sort.Sort.{Sort}
use Rattle.asn_modules_names.specs.Mentions.{Source}

-- Names with the same bytes.
abbrev pub same_name : Bor (List ℕ) → Bor (List ℕ) → Bool
same_name m n = bytes_eq m.now n.now

-- The same number of a module, and names with the same bytes.
abbrev pub same_pair : ℕ × Bor (List ℕ) → ℕ × Bor (List ℕ) → Bool
same_pair k q = nat_eq k.0 q.0 && bytes_eq k.1.now q.1.now

-- The tables are those of the assignments of the sort in these texts.
pub record IsIndexOf (sort : Sort) (ss : List Source) (index : Index) : Type 0 where
  pub modules : (q : Bor (List ℕ))
      → get same_name index.modules q ≡ last_of bytes_eq (module_entries 0 (homes ss)) q.now
  pub assigned : (q : ℕ × Bor (List ℕ))
      → get same_pair index.assigned q ≡ last_of same_key (assigned sort ss) (key_view q)
  pub last : (q : Bor (List ℕ))
      → get same_name index.last q ≡ last_of bytes_eq (named sort ss) q.now
  pub first : (q : Bor (List ℕ))
      → get same_name index.first q ≡ last_of bytes_eq (reverse (named sort ss)) q.now
  pub imports : (q : ℕ × Bor (List ℕ))
      → option_map (λ n. n.now) (get same_pair index.imports q)
      ≡ last_of same_key (import_entries 0 (homes ss)) (key_view q)
