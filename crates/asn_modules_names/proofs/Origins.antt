-- Names of modules that were listed so far.
use Rattle.std.proofs.Common.{◌≡◌, ◌≤◌, ℕ, ◌+◌, ◌<◌, List, [], ◌∷◌, ◌++◌, map, Bool, true, false, not, if◌then◌else◌, refl, sym, ap, ◌∙◌, append_assoc, append-nil, get_or, drop, length}
use Rattle.std.proofs.lemmas.List.{drop_all, drop_more, map-append}
use Rattle.std.proofs.lemmas.Slice.Eq.{bytes_eq-Decides}
use Rattle.std.specs.Borrow.{Bor}
use Rattle.std.specs.HashSet.{HashSet, UpdatesBy, contains}
use Rattle.std.specs.Str.{bytes_eq}
use Rattle.asn_model.specs.Shape.{is_item}
use Rattle.asn_modules_grammar.specs.declared.headers.import.Import.{Import}
use Rattle.asn_modules_grammar.specs.headers.Views.{import_view}
use Rattle.asn_modules_names.specs.lookup.Entries.{imports_of}
use Rattle.asn_modules_names.specs.lookup.Homes.{home_view}
use Rattle.asn_modules_names.specs.declared.lookup.home.Home as code_home
use Rattle.asn_modules_names.specs.Mentions.{Mention, Source, mention_in, mention_view, name_of}
use Rattle.asn_modules_names.specs.declared.mention.Mention as code
use Rattle.asn_modules_names.specs.Missing.{new_names, origins_in, origins_of}
use Rattle.asn_modules_names.proofs.Founds.{drop_at, listed_all, listed_more, pushed}
use Rattle.asn_modules_names.proofs.Repeating.{Knows, knows_more, was_new, was_there}

same_bytes : (m n : List ℕ) → bytes_eq m n ≡ true → m ≡ n
same_bytes m n e = (bytes_eq-Decides m n).0 e

-- An item that is there already.
item_again : (ns : List (List ℕ)) (n q : List ℕ) → is_item ns n ≡ true → (if bytes_eq n q then true else is_item ns q) ≡ is_item ns q
item_again ns n q there = by (bytes_eq n q) refl
  where
    by : (b : Bool) → bytes_eq n q ≡ b → (if b then true else is_item ns q) ≡ is_item ns q
    by true e = sym there ∙ ap (is_item ns) (same_bytes n q e)
    by false e = refl

-- The names after FROM in imports of a module.
module _ (s : Source) where
  abbrev pub origins : List Import → List Mention
  origins is = origins_in s (map import_view is)

  pub origin_added : (all : List Mention) (old new : List code.Mention) (added : code.Mention) (is : List Import) (i : ℕ) (x : Import) → i < length is → x ≡ get_or is i x → all ≡ map mention_view old ++ origins (drop i is)
      → mention_view added ≡ mention_in s x.module → new ≡ old ++ added ∷ [] → all ≡ map mention_view new ++ origins (drop (i + 1) is)
  origin_added all old new added is i x h e was v p =
      listed_more all (map mention_view old) (map mention_view new) (mention_in s x.module ∷ []) (origins (drop i is)) (origins (drop (i + 1) is)) was (ap origins (drop_at is i x h e))
      (pushed mention_view old new added (mention_in s x.module) p v)

  pub origins_end : (all : List Mention) (new : List code.Mention) (is : List Import) (i : ℕ) → length is ≤ i → all ≡ map mention_view new ++ origins (drop i is) → map mention_view new ≡ all
  origins_end all new is i h was = sym (listed_all all (map mention_view new) (origins (drop i is)) was (ap origins (drop_all i is h)))

-- Those of all modules, from one on.
abbrev pub origins_from : List code_home.Home → ℕ → List Mention
origins_from hs i = origins_of (map home_view (drop i hs))

pub home_added : (all before after : List Mention) (hs : List code_home.Home) (i : ℕ) (h : code_home.Home) → i < length hs → h ≡ get_or hs i h → all ≡ before ++ origins_from hs i
    → after ≡ before ++ origins_in (home_view h).source (imports_of (home_view h).parsed.header) → all ≡ after ++ origins_from hs (i + 1)
home_added all before after hs i h l e was a =
    listed_more all before after (origins_in (home_view h).source (imports_of (home_view h).parsed.header)) (origins_from hs i) (origins_from hs (i + 1)) was (ap (λ x. origins_of (map home_view x)) (drop_at hs i h l e)) a

pub homes_end : (all new : List Mention) (hs : List code_home.Home) (i : ℕ) → length hs ≤ i → all ≡ new ++ origins_from hs i → new ≡ all
homes_end all new hs i h was = sym (listed_all all new (origins_from hs i) was (ap (λ x. origins_of (map home_view x)) (drop_all i hs h)))

-- Names that are new so far: the known ones are those that were known before, and these.
module _ (before : List (List ℕ)) where
  abbrev pub known : List code.Mention → List (List ℕ)
  known found = before ++ map name_of (map mention_view found)

  abbrev pub rest : List code.Mention → List code.Mention → List Mention
  rest found ms = new_names (known found) (map mention_view ms)

  known_more : (old new : List code.Mention) (m : code.Mention) → new ≡ old ++ m ∷ [] → known new ≡ known old ++ name_of (mention_view m) ∷ []
  known_more old new m p =
      ap (λ l. before ++ map name_of l) (pushed mention_view old new m (mention_view m) p refl) ∙ ap (λ l. before ++ l) (map-append name_of (map mention_view old) (mention_view m ∷ []))
      ∙ sym (append_assoc before (map name_of (map mention_view old)) (name_of (mention_view m) ∷ []))

  module _ {S : Type 0} (all : List Mention) (old new : HashSet (Bor (List ℕ)) S) (found ms : List code.Mention) (i : ℕ) (d : code.Mention) (k : Bor (List ℕ)) (added : Bool) (h : i < length ms) (knows : Knows old (known found))
      (named : k.now ≡ name_of (mention_view (get_or ms i d))) (answer : added ≡ not (contains (λ x y. bytes_eq x.now y.now) old k))
      (updates : UpdatesBy (λ x y. bytes_eq x.now y.now) (λ y. bytes_eq k.now y.now) old new true) (was : all ≡ map mention_view found ++ rest found (drop i ms)) where
    abbrev here : code.Mention
    here = get_or ms i d

    at_name : (b : Bool) → is_item (known found) (name_of (mention_view here)) ≡ b
        → rest found (drop i ms) ≡ (if b then rest found (drop (i + 1) ms) else mention_view here ∷ new_names (known found ++ name_of (mention_view here) ∷ []) (map mention_view (drop (i + 1) ms)))
    at_name b there =
        ap (rest found) (drop_more ms i d h)
        ∙ ap (λ x. if x then rest found (drop (i + 1) ms) else mention_view here ∷ new_names (known found ++ name_of (mention_view here) ∷ []) (map mention_view (drop (i + 1) ms))) there

    -- One that is new.
    pub name_added : added ≡ true → (after : List code.Mention) → after ≡ found ++ here ∷ [] → Knows new (known after) × (all ≡ map mention_view after ++ rest after (drop (i + 1) ms))
    name_added t after p = (
      knows_more old new (known found) (known after) k (name_of (mention_view here)) knows named (known_more found after here p) updates,
      listed_more all (map mention_view found) (map mention_view after) (mention_view here ∷ []) (rest found (drop i ms)) (rest after (drop (i + 1) ms)) was
          (at_name false (was_new old (known found) k (name_of (mention_view here)) added knows named answer t) ∙ ap (λ l. mention_view here ∷ new_names l (map mention_view (drop (i + 1) ms))) (sym (known_more found after here p)))
          (pushed mention_view found after here (mention_view here) p refl),
    )

    -- One that is known: adding it changes nothing.
    pub name_passed : added ≡ false → Knows new (known found) × (all ≡ map mention_view found ++ rest found (drop (i + 1) ms))
    name_passed f =
        let there = was_there old (known found) k (name_of (mention_view here)) added knows named answer f in (
          (λ q. updates.0 q ∙ ap (λ b. if bytes_eq k.now q.now then true else b) (knows q) ∙ item_again (known found) k.now q.now (ap (is_item (known found)) named ∙ there)),
          was ∙ ap (λ l. map mention_view found ++ l) (at_name true there),
        )

  pub names_end : (all : List Mention) (found ms : List code.Mention) (i : ℕ) → length ms ≤ i → all ≡ map mention_view found ++ rest found (drop i ms) → map mention_view found ≡ all
  names_end all found ms i h was = sym (listed_all all (map mention_view found) (rest found (drop i ms)) was (ap (rest found) (drop_all i ms h)))

  -- Before the first name none is new.
  pub names_begin : {S : Type 0} (seen : HashSet (Bor (List ℕ)) S) (ms : List code.Mention) → Knows seen before → Knows seen (known []) × (new_names before (map mention_view ms) ≡ rest [] ms)
  names_begin seen ms k = ((λ q. k q ∙ ap (λ l. is_item l q.now) (sym (append-nil before))), ap (λ l. new_names l (map mention_view ms)) (sym (append-nil before)))
