-- Texts that were read so far.
use Rattle.std.proofs.Common.{◌≡◌, ℕ, ◌+◌, ◌<◌, ◌≤◌, List, [], ◌∷◌, ◌++◌, map, get_or, take, drop, length, sym, ap, subst, ◌∙◌}
use Rattle.std.proofs.lemmas.List.{drop_more, take_more, take_all, take-append-drop, map-append}
use Rattle.std.specs.Borrow.{Bor}
use Rattle.asn_modules_errors.specs.Errors.{Refuses}
use Rattle.asn_modules_errors.specs.declared.error.ModuleError.{ModuleError}
use Rattle.asn_modules_errors.specs.declared.error.ModuleError.TheVariants as error
use Rattle.asn_modules_names.specs.Mentions.{Source, source_view}
use Rattle.asn_modules_grammar.specs.notation.Modules.{Module}
use Rattle.asn_modules_reader.specs.declared.limits.TheConstants.{NESTING_LIMIT}
use Rattle.asn_modules_names.specs.sources.Reading.{AreRead, IsFirstRefused, IsRead, Named, named_view}
use Rattle.asn_modules_reader.specs.text.Texts.{IsRefused, IsText, IsTextRefusal}
use Rattle.asn_modules_reader.specs.declared.text.source.Source as code

read_more : (ts : List Named) (ss : List Source) (t : Named) (s : Source) → AreRead ts ss → IsRead t s → AreRead (ts ++ t ∷ []) (ss ++ s ∷ [])
read_more [] [] t s h r = (r, tt)
read_more [] (x ∷ ss) t s h r = absurd h
read_more (x ∷ ts) [] t s h r = absurd h
read_more (x ∷ ts) (y ∷ ss) t s h r = (h.0, read_more ts ss t s h.1 r)

-- Each of the texts is one of the sources.
read_at : (before behind : List Named) (t : Named) (ss : List Source) → AreRead (before ++ t ∷ behind) ss → (s : Source) × IsRead t s
read_at [] behind t [] h = absurd h
read_at [] behind t (s ∷ ss) h = (s, h.0)
read_at (x ∷ before) behind t [] h = absurd h
read_at (x ∷ before) behind t (s ∷ ss) h = read_at before behind t ss h.1

-- The texts up to a place were read.
abbrev pub ReadUpTo : List (Bor (List ℕ) × Bor (List ℕ)) → ℕ → List code.Source → Type 0
ReadUpTo texts i sources = AreRead (map named_view (take i texts)) (map source_view sources)

module _ (texts : List (Bor (List ℕ) × Bor (List ℕ))) (i : ℕ) (d : Bor (List ℕ) × Bor (List ℕ)) (here : i < length texts) where
  -- The text at the place.
  abbrev pub text_at : Named
  text_at = named_view (get_or texts i d)

  -- All texts, with what stands before the place, at it, and after it.
  parted : map named_view texts ≡ map named_view (take i texts) ++ text_at ∷ map named_view (drop (i + 1) texts)
  parted = ap (map named_view) (sym (take-append-drop i texts) ∙ ap (λ l. take i texts ++ l) (drop_more texts i d here)) ∙ map-append named_view (take i texts) (get_or texts i d ∷ drop (i + 1) texts)

  pub read_next : (old new : List code.Source) (s : code.Source) → ReadUpTo texts i old → IsRead text_at (source_view s) → new ≡ old ++ s ∷ [] → ReadUpTo texts (i + 1) new
  read_next old new s was r p =
      let front : map named_view (take (i + 1) texts) ≡ map named_view (take i texts) ++ text_at ∷ [] = ap (map named_view) (take_more texts i d here) ∙ map-append named_view (take i texts) (get_or texts i d ∷ []) in
      let back : map source_view new ≡ map source_view old ++ source_view s ∷ [] = ap (map source_view) p ∙ map-append source_view old (s ∷ []) in
      subst (λ x. AreRead x (map source_view new)) (sym front) (subst (AreRead (map named_view (take i texts) ++ text_at ∷ [])) (sym back) (read_more _ _ text_at (source_view s) was r))

  pub refused_first : (sources : List code.Source) (e : ModuleError) → ReadUpTo texts i sources → Refuses text_at.file (IsTextRefusal NESTING_LIMIT text_at.text) e → IsFirstRefused (map named_view texts) e
  refused_first sources (error.Refused file place cause) was r = record {
    before = map named_view (take i texts);
    refused = text_at;
    behind = map named_view (drop (i + 1) texts);
    all = parted;
    sources = map source_view sources;
    read = was;
    reason = r;
  }
  refused_first sources error.OutOfMemory was r = tt

  pub none_read : (e : ModuleError) → (IsRefused e → (modules : List Module) → IsText NESTING_LIMIT text_at.text modules → ⊥) → IsRefused e → (sources : List Source) → AreRead (map named_view texts) sources → ⊥
  none_read e none r sources all =
      let one = read_at (map named_view (take i texts)) (map named_view (drop (i + 1) texts)) text_at sources (subst (λ x. AreRead x sources) parted all) in
      none r one.0.modules one.1.modules

pub read_all : (texts : List (Bor (List ℕ) × Bor (List ℕ))) (i : ℕ) (sources : List code.Source) → length texts ≤ i → ReadUpTo texts i sources → AreRead (map named_view texts) (map source_view sources)
read_all texts i sources h was = subst (λ l. AreRead (map named_view l) (map source_view sources)) (take_all i texts h) was
