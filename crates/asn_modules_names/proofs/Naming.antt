-- Names that were listed so far.
use Rattle.std.proofs.Common.{◌≡◌, ◌≤◌, ℕ, ◌+◌, ◌<◌, List, [], ◌∷◌, ◌++◌, map, Option, Some, None, refl, sym, ap, ◌∙◌, get_or, drop, length}
use Rattle.std.proofs.lemmas.List.{drop_all}
use Rattle.std.specs.List.{filter_map, cons_option}
use Rattle.std.specs.Option.{option_map}
use Rattle.asn_lexer.specs.declared.token.Token.{Token}
use Rattle.asn_modules_names.specs.Assigned.{all_module_names, assigned_name, assigned_names, module_name, module_names}
use Rattle.asn_modules_names.specs.Mentions.{Mention, Source, mention_in, mention_view, source_view}
use Rattle.asn_modules_names.specs.declared.mention.Mention as code
use Rattle.asn_modules_names.proofs.Founds.{drop_at, listed_more, pushed}
use Rattle.asn_modules_grammar.specs.notation.View.{assignment_view, module_view}
use Rattle.asn_modules_grammar.specs.declared.notation.module.Assignment as code_assignment
use Rattle.asn_modules_grammar.specs.declared.notation.module.Module as code_module
use Rattle.asn_modules_reader.specs.declared.text.source.Source as code_source

-- The name of a module of this text.
abbrev pub heading : Source → code_module.Module → Option Mention
heading s m = option_map (λ t. mention_in s t) (module_name (module_view m))

abbrev pub headings : Source → List code_module.Module → List Mention
headings s ms = module_names s (map module_view ms)

abbrev some_of : Option Mention → List Mention
some_of None = []
some_of (Some m) = m ∷ []

cons_some : (o : Option Mention) (ms : List code_module.Module) (s : Source) (m : code_module.Module) → heading s m ≡ o → headings s (m ∷ ms) ≡ some_of o ++ headings s ms
cons_some o ms s m e = ap (λ x. cons_option x (headings s ms)) e ∙ both o
  where
    both : (p : Option Mention) → cons_option p (headings s ms) ≡ some_of p ++ headings s ms
    both None = refl
    both (Some n) = refl

pub heading_passed : (all before : List Mention) (s : Source) (ms : List code_module.Module) (i : ℕ) (m : code_module.Module) → i < length ms → m ≡ get_or ms i m → all ≡ before ++ headings s (drop i ms) → module_name (module_view m) ≡ None
    → all ≡ before ++ headings s (drop (i + 1) ms)
heading_passed all before s ms i m h e was none =
    was ∙ ap (λ l. before ++ headings s l) (drop_at ms i m h e) ∙ ap (λ l. before ++ l) (cons_some None (drop (i + 1) ms) s m (ap (option_map (λ t. mention_in s t)) none))

pub heading_added : (all : List Mention) (old new : List code.Mention) (added : code.Mention) (s : Source) (t : Token) (ms : List code_module.Module) (i : ℕ) (m : code_module.Module) → i < length ms → m ≡ get_or ms i m
    → all ≡ map mention_view old ++ headings s (drop i ms) → module_name (module_view m) ≡ Some t → mention_view added ≡ mention_in s t → new ≡ old ++ added ∷ [] → all ≡ map mention_view new ++ headings s (drop (i + 1) ms)
heading_added all old new added s t ms i m h e was named v p =
    listed_more all (map mention_view old) (map mention_view new) (mention_in s t ∷ []) (headings s (drop i ms)) (headings s (drop (i + 1) ms)) was
    (ap (headings s) (drop_at ms i m h e) ∙ cons_some (Some (mention_in s t)) (drop (i + 1) ms) s m (ap (option_map (λ x. mention_in s x)) named))
    (pushed mention_view old new added (mention_in s t) p v)

-- Those of one text more.
pub texts_added : (all before after : List Mention) (ss : List code_source.Source) (i : ℕ) (s : code_source.Source) → i < length ss → s ≡ get_or ss i s → all ≡ before ++ all_module_names (map source_view (drop i ss))
    → after ≡ before ++ headings (source_view s) s.modules.items → all ≡ after ++ all_module_names (map source_view (drop (i + 1) ss))
texts_added all before after ss i s h e was a =
    listed_more all before after (headings (source_view s) s.modules.items) (all_module_names (map source_view (drop i ss))) (all_module_names (map source_view (drop (i + 1) ss))) was
    (ap (λ l. all_module_names (map source_view l)) (drop_at ss i s h e)) a

-- One assigned name more.
abbrev pub assigned : Source → List code_assignment.Assignment → List Mention
assigned s xs = assigned_names s (map assignment_view xs)

pub assigned_added : (all : List Mention) (old new : List code.Mention) (added : code.Mention) (s : Source) (xs : List code_assignment.Assignment) (i : ℕ) (a : code_assignment.Assignment) → i < length xs → a ≡ get_or xs i a
    → all ≡ map mention_view old ++ assigned s (drop i xs) → mention_view added ≡ mention_in s (assigned_name (assignment_view a)) → new ≡ old ++ added ∷ [] → all ≡ map mention_view new ++ assigned s (drop (i + 1) xs)
assigned_added all old new added s xs i a h e was v p =
    listed_more all (map mention_view old) (map mention_view new) (mention_in s (assigned_name (assignment_view a)) ∷ []) (assigned s (drop i xs)) (assigned s (drop (i + 1) xs)) was
    (ap (assigned s) (drop_at xs i a h e)) (pushed mention_view old new added (mention_in s (assigned_name (assignment_view a))) p v)

pub headings_end : (s : Source) (ms : List code_module.Module) (i : ℕ) → length ms ≤ i → headings s (drop i ms) ≡ []
headings_end s ms i h = ap (headings s) (drop_all i ms h)

pub texts_end : (ss : List code_source.Source) (i : ℕ) → length ss ≤ i → all_module_names (map source_view (drop i ss)) ≡ []
texts_end ss i h = ap (λ l. all_module_names (map source_view l)) (drop_all i ss h)

pub assigned_end : (s : Source) (xs : List code_assignment.Assignment) (i : ℕ) → length xs ≤ i → assigned s (drop i xs) ≡ []
assigned_end s xs i h = ap (assigned s) (drop_all i xs h)
