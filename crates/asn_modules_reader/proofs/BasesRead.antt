-- Types without tags that a reader goes over, by what begins them.
use Rattle.std.proofs.Common.{◌≡◌, ◌++◌, ℕ, List, ◌∷◌, map, true, nat_le, Option, Some, None, Ok, Err, refl, sym, ap, subst, ◌∙◌, append-nil}
use Rattle.std.specs.Prelude.{Result}
use Rattle.std.specs.Borrow.{Bor}
use Rattle.std.specs.Global.{Vec}
use Rattle.std.specs.List.{count_by}
use Rattle.asn_modules_grammar.specs.declared.headers.fault.SyntaxFault.{SyntaxFault}
use Rattle.asn_lexer.specs.declared.token.Token.{Token}
use Rattle.asn_modules_grammar.specs.notation.Grammar.{BaseParses, leaf_parses}
use Rattle.asn_modules_grammar.specs.notation.Notation as spec
use Rattle.asn_modules_grammar.specs.notation.Numbers.{ItemsParse, no_items, some_items, is_item_marker}
use Rattle.asn_modules_grammar.specs.notation.Starts.{Start}
use Rattle.asn_modules_grammar.specs.notation.View.{items_view}
use Rattle.asn_modules_grammar.specs.declared.notation.leaf.Leaf.{Leaf}
use Rattle.asn_modules_grammar.specs.declared.notation.notation.Base.{Base}
use Rattle.asn_modules_grammar.specs.declared.notation.number.Item.{Item}
use Rattle.asn_modules_reader.specs.parts.EntryLists.{behind_first}
use Rattle.asn_modules_reader.specs.parts.Reading.{Reads}
use Rattle.asn_modules_reader.proofs.parts.EntriesSeen.{two_markers}
use Rattle.asn_modules_reader.proofs.parts.ItemsRead.{counted_alike}
use Rattle.asn_modules_reader.proofs.parts.Repeats.{true_false}
use Rattle.asn_modules_reader.specs.Views.{base_view}
use Rattle.asn_modules_reader.proofs.Notations.{enumerated_at}

-- The same of another name of the start, and of the base.
pub base_as : (limit level : ℕ) (u rest : List Token) (s k : Start) (b d : spec.Base) → s ≡ k → b ≡ d → BaseParses limit level k u d rest → BaseParses limit level s u b rest
base_as limit level u rest s k b d e f p = subst (λ z. BaseParses limit level z u b rest) (sym e) (subst (λ z. BaseParses limit level k u z rest) (sym f) p)

pub none_as : (limit level : ℕ) (u : List Token) (s k : Start) → s ≡ k → ((b : spec.Base) (rest : List Token) → BaseParses limit level k u b rest → ⊥) → (b : spec.Base) (rest : List Token) → BaseParses limit level s u b rest → ⊥
none_as limit level u s k e none b rest p = none b rest (subst (λ z. BaseParses limit level z u b rest) e p)

pub leaf_base : (limit level : ℕ) (u : List Token) (s : Start) (l : Leaf) (b : spec.Base) → s ≡ Start.leaf l → b ≡ spec.leaf l → BaseParses limit level s u b u
leaf_base limit level u s l b e f = base_as limit level u u s (Start.leaf l) b (spec.leaf l) e f leaf_parses

pub reads_as : (limit level : ℕ) (u : List Token) (s k : Start) (r : Result (Base × Bor (List Token)) SyntaxFault) → s ≡ k → Reads base_view (BaseParses limit level k u) r → Reads base_view (BaseParses limit level s u) r
reads_as limit level u s k r e p = subst (λ z. Reads base_view (BaseParses limit level z u) r) (sym e) p

pub enumerated_reads : (limit level : ℕ) (u : List Token) (s : Start) (r : Result (Base × Bor (List Token)) SyntaxFault) → s ≡ Start.enumerated → Reads base_view (BaseParses limit 0 Start.enumerated u) r → Reads base_view (BaseParses limit level s u) r
enumerated_reads limit level u s (Ok found) e p = subst (λ z. BaseParses limit level z u (base_view found.0) found.1.now) (sym e) (enumerated_at limit 0 level u found.1.now (base_view found.0) p)
enumerated_reads limit level u s (Err f) e p = λ syntax b rest q. p syntax b rest (enumerated_at limit level 0 u rest b (subst (λ z. BaseParses limit level z u b rest) e q))

pub few_items : {u rest : List Token} {items : List (Option Item)} → ItemsParse u items rest → nat_le (count_by is_item_marker items) 1 ≡ true
few_items (no_items h) = refl
few_items (some_items p m) = m

-- Items with at most one marker.
pub items_seen : (root : Vec Item) (added tail : Option (Vec Item)) → nat_le (count_by is_item_marker (map (λ x. Some x) root.items ++ behind_first added tail)) 1 ≡ true
    → items_view root added ≡ map (λ x. Some x) root.items ++ behind_first added tail
items_seen root None tail h = sym (append-nil (map (λ x. Some x) root.items))
items_seen root (Some a) None h = ap (λ l. map (λ x. Some x) root.items ++ None ∷ l) (sym (append-nil (map (λ x. Some x) a.items)))
items_seen root (Some a) (Some t) h =
    let e = counted_alike (map (λ x. Some x) root.items ++ behind_first (Some a) (Some t)) ∙ two_markers root a t (Some a) (Some t) refl refl in
    absurd (true_false (sym h ∙ ap (λ n. nat_le n 1) e))
