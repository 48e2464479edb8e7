-- Entries that were listed so far.
use Rattle.std.proofs.Common.{◌≡◌, ◌≤◌, ℕ, ◌+◌, ◌<◌, List, [], ◌∷◌, ◌++◌, map, sym, ap, ◌∙◌, get_or, drop, length, add-one}
use Rattle.std.proofs.lemmas.List.{drop_all, drop_more}
use Rattle.std.specs.Borrow.{Bor}
use Rattle.asn_modules_errors.specs.Slices.{text_of}
use Rattle.asn_modules_names.proofs.Founds.{drop_at, listed_more, pushed}
use Rattle.asn_modules_types.specs.named_numbers.Entries.{entries_in, entries_of}
use Rattle.asn_modules_types.specs.named_numbers.Named.{numbers_in}
use Rattle.asn_modules_types.specs.named_numbers.Views.{entry_view, type_view}
use Rattle.asn_modules_types.specs.declared.named_numbers.entries.StatedType.{StatedType}
use Rattle.asn_modules_grammar.specs.notation.View.{notation_view}
use Rattle.asn_modules_grammar.specs.declared.notation.number.Constant.{Constant}
use Rattle.asn_modules_grammar.specs.declared.notation.number.NamedNumber.{NamedNumber}

-- Those of a type.
pub number_added : (all : List ((ℕ × List ℕ) × Constant)) (old new : List ((ℕ × Bor (List ℕ)) × Constant)) (k : ℕ) (text : List ℕ) (name : Bor (List ℕ)) (ns : List NamedNumber) (i : ℕ) (d : NamedNumber) → i < length ns → all ≡ map entry_view old ++ entries_in k text (drop i ns)
    → name.now ≡ text_of text (get_or ns i d).name → new ≡ old ++ ((k, name), (get_or ns i d).number) ∷ [] → all ≡ map entry_view new ++ entries_in k text (drop (i + 1) ns)
number_added all old new k text name ns i d l was b p =
    let n = get_or ns i d in
    listed_more all (map entry_view old) (map entry_view new) (((k, text_of text n.name), n.number) ∷ []) (entries_in k text (drop i ns)) (entries_in k text (drop (i + 1) ns)) was
    (ap (entries_in k text) (drop_more ns i d l)) (pushed entry_view old new ((k, name), n.number) ((k, text_of text n.name), n.number) p (ap (λ x. ((k, x), n.number)) b))

pub numbers_end : (k : ℕ) (text : List ℕ) (ns : List NamedNumber) (i : ℕ) → length ns ≤ i → entries_in k text (drop i ns) ≡ []
numbers_end k text ns i l = ap (entries_in k text) (drop_all i ns l)

-- Those of all types, from a number on.
abbrev pub entries_from : List StatedType → ℕ → List ((ℕ × List ℕ) × Constant)
entries_from ts i = entries_of i (map type_view (drop i ts))

pub types_added : (all before after : List ((ℕ × List ℕ) × Constant)) (ts : List StatedType) (i : ℕ) (t : StatedType) → i < length ts → t ≡ get_or ts i t → all ≡ before ++ entries_from ts i
    → after ≡ before ++ entries_in i t.text.now (numbers_in (notation_view t.notation.now)) → all ≡ after ++ entries_from ts (i + 1)
types_added all before after ts i t l e was a =
    listed_more all before after (entries_in i t.text.now (numbers_in (notation_view t.notation.now))) (entries_from ts i) (entries_from ts (i + 1)) was
    (ap (λ x. entries_of i (map type_view x)) (drop_at ts i t l e)
    ∙ ap (λ k. entries_in i t.text.now (numbers_in (notation_view t.notation.now)) ++ entries_of k (map type_view (drop (i + 1) ts))) (sym (add-one i))) a

pub types_end : (ts : List StatedType) (i : ℕ) → length ts ≤ i → entries_from ts i ≡ []
types_end ts i h = ap (λ x. entries_of i (map type_view x)) (drop_all i ts h)
