-- The types that a reader goes over.
use Rattle.std.proofs.Common.{◌≡◌, ◌≢◌, ◌≤◌, ◌<◌, ℕ, suc, List, [], ◌∷◌, drop, true, false, Option, Some, None, refl, sym, ap, subst, ◌∙◌, arith}
use Rattle.asn_lexer.specs.declared.kind.Kind.TheVariants as kind
use Rattle.asn_lexer.specs.declared.token.Token.{Token}
use Rattle.asn_model.specs.Shape.{SeqKind}
use Rattle.asn_modules_grammar.specs.notation.Grammar.{NotationParses, notation_parses, BaseParses, integer_parses, bit_string_parses, enumerated_parses, members_parse, list_parses, choice_parses, BracesParse, sizes_of}
use Rattle.asn_modules_grammar.specs.notation.Kinds.{first_kind}
use Rattle.asn_modules_grammar.specs.notation.Notation.{Notation, Base, Member, notation, integer, bit_string, enumerated, members, list_of, choice, members_of}
use Rattle.asn_modules_grammar.specs.notation.Numbers.{NamedNumbersParse, ItemsParse}
use Rattle.asn_modules_grammar.specs.notation.Sizes.{of_at, of_by}
use Rattle.asn_modules_grammar.specs.notation.Starts.{Start, start_at}
use Rattle.asn_modules_grammar.specs.notation.Tags.{TagsParse}
use Rattle.asn_modules_grammar.specs.declared.notation.number.Item.{Item}
use Rattle.asn_modules_grammar.specs.declared.notation.number.NamedNumber.{NamedNumber}
use Rattle.asn_modules_grammar.specs.declared.notation.size.Size.{Size}
use Rattle.asn_modules_grammar.specs.declared.notation.tag.TagNotation.{TagNotation}
use Rattle.asn_modules_grammar.proofs.notation.OneText.{same_repeated, same_base}
use Rattle.asn_modules_reader.specs.parts.Sizes.{SizesParse}
use Rattle.asn_modules_reader.proofs.parts.Repeats.{some_same, none_some}

-- A type by its parts.
pub notation_read : (limit level : ℕ) (u v w x rest : List Token) (tags : List TagNotation) (start : Start) (base : Base) (sizes : List Size) → level ≤ limit → TagsParse u tags v → start_at v ≡ Some (start, w)
    → BaseParses limit level start w base x → SizesParse x sizes rest → NotationParses limit level u (notation tags base sizes) rest
notation_read limit level u v w x rest tags start base sizes l t a b c = subst (λ s. NotationParses limit level u (notation tags base s) rest) (sym c.2) (notation_parses l t a b c.1)

pub notation_above : (limit level : ℕ) (u : List Token) → limit < level → (n : Notation) (rest : List Token) → NotationParses limit level u n rest → ⊥
notation_above limit level u h n rest (notation_parses l t a b c) = let y : ⊥ = omega arith in y

pub notation_untagged : (limit level : ℕ) (u : List Token) → ((tags : List TagNotation) (v : List Token) → TagsParse u tags v → ⊥) → (n : Notation) (rest : List Token) → NotationParses limit level u n rest → ⊥
notation_untagged limit level u none n rest (notation_parses {v = v} {tags = tags} l t a b c) = none tags v t

pub notation_unstarted : (limit level : ℕ) (u v : List Token) (tags : List TagNotation) → TagsParse u tags v → start_at v ≡ None → (n : Notation) (rest : List Token) → NotationParses limit level u n rest → ⊥
notation_unstarted limit level u v tags t e n rest (notation_parses l t' a b c) = none_some (ap start_at (sym (same_repeated t t').1) ∙ e) a

pub notation_unbased : (limit level : ℕ) (u v w : List Token) (tags : List TagNotation) (start : Start) → TagsParse u tags v → start_at v ≡ Some (start, w)
    → ((base : Base) (x : List Token) → BaseParses limit level start w base x → ⊥) → (n : Notation) (rest : List Token) → NotationParses limit level u n rest → ⊥
notation_unbased limit level u v w tags start t e none n rest (notation_parses {v = v'} {w = w'} {x = x} {start = s} {base = base} l t' a b c) =
    let f = some_same e (ap start_at (same_repeated t t').1 ∙ a) in
    none base x (subst (λ y. BaseParses limit level y.0 y.1 base x) (sym f) b)

pub notation_unsized : (limit level : ℕ) (u v w x : List Token) (tags : List TagNotation) (start : Start) (base : Base) → TagsParse u tags v → start_at v ≡ Some (start, w) → BaseParses limit level start w base x
    → ((sizes : List Size) (rest : List Token) → SizesParse x sizes rest → ⊥) → (n : Notation) (rest : List Token) → NotationParses limit level u n rest → ⊥
notation_unsized limit level u v w x tags start base t e d none n rest (notation_parses {v = v'} {w = w'} {x = x'} {start = s} {base = base'} {constraints = cs} l t' a b c) =
    let f = some_same e (ap start_at (same_repeated t t').1 ∙ a) in
    let g = same_base d (subst (λ y. BaseParses limit level y.0 y.1 base' x') (sym f) b) in
    none (sizes_of cs) rest (subst (λ y. SizesParse y (sizes_of cs) rest) (sym g.1) (cs, c, refl))

-- Named numbers and bits.
pub integer_read : (limit level : ℕ) (u rest : List Token) (ns : List NamedNumber) → NamedNumbersParse u ns rest → BaseParses limit level Start.integer u (integer ns) rest
integer_read limit level u rest ns p = integer_parses p

pub integer_none : (limit level : ℕ) (u : List Token) → ((ns : List NamedNumber) (rest : List Token) → NamedNumbersParse u ns rest → ⊥) → (b : Base) (rest : List Token) → BaseParses limit level Start.integer u b rest → ⊥
integer_none limit level u none b rest (integer_parses {ns = ns} p) = none ns rest p

pub bit_string_read : (limit level : ℕ) (u rest : List Token) (ns : List NamedNumber) → NamedNumbersParse u ns rest → BaseParses limit level Start.bit_string u (bit_string ns) rest
bit_string_read limit level u rest ns p = bit_string_parses p

pub bit_string_none : (limit level : ℕ) (u : List Token) → ((ns : List NamedNumber) (rest : List Token) → NamedNumbersParse u ns rest → ⊥) → (b : Base) (rest : List Token) → BaseParses limit level Start.bit_string u b rest → ⊥
bit_string_none limit level u none b rest (bit_string_parses {ns = ns} p) = none ns rest p

-- Items.
pub enumerated_read : (limit level : ℕ) (u v rest : List Token) (items : List (Option Item)) → first_kind u ≡ Some kind.OpenBrace → v ≡ drop 1 u → ItemsParse v items rest → BaseParses limit level Start.enumerated u (enumerated items) rest
enumerated_read limit level u v rest items h e p = enumerated_parses h (subst (λ z. ItemsParse z items rest) e p)

pub enumerated_unopened : (limit level : ℕ) (u : List Token) → first_kind u ≢ Some kind.OpenBrace → (b : Base) (rest : List Token) → BaseParses limit level Start.enumerated u b rest → ⊥
enumerated_unopened limit level u h b rest (enumerated_parses k p) = h k

pub enumerated_none : (limit level : ℕ) (u v : List Token) → v ≡ drop 1 u → ((items : List (Option Item)) (rest : List Token) → ItemsParse v items rest → ⊥) → (b : Base) (rest : List Token) → BaseParses limit level Start.enumerated u b rest → ⊥
enumerated_none limit level u v e none b rest (enumerated_parses {items = items} k p) = none items rest (subst (λ z. ItemsParse z items rest) (sym e) p)

-- Items nest nothing.
pub enumerated_at : (limit level other : ℕ) (u rest : List Token) (b : Base) → BaseParses limit level Start.enumerated u b rest → BaseParses limit other Start.enumerated u b rest
enumerated_at limit level other u rest b (enumerated_parses h p) = enumerated_parses h p

-- Members between braces.
pub fields_read : (limit level next : ℕ) (u v rest : List Token) (seq : SeqKind) (ms : List Member) → next ≡ suc level → first_kind u ≡ Some kind.OpenBrace → v ≡ drop 1 u → BracesParse limit next true v ms rest
    → BaseParses limit level (Start.members seq) u (members seq (members_of ms)) rest
fields_read limit level next u v rest seq ms l h e p = members_parse h (subst (λ z. BracesParse limit z true (drop 1 u) ms rest) l (subst (λ z. BracesParse limit next true z ms rest) e p))

of_brace : (u : List Token) → first_kind u ≡ Some kind.OpenBrace → of_at u ≡ None
of_brace [] h = refl
of_brace (t ∷ u) h = let e : t.kind ≡ kind.OpenBrace = cc in ap (λ k. of_by k (t ∷ u)) e

pub fields_none : (limit level next : ℕ) (u v : List Token) (seq : SeqKind) → next ≡ suc level → first_kind u ≡ Some kind.OpenBrace → v ≡ drop 1 u → ((ms : List Member) (rest : List Token) → BracesParse limit next true v ms rest → ⊥)
    → (b : Base) (rest : List Token) → BaseParses limit level (Start.members seq) u b rest → ⊥
fields_none limit level next u v seq l h e none b rest (members_parse {ms = ms} k p) =
    none ms rest (subst (λ z. BracesParse limit z true v ms rest) (sym l) (subst (λ z. BracesParse limit (suc level) true z ms rest) (sym e) p))
fields_none limit level next u v seq l h e none b rest (list_parses a p) = none_some (of_brace u h) a

-- Elements after OF.
pub list_read : (limit level next : ℕ) (u v rest : List Token) (seq : SeqKind) (n : Notation) → next ≡ suc level → of_at u ≡ Some v → NotationParses limit next v n rest → BaseParses limit level (Start.members seq) u (list_of seq n) rest
list_read limit level next u v rest seq n l a p = list_parses a (subst (λ z. NotationParses limit z v n rest) l p)

pub list_unopened : (limit level : ℕ) (u : List Token) (seq : SeqKind) → first_kind u ≢ Some kind.OpenBrace → of_at u ≡ None → (b : Base) (rest : List Token) → BaseParses limit level (Start.members seq) u b rest → ⊥
list_unopened limit level u seq h e b rest (members_parse k p) = h k
list_unopened limit level u seq h e b rest (list_parses a p) = none_some e a

pub list_none : (limit level next : ℕ) (u v : List Token) (seq : SeqKind) → next ≡ suc level → first_kind u ≢ Some kind.OpenBrace → of_at u ≡ Some v → ((n : Notation) (rest : List Token) → NotationParses limit next v n rest → ⊥)
    → (b : Base) (rest : List Token) → BaseParses limit level (Start.members seq) u b rest → ⊥
list_none limit level next u v seq l h e none b rest (members_parse k p) = h k
list_none limit level next u v seq l h e none b rest (list_parses {n = n} a p) =
    none n rest (subst (λ z. NotationParses limit z v n rest) (sym l) (subst (λ z. NotationParses limit (suc level) z n rest) (sym (some_same e a)) p))

-- Alternatives.
pub choice_read : (limit level next : ℕ) (u v rest : List Token) (ms : List Member) → next ≡ suc level → first_kind u ≡ Some kind.OpenBrace → v ≡ drop 1 u → BracesParse limit next false v ms rest
    → BaseParses limit level Start.choice u (choice (members_of ms)) rest
choice_read limit level next u v rest ms l h e p = choice_parses h (subst (λ z. BracesParse limit z false (drop 1 u) ms rest) l (subst (λ z. BracesParse limit next false z ms rest) e p))

pub choice_unopened : (limit level : ℕ) (u : List Token) → first_kind u ≢ Some kind.OpenBrace → (b : Base) (rest : List Token) → BaseParses limit level Start.choice u b rest → ⊥
choice_unopened limit level u h b rest (choice_parses k p) = h k

pub choice_none : (limit level next : ℕ) (u v : List Token) → next ≡ suc level → v ≡ drop 1 u → ((ms : List Member) (rest : List Token) → BracesParse limit next false v ms rest → ⊥)
    → (b : Base) (rest : List Token) → BaseParses limit level Start.choice u b rest → ⊥
choice_none limit level next u v l e none b rest (choice_parses {ms = ms} k p) =
    none ms rest (subst (λ z. BracesParse limit z false v ms rest) (sym l) (subst (λ z. BracesParse limit (suc level) false z ms rest) (sym e) p))
