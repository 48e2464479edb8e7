-- Named numbers and tags, read one at a time.
use Rattle.std.proofs.Common.{◌≡◌, ◌≢◌, List, [], ◌∷◌, ◌++◌, drop, Bool, true, Some, None, refl, sym, ap, subst, ◌∙◌}
use Rattle.asn_lexer.specs.declared.kind.Kind.{Kind}
use Rattle.asn_lexer.specs.declared.kind.Kind.TheVariants as kind
use Rattle.asn_lexer.specs.declared.token.Token.{Token}
use Rattle.asn_modules_grammar.specs.headers.Fronts.{first_is}
use Rattle.asn_modules_grammar.specs.notation.Kinds.{first_kind, is_open_bracket}
use Rattle.asn_modules_grammar.specs.notation.Lists.{Listed}
use Rattle.asn_modules_grammar.specs.notation.Numbers.{NamedNumbersParse, no_named_numbers, named_numbers, named_number_at}
use Rattle.asn_modules_grammar.specs.notation.Tags.{TagsParse, tag_at, numbered_at, class_by}
use Rattle.asn_modules_grammar.specs.declared.notation.number.NamedNumber.{NamedNumber}
use Rattle.asn_modules_grammar.specs.declared.notation.tag.TagNotation.{TagNotation}
use Rattle.asn_modules_reader.proofs.parts.Repeats.{repeated_step, repeated_none}
use Rattle.asn_modules_reader.proofs.parts.Runs.{Going, going_next, going_none}

-- No named numbers.
pub numbers_bare : (u : List Token) (xs : List NamedNumber) → first_kind u ≢ Some kind.OpenBrace → xs ≡ [] → NamedNumbersParse u xs u
numbers_bare u xs h e = subst (λ z. NamedNumbersParse u z u) (sym e) (no_named_numbers h)

-- All named numbers.
pub numbers_all : (u first rest : List Token) (xs : List NamedNumber) → first_kind u ≡ Some kind.OpenBrace → first ≡ drop 1 u → Listed named_number_at first xs rest → NamedNumbersParse u xs rest
numbers_all u first rest xs h e p = named_numbers h (subst (λ z. Listed named_number_at z xs rest) e p)

pub numbers_none : (u first here : List Token) (seen : List NamedNumber) → first_kind u ≡ Some kind.OpenBrace → first ≡ drop 1 u → Going (Listed named_number_at) first here seen
    → ((xs : List NamedNumber) (rest : List Token) → Listed named_number_at here xs rest → ⊥) → (ys : List NamedNumber) (rest : List Token) → NamedNumbersParse u ys rest → ⊥
numbers_none u first here seen h e g none ys rest (no_named_numbers k) = k h
numbers_none u first here seen h e g none ys rest (named_numbers k p) = going_none (Listed named_number_at) first here seen g none ys rest (subst (λ z. Listed named_number_at z ys rest) (sym e) p)

first_taken : (b : Kind → Bool) (u v : List Token) (t : Token) → u ≡ t ∷ v → b t.kind ≡ true → first_is b u ≡ true
first_taken b u v t e h = ap (first_is b) e ∙ h

-- One tag more.
pub tags_next : (start here inner there : List Token) (seen more : List TagNotation) (t : Token) (x : TagNotation) → Going TagsParse start here seen → here ≡ t ∷ inner → is_open_bracket t.kind ≡ true
    → numbered_at (class_by (first_kind inner) inner) ≡ Some (x, there) → more ≡ seen ++ x ∷ [] → Going TagsParse start there more
tags_next start here inner there seen more t x g e h a m =
    going_next TagsParse start here there seen more x g (repeated_step is_open_bracket tag_at here there x (first_taken is_open_bracket here inner t e h) (ap tag_at e ∙ a)) m

pub tags_none : (start here inner : List Token) (seen : List TagNotation) (t : Token) → Going TagsParse start here seen → here ≡ t ∷ inner → is_open_bracket t.kind ≡ true
    → numbered_at (class_by (first_kind inner) inner) ≡ None → (xs : List TagNotation) (rest : List Token) → TagsParse start xs rest → ⊥
tags_none start here inner seen t g e h a xs rest p =
    going_none TagsParse start here seen g (repeated_none is_open_bracket tag_at here (first_taken is_open_bracket here inner t e h) (ap tag_at e ∙ a)) xs rest p
