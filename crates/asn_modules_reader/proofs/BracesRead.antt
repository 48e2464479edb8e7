-- The lists between braces that a reader goes over.
use Rattle.std.proofs.Common.{◌≡◌, ◌≢◌, ◌+◌, ℕ, List, [], ◌∷◌, ◌++◌, map, drop, Bool, true, false, nat_le, cond, Option, Some, None, refl, sym, ap, subst, ◌∙◌, append_assoc, arith}
use Rattle.std.proofs.lemmas.Bool.{leb-true, leb-false}
use Rattle.std.proofs.lemmas.List.Sums.{sum_by-append, sum_by-cons}
use Rattle.std.specs.List.{count_by}
use Rattle.asn_lexer.specs.declared.kind.Kind.TheVariants as kind
use Rattle.asn_lexer.specs.declared.token.Token.{Token}
use Rattle.asn_modules_grammar.specs.notation.Grammar.{MemberParses, MembersParse, BracesParse, no_members_parse, some_members_parse}
use Rattle.asn_modules_grammar.specs.notation.Kinds.{first_kind}
use Rattle.asn_modules_grammar.specs.notation.Notation as spec
use Rattle.asn_modules_grammar.specs.declared.notation.notation.Member.{Member}
use Rattle.asn_modules_reader.specs.parts.EntryLists.{is_marker}
use Rattle.asn_modules_reader.proofs.parts.Runs.{Going, going_none}
use Rattle.asn_modules_reader.specs.Views.{member_seen}
use Rattle.asn_modules_reader.proofs.MembersRead.{members_first}
use Rattle.asn_modules_reader.proofs.Viewing.{member_unmarked}

-- Both say the same of entries.
marker_is : (m : Option Member) → spec.is_marker (member_seen m) ≡ is_marker m
marker_is None = refl
marker_is (Some m) = member_unmarked m

pub counted_alike : (xs : List (Option Member)) → count_by spec.is_marker (map member_seen xs) ≡ count_by is_marker xs
counted_alike [] = refl
counted_alike (x ∷ xs) =
    sum_by-cons (λ y. cond (spec.is_marker y) 1 0) (member_seen x) (map member_seen xs) ∙ ap (λ n. cond (spec.is_marker (member_seen x)) 1 0 + n) (counted_alike xs)
    ∙ ap (λ b. cond b 1 0 + count_by is_marker xs) (marker_is x) ∙ sym (sum_by-cons (λ y. cond (is_marker y) 1 0) x xs)

over : (seen : List (Option Member)) (xs : List spec.Member) (n : ℕ) → nat_le (count_by is_marker seen) n ≡ false → nat_le (count_by spec.is_marker (map member_seen seen ++ xs)) n ≡ true → ⊥
over seen xs n a b =
    let c = counted_alike seen in
    let d = sum_by-append (λ x. cond (spec.is_marker x) 1 0) (map member_seen seen) xs in
    let e = leb-false (count_by is_marker seen) n a in
    let f = leb-true (count_by spec.is_marker (map member_seen seen ++ xs)) n b in
    let y : ⊥ = omega arith in y

map_join : {A B : Type 0} (f : A → B) (xs ys : List A) → map f (xs ++ ys) ≡ map f xs ++ map f ys
map_join f [] ys = refl
map_join f (x ∷ xs) ys = ap (λ l. f x ∷ l) (map_join f xs ys)

-- What was read has the entry after the others.
pub more_seen : (seen more : List (Option Member)) (m : Option Member) → more ≡ seen ++ m ∷ [] → map member_seen more ≡ map member_seen seen ++ member_seen m ∷ []
more_seen seen more m e = ap (map member_seen) e ∙ map_join member_seen seen (m ∷ [])

-- No entries.
pub braces_empty : (limit level : ℕ) (fields : Bool) (u v : List Token) (xs : List spec.Member) (es : List (Option Member)) → first_kind u ≡ Some kind.CloseBrace → v ≡ drop 1 u → es ≡ [] → xs ≡ map member_seen es → BracesParse limit level fields u xs v
braces_empty limit level fields u v xs es h e n m =
    subst (λ z. BracesParse limit level fields u z v) (sym (m ∙ ap (map member_seen) n)) (subst (λ z. BracesParse limit level fields u [] z) (sym e) (no_members_parse h))

-- All entries.
pub braces_all : (limit level : ℕ) (fields : Bool) (u v : List Token) (xs : List spec.Member) (es : List (Option Member)) → MembersParse limit level fields kind.CloseBrace u (map member_seen es) v → nat_le (count_by is_marker es) 2 ≡ true
    → xs ≡ map member_seen es → BracesParse limit level fields u xs v
braces_all limit level fields u v xs es p m e =
    subst (λ z. BracesParse limit level fields u z v) (sym e) (some_members_parse p (ap (λ n. nat_le n 2) (counted_alike es) ∙ m))

-- None are a list where none stand from here on.
pub braces_none : (limit level : ℕ) (fields : Bool) (u here : List Token) (seen : List spec.Member) → first_kind u ≢ Some kind.CloseBrace → Going (MembersParse limit level fields kind.CloseBrace) u here seen
    → ((xs : List spec.Member) (rest : List Token) → MembersParse limit level fields kind.CloseBrace here xs rest → ⊥) → (ys : List spec.Member) (rest : List Token) → BracesParse limit level fields u ys rest → ⊥
braces_none limit level fields u here seen c g none ys rest (no_members_parse h) = c h
braces_none limit level fields u here seen c g none ys rest (some_members_parse p m) = going_none (MembersParse limit level fields kind.CloseBrace) u here seen g none ys rest p

-- With this entry there are too many markers.
pub braces_over : (limit level : ℕ) (fields : Bool) (u here behind : List Token) (seen : List (Option Member)) (m : Option Member) → first_kind u ≢ Some kind.CloseBrace
    → Going (MembersParse limit level fields kind.CloseBrace) u here (map member_seen seen) → MemberParses limit level fields kind.CloseBrace here (member_seen m) behind → nat_le (count_by is_marker (seen ++ m ∷ [])) 2 ≡ false
    → (ys : List spec.Member) (rest : List Token) → BracesParse limit level fields u ys rest → ⊥
braces_over limit level fields u here behind seen m c g p n ys rest (no_members_parse h) = c h
braces_over limit level fields u here behind seen m c g p n ys rest (some_members_parse q k) =
    let b = g.backward ys rest q in
    let f = members_first p b.1 in
    over (seen ++ m ∷ []) f.0 2 n
    (subst (λ z. nat_le (count_by spec.is_marker z) 2 ≡ true)
    (b.2 ∙ ap (λ z. map member_seen seen ++ z) f.1 ∙ sym (append_assoc (map member_seen seen) (member_seen m ∷ []) f.0) ∙ ap (λ z. z ++ f.0) (sym (map_join member_seen seen (m ∷ [])))) k)
