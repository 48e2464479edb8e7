-- The names that stand after COMPONENTS OF in what is held.
use Rattle.std.proofs.Common.{◌≡◌, refl, ap, ◌∙◌, List, [], ◌++◌, map, Option, Some, None, append_assoc}
use Rattle.std.specs.List.{cons_option}
use Rattle.asn_modules_rules.specs.included.Behind.{behind, members_behind, name_of}
use Rattle.asn_modules_rules.specs.declared.included.names.TypeName.{TypeName}
use Rattle.asn_modules_grammar.specs.notation.Notation.{Notation, members_of}
use Rattle.asn_modules_grammar.specs.notation.View.{component_view}
use Rattle.asn_modules_grammar.specs.declared.notation.notation.Component.{Component}

abbrev pub components_behind : List Component → List TypeName
components_behind cs = members_behind (members_of (map component_view cs))

put_first : {A : Type 0} (o : Option A) (xs : List A) → cons_option o [] ++ xs ≡ cons_option o xs
put_first None xs = refl
put_first (Some x) xs = refl

-- A name, and then those within it.
pub included_added : (old between new : List TypeName) (o : Option TypeName) (n : Notation) → o ≡ name_of n → between ≡ old ++ cons_option o [] → new ≡ between ++ behind n → new ≡ old ++ cons_option (name_of n) (behind n)
included_added old between new o n e b m =
    m ∙ ap (λ l. l ++ behind n) b ∙ append_assoc old (cons_option o []) (behind n) ∙ ap (λ l. old ++ l) (put_first o (behind n)) ∙ ap (λ x. old ++ cons_option x (behind n)) e
