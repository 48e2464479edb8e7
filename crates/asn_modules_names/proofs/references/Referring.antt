-- The names that members refer to, by what they hold.
use Rattle.std.proofs.Common.{◌≡◌, ℕ, ◌+◌, ◌<◌, ◌≤◌, refl, ap, sym, ◌∙◌, List, [], ◌∷◌, ◌++◌, map, Option, Some, None, append_assoc, append-nil, get_or, drop, length}
use Rattle.std.proofs.lemmas.List.{drop_all}
use Rattle.std.specs.Global.{Vec}
use Rattle.std.specs.List.{cons_option}
use Rattle.asn_modules_names.specs.declared.lookup.sort.Sort.{Sort}
use Rattle.asn_lexer.specs.declared.token.Token.{Token}
use Rattle.asn_modules_names.proofs.Founds.{drop_at, listed_more}
use Rattle.asn_modules_grammar.specs.notation.Notation.{Member, members_of}
use Rattle.asn_modules_grammar.specs.notation.View.{assignment_view, component_view, members_view}
use Rattle.asn_modules_grammar.specs.declared.notation.module.Assignment as code_assignment
use Rattle.asn_modules_grammar.specs.declared.notation.notation.Component as code_component
use Rattle.asn_modules_grammar.specs.declared.notation.notation.Extension.{Extension, out-Extension}
use Rattle.asn_modules_grammar.specs.declared.notation.notation.Member as code
use Rattle.asn_modules_grammar.specs.declared.notation.notation.Members.{Members, out-Members}
use Rattle.asn_modules_reader.specs.Views.{member_view}
use Rattle.asn_modules_names.specs.references.References.{all_references, member_references, members_references, references_as}
use Rattle.asn_modules_names.specs.references.Extensions.{entries_references, extension_references, tail_references}
use Rattle.asn_modules_names.proofs.references.Outs.{extension_seen, members_out, tail_seen}

references_join : (xs ys : List Member) → members_references (members_of (xs ++ ys)) ≡ members_references (members_of xs) ++ members_references (members_of ys)
references_join [] ys = refl
references_join (x ∷ xs) ys = ap (λ l. member_references x ++ l) (references_join xs ys) ∙ sym (append_assoc (member_references x) (members_references (members_of xs)) (members_references (members_of ys)))

tail_is : (tail : Option (Vec code.Member)) → members_references (members_of (tail_seen tail)) ≡ tail_references tail
tail_is None = refl
tail_is (Some ms) = refl

extension_is : (extension : Option Extension) → members_references (members_of (extension_seen extension)) ≡ extension_references extension
extension_is None = refl
extension_is (Some e) =
    references_join (map member_view (out-Extension e).additions.items) (tail_seen (out-Extension e).tail)
    ∙ ap (λ l. entries_references (out-Extension e).additions.items ++ l) (tail_is (out-Extension e).tail)

-- Of members: those of their root, and those after the extension marker.
pub members_references_out : (m : Members) → members_references (members_of (members_view m)) ≡ entries_references (out-Members m).root.items ++ extension_references (out-Members m).extension
members_references_out m =
    ap (λ l. members_references (members_of l)) (members_out m)
    ∙ references_join (map member_view (out-Members m).root.items) (extension_seen (out-Members m).extension)
    ∙ ap (λ l. entries_references (out-Members m).root.items ++ l) (extension_is (out-Members m).extension)

-- One entry more.
pub entry_added : (all before after : List Token) (ms : List code.Member) (i : ℕ) (m : code.Member) → i < length ms → m ≡ get_or ms i m → all ≡ before ++ entries_references (drop i ms) → after ≡ before ++ member_references (member_view m)
    → all ≡ after ++ entries_references (drop (i + 1) ms)
entry_added all before after ms i m h e was a =
    listed_more all before after (member_references (member_view m)) (entries_references (drop i ms)) (entries_references (drop (i + 1) ms)) was (ap entries_references (drop_at ms i m h e)) a

pub entries_end : (ms : List code.Member) (i : ℕ) → length ms ≤ i → entries_references (drop i ms) ≡ []
entries_end ms i h = ap entries_references (drop_all i ms h)

-- Of components.
abbrev pub components_references : List code_component.Component → List Token
components_references cs = members_references (members_of (map component_view cs))

pub component_added : (all before after : List Token) (cs : List code_component.Component) (i : ℕ) (x : code_component.Component) → i < length cs → x ≡ get_or cs i x → all ≡ before ++ components_references (drop i cs)
    → after ≡ before ++ member_references (component_view x) → all ≡ after ++ components_references (drop (i + 1) cs)
component_added all before after cs i x h e was a =
    listed_more all before after (member_references (component_view x)) (components_references (drop i cs)) (components_references (drop (i + 1) cs)) was (ap components_references (drop_at cs i x h e)) a

pub components_end : (cs : List code_component.Component) (i : ℕ) → length cs ≤ i → components_references (drop i cs) ≡ []
components_end cs i h = ap components_references (drop_all i cs h)

-- Of assignments.
abbrev pub assignments_references : Sort → List code_assignment.Assignment → List Token
assignments_references sort xs = all_references sort (map assignment_view xs)

pub assignment_added : (all before after : List Token) (sort : Sort) (xs : List code_assignment.Assignment) (i : ℕ) (x : code_assignment.Assignment) → i < length xs → x ≡ get_or xs i x → all ≡ before ++ assignments_references sort (drop i xs)
    → after ≡ before ++ references_as sort (assignment_view x) → all ≡ after ++ assignments_references sort (drop (i + 1) xs)
assignment_added all before after sort xs i x h e was a =
    listed_more all before after (references_as sort (assignment_view x)) (assignments_references sort (drop i xs)) (assignments_references sort (drop (i + 1) xs)) was (ap (assignments_references sort) (drop_at xs i x h e)) a

pub assignments_end : (sort : Sort) (xs : List code_assignment.Assignment) (i : ℕ) → length xs ≤ i → assignments_references sort (drop i xs) ≡ []
assignments_end sort xs i h = ap (assignments_references sort) (drop_all i xs h)

-- None is added, or one.
pub none_added : (new old : List Token) (o : Option Token) → new ≡ old → o ≡ None → new ≡ old ++ cons_option o []
none_added new old o e n = e ∙ sym (append-nil old) ∙ ap (λ x. old ++ cons_option x []) (sym n)

pub one_added : (new old : List Token) (o : Option Token) (t : Token) → new ≡ old ++ t ∷ [] → o ≡ Some t → new ≡ old ++ cons_option o []
one_added new old o t e n = e ∙ ap (λ x. old ++ cons_option x []) (sym n)

-- Those of the root and then of what stands after the extension marker are those of the members.
pub both_added : (m : Members) (old between new : List Token) (e : Extension) → between ≡ old ++ entries_references (out-Members m).root.items → (out-Members m).extension ≡ Some e → new ≡ between ++ extension_references (Some e)
    → new ≡ old ++ members_references (members_of (members_view m))
both_added m old between new e b s n =
    n ∙ ap (λ l. l ++ extension_references (Some e)) b ∙ append_assoc old (entries_references (out-Members m).root.items) (extension_references (Some e))
    ∙ ap (λ o. old ++ (entries_references (out-Members m).root.items ++ extension_references o)) (sym s) ∙ ap (λ l. old ++ l) (sym (members_references_out m))
