-- Tokens stand for at most one type and rest, and a whole text for at most one list of modules.
use Rattle.std.proofs.Common.{◌≡◌, ◌≢◌, ℕ, suc, List, [], ◌∷◌, drop, Bool, true, false, ◌&&◌, if◌then◌else◌, Option, Some, None, refl, sym, ap, subst, ◌∙◌}
use Rattle.std.specs.Option.{option_map}
use Rattle.asn_lexer.specs.declared.keyword.Keyword.TheVariants as keyword
use Rattle.asn_lexer.specs.declared.kind.Kind.{Kind}
use Rattle.asn_lexer.specs.declared.kind.Kind.TheVariants as kind
use Rattle.asn_lexer.specs.declared.token.Token.{Token}
use Rattle.asn_modules_grammar.specs.headers.Fronts.{first_is, first_of}
use Rattle.asn_modules_grammar.specs.headers.Groups.{past_groups, past_optional_braces}
use Rattle.asn_modules_grammar.specs.declared.headers.group.Group.TheVariants.{Braces}
use Rattle.asn_modules_grammar.specs.headers.Headers.{HeaderParses}
use Rattle.asn_modules_grammar.proofs.headers.HeadersRead.{same_header}
use Rattle.asn_modules_grammar.proofs.headers.Imports.{some_same}
use Rattle.asn_modules_grammar.specs.notation.Grammar.{NotationParses, notation_parses, BaseParses, leaf_parses, reference_parses, instance_parses, ArgumentsParse, other_arguments, last_argument, next_argument, unlike_argument, integer_parses, bit_string_parses, enumerated_parses, members_parse, list_parses, choice_parses, MemberParses, component_parses, components_of_parses, marker_parses, group_parses, MembersParse, last_member, next_member, BracesParse, no_members_parse, some_members_parse, sizes_of}
use Rattle.asn_modules_grammar.specs.notation.Kinds.{assigned_at, first_kind, token_at, is_component_word, is_syntax}
use Rattle.asn_modules_grammar.specs.notation.Lists.{Repeated, no_more, one_more, Listed, last_entry, next_entry}
use Rattle.asn_modules_grammar.specs.notation.Macros.{assigned_value_at, clauses_at, is_capital, is_macro, macro_named, macro_type, macro_value_at, opens_clause, past_definition}
use Rattle.asn_modules_grammar.specs.notation.Modules.{Assignment, type_assignment, value_assignment, Module, AssignedParses, plain_parses, syntax_parses, clauses_parse, macro_at, BodyParses, type_parses, macro_parses, value_parses, assigned_by, AssignmentParses, assignment_parses, AssignmentsParse, no_assignments, next_assignment, ModulesParse, no_modules, next_module, TextParses, modules_parse, assignments_parse}
use Rattle.asn_modules_grammar.specs.notation.Notation.{Notation, Base, Member, notation, integer, bit_string, enumerated, members, list_of, choice, all_types, instance_or, component, components_of, group, members_of}
use Rattle.asn_modules_grammar.specs.notation.Numbers.{NamedNumbersParse, no_named_numbers, named_numbers, ItemsParse, no_items, some_items, item_at, item_by}
use Rattle.asn_modules_grammar.specs.notation.Sizes.{of_at, of_by}
use Rattle.asn_modules_grammar.specs.notation.Starts.{Start, start_at}
use Rattle.asn_modules_grammar.specs.notation.Values.{presence_at}
use Rattle.asn_modules_grammar.specs.declared.notation.number.Item.{Item}
use Rattle.asn_modules_grammar.specs.declared.notation.number.NamedNumber.{NamedNumber}

true_false : true ≡ false → ⊥
true_false e = cc

none_some : {A : Type 0} {x : A} {o : Option A} → o ≡ None → o ≡ Some x → ⊥
none_some {A = A} {x = x} a b = let e : ◌≡◌ {A = Option A} None (Some x) = sym a ∙ b in let y : ⊥ = cc in y

-- One of two tokens stands first, and no other.
brace_comma : {o : Option Kind} → o ≡ Some kind.CloseBrace → o ≡ Some kind.Comma → ⊥
brace_comma a b = let e : Some kind.CloseBrace ≡ Some kind.Comma = sym a ∙ b in let y : ⊥ = cc in y

-- Repeated entries are the same.
repeated_along : {A : Type 0} {b : Kind → Bool} {f : List Token → Option (A × List Token)} {u v r : List Token} {xs : List A} → u ≡ v → Repeated b f u xs r → Repeated b f v xs r
repeated_along {b = b} {f = f} {r = r} {xs = xs} e p = subst (λ x. Repeated b f x xs r) e p

pub same_repeated : {A : Type 0} {b : Kind → Bool} {f : List Token → Option (A × List Token)} {u r s : List Token} {xs ys : List A} → Repeated b f u xs r → Repeated b f u ys s → (xs ≡ ys) × (r ≡ s)
same_repeated (no_more a) (no_more c) = (refl, refl)
same_repeated (no_more a) (one_more c f p) = absurd (true_false (sym c ∙ a))
same_repeated (one_more a e p) (no_more c) = absurd (true_false (sym a ∙ c))
same_repeated (one_more {xs = xs} a e p) (one_more {x = y} c f q) =
    let g = some_same e f in
    let h = same_repeated p (repeated_along (sym (ap (λ z. z.1) g)) q) in (ap (λ z. z.0 ∷ xs) g ∙ ap (λ l. y ∷ l) h.0, h.1)

listed_along : {A : Type 0} {f : List Token → Option (A × List Token)} {u v r : List Token} {xs : List A} → u ≡ v → Listed f u xs r → Listed f v xs r
listed_along {f = f} {r = r} {xs = xs} e p = subst (λ x. Listed f x xs r) e p

-- Two facts of what follows an entry, at the same place.
moved : {A : Type 0} {o : Option (A × List Token)} {x y : A} {v w : List Token} {k : Kind} → o ≡ Some (x, v) → o ≡ Some (y, w) → first_kind w ≡ Some k → first_kind v ≡ Some k
moved {k = k} a b h = subst (λ z. first_kind z ≡ Some k) (sym (ap (λ p. p.1) (some_same a b))) h

pub same_listed : {A : Type 0} {f : List Token → Option (A × List Token)} {u r s : List Token} {xs ys : List A} → Listed f u xs r → Listed f u ys s → (xs ≡ ys) × (r ≡ s)
same_listed (last_entry a h) (last_entry b k) = let g = some_same a b in (ap (λ z. z.0 ∷ []) g, ap (λ z. drop 1 z.1) g)
same_listed (last_entry a h) (next_entry b k q) = absurd (brace_comma h (moved a b k))
same_listed (next_entry a h p) (last_entry b k) = absurd (brace_comma (moved a b k) h)
same_listed (next_entry {xs = xs} a h p) (next_entry {x = y} b k q) =
    let g = some_same a b in
    let i = same_listed p (listed_along (sym (ap (λ z. drop 1 z.1) g)) q) in (ap (λ z. z.0 ∷ xs) g ∙ ap (λ l. y ∷ l) i.0, i.1)

pub same_named_numbers : {u r s : List Token} {ns ms : List NamedNumber} → NamedNumbersParse u ns r → NamedNumbersParse u ms s → (ns ≡ ms) × (r ≡ s)
same_named_numbers (no_named_numbers a) (no_named_numbers b) = (refl, refl)
same_named_numbers (no_named_numbers a) (named_numbers b p) = absurd (a b)
same_named_numbers (named_numbers a p) (no_named_numbers b) = absurd (b a)
same_named_numbers (named_numbers a p) (named_numbers b q) = same_listed p q

-- No item begins with a closing brace.
item_brace : (u : List Token) → first_kind u ≡ Some kind.CloseBrace → item_at u ≡ None
item_brace [] h = refl
item_brace (t ∷ u) h = let e : t.kind ≡ kind.CloseBrace = cc in ap (λ k. item_by k t u) e

items_brace : {u r : List Token} {is : List (Option Item)} → Listed item_at u is r → first_kind u ≡ Some kind.CloseBrace → ⊥
items_brace {u = u} (last_entry a h) o = none_some (item_brace u o) a
items_brace {u = u} (next_entry a h p) o = none_some (item_brace u o) a

pub same_items : {u r s : List Token} {is js : List (Option Item)} → ItemsParse u is r → ItemsParse u js s → (is ≡ js) × (r ≡ s)
same_items (no_items a) (no_items b) = (refl, refl)
same_items (no_items a) (some_items p m) = absurd (items_brace p a)
same_items (some_items p m) (no_items a) = absurd (items_brace p a)
same_items (some_items p m) (some_items q n) = same_listed p q

-- No OF stands where a brace opens.
of_brace : (u : List Token) → first_kind u ≡ Some kind.OpenBrace → of_at u ≡ None
of_brace [] h = refl
of_brace (t ∷ u) h = let e : t.kind ≡ kind.OpenBrace = cc in ap (λ k. of_by k (t ∷ u)) e

-- A token that names no component.
other_word : {x : Token × List Token} (u : List Token) (k : Kind) → is_component_word k ≡ false → first_kind u ≡ Some k → token_at is_component_word u ≡ Some x → ⊥
other_word {x = x} [] k n h a = let e : ◌≡◌ {A = Option (Token × List Token)} None (Some x) = a in let y : ⊥ = cc in y
other_word {x = x} (t ∷ u) k n h a =
    let e : t.kind ≡ k = cc in
    let f : is_component_word t.kind ≡ false = ap is_component_word e ∙ n in
    none_some (ap (λ b. if b then Some (t, u) else None) f) a

member_brace : {limit level : ℕ} {fields : Bool} {closing : Kind} {u r : List Token} {m : Member} → MemberParses limit level fields closing u m r → first_kind u ≡ Some kind.CloseBrace → ⊥
member_brace {u = u} (component_parses a d p) o = other_word u kind.CloseBrace refl o a
member_brace (components_of_parses a b d g) o = let e : Some kind.CloseBrace ≡ Some (kind.Reserved keyword.Components) = sym o ∙ a in let y : ⊥ = cc in y
member_brace (marker_parses a) o = let e : Some kind.CloseBrace ≡ Some kind.Ellipsis = sym o ∙ a in let y : ⊥ = cc in y
member_brace (group_parses a d) o = let e : Some kind.CloseBrace ≡ Some kind.OpenVersion = sym o ∙ a in let y : ⊥ = cc in y

members_brace : {limit level : ℕ} {fields : Bool} {closing : Kind} {u r : List Token} {ms : List Member} → MembersParse limit level fields closing u ms r → first_kind u ≡ Some kind.CloseBrace → ⊥
members_brace (last_member p h) o = member_brace p o
members_brace (next_member p h q) o = member_brace p o

-- A kind at the place of the same tokens.
kind_along : {u v : List Token} {k : Kind} → u ≡ v → first_kind v ≡ Some k → first_kind u ≡ Some k
kind_along {k = k} e h = subst (λ y. first_kind y ≡ Some k) (sym e) h

-- No comma closes a list.
version_closes : kind.CloseVersion ≢ kind.Comma
version_closes e = cc

brace_closes : kind.CloseBrace ≢ kind.Comma
brace_closes e = cc

other_kind : {o : Option Kind} {j k : Kind} → o ≡ Some j → o ≡ Some k → j ≡ k
other_kind a b = some_same a b

mutual
  pub same_notation : {limit level : ℕ} {u r s : List Token} {n m : Notation} → NotationParses limit level u n r → NotationParses limit level u m s → (n ≡ m) × (r ≡ s)
  same_notation {limit = limit} {level = level} (notation_parses {tags = tags} {base = base} {constraints = cs} l t a b c) (notation_parses {v = v'} {w = w'} {x = x'} {tags = tags'} {start = start'} {base = base'} {constraints = cs'} l' t' a' b' c') =
      let p = same_repeated t t' in
      let q = some_same a (subst (λ y. start_at y ≡ Some (start', w')) (sym p.1) a') in
      let d = same_base b (subst (λ y. BaseParses limit level y.0 y.1 base' x') (sym q) b') in
      let e = same_repeated c (repeated_along (sym d.1) c') in
      (ap (λ y. notation y base (sizes_of cs)) p.0 ∙ ap (λ y. notation tags' y (sizes_of cs)) d.0 ∙ ap (λ y. notation tags' base' (sizes_of y)) e.0, e.1)

  pub same_base : {limit level : ℕ} {start : Start} {u r s : List Token} {b c : Base} → BaseParses limit level start u b r → BaseParses limit level start u c s → (b ≡ c) × (r ≡ s)
  same_base leaf_parses leaf_parses = (refl, refl)
  same_base (reference_parses h) (reference_parses k) = (refl, refl)
  same_base (reference_parses h) (instance_parses k q) = absurd (h k)
  same_base (instance_parses h p) (reference_parses k) = absurd (k h)
  same_base (instance_parses {home = home} {name = name} h p) (instance_parses k q) = let e = same_arguments p q in (ap (λ ns. instance_or home name (all_types ns)) e.0, e.1)
  same_base (integer_parses p) (integer_parses q) = let e = same_named_numbers p q in (ap integer e.0, e.1)
  same_base (bit_string_parses p) (bit_string_parses q) = let e = same_named_numbers p q in (ap bit_string e.0, e.1)
  same_base (enumerated_parses h p) (enumerated_parses k q) = let e = same_items p q in (ap enumerated e.0, e.1)
  same_base (members_parse {seq = seq} h p) (members_parse k q) = let e = same_braces p q in (ap (λ ms. members seq (members_of ms)) e.0, e.1)
  same_base (members_parse {u = u} h p) (list_parses a q) = absurd (none_some (of_brace u h) a)
  same_base (list_parses {u = u} a p) (members_parse h q) = absurd (none_some (of_brace u h) a)
  same_base {limit = limit} {level = level} (list_parses {seq = seq} a p) (list_parses {rest = rest'} {n = m} b q) =
      let e = same_notation p (subst (λ y. NotationParses limit (suc level) y m rest') (sym (some_same a b)) q) in (ap (list_of seq) e.0, e.1)
  same_base (choice_parses h p) (choice_parses k q) = let e = same_braces p q in (ap (λ ms. choice (members_of ms)) e.0, e.1)

  pub same_arguments : {limit level : ℕ} {u r s : List Token} {ns ms : List (Option Notation)} → ArgumentsParse limit level u ns r → ArgumentsParse limit level u ms s → (ns ≡ ms) × (r ≡ s)
  same_arguments (other_arguments b g) (other_arguments c h) = (refl, some_same g h)
  same_arguments (other_arguments b g) (last_argument c q h) = absurd (true_false (sym c ∙ b))
  same_arguments (other_arguments b g) (next_argument c q h qs) = absurd (true_false (sym c ∙ b))
  same_arguments (other_arguments b g) (unlike_argument c q h k f) = absurd (true_false (sym c ∙ b))
  same_arguments (last_argument b p g) (other_arguments c h) = absurd (true_false (sym b ∙ c))
  same_arguments (last_argument b p g) (last_argument c q h) = let e = same_notation p q in (ap (λ n. Some n ∷ []) e.0, ap (drop 1) e.1)
  same_arguments (last_argument b p g) (next_argument c q h qs) = absurd (brace_comma g (kind_along (same_notation p q).1 h))
  same_arguments (last_argument b p g) (unlike_argument c q h k f) = absurd (h (kind_along (sym (same_notation p q).1) g))
  same_arguments (next_argument b p g ps) (other_arguments c h) = absurd (true_false (sym b ∙ c))
  same_arguments (next_argument b p g ps) (last_argument c q h) = absurd (brace_comma (kind_along (same_notation p q).1 h) g)
  same_arguments {limit = limit} {level = level} {s = s} (next_argument {ns = ns} b p g ps) (next_argument {n = m} {ns = ms} c q h qs) =
      let e = same_notation p q in
      let f = same_arguments ps (subst (λ y. ArgumentsParse limit level (drop 1 y) ms s) (sym e.1) qs) in (ap (λ n. Some n ∷ ns) e.0 ∙ ap (λ l. Some m ∷ l) f.0, f.1)
  same_arguments (next_argument b p g ps) (unlike_argument c q h k f) = absurd (k (kind_along (sym (same_notation p q).1) g))
  same_arguments (unlike_argument b p g k f) (other_arguments c h) = absurd (true_false (sym b ∙ c))
  same_arguments (unlike_argument b p g k f) (last_argument c q h) = absurd (g (kind_along (same_notation p q).1 h))
  same_arguments (unlike_argument b p g k f) (next_argument c q h qs) = absurd (k (kind_along (same_notation p q).1 h))
  same_arguments {s = s} (unlike_argument b p g k f) (unlike_argument c q h l d) =
      let e = same_notation p q in (ap (λ n. Some n ∷ None ∷ []) e.0, some_same f (subst (λ y. past_groups (Braces ∷ []) y ≡ Some s) (sym e.1) d))

  pub same_member : {limit level : ℕ} {fields : Bool} {closing : Kind} {u r s : List Token} {m n : Member} → MemberParses limit level fields closing u m r → MemberParses limit level fields closing u n s → (m ≡ n) × (r ≡ s)
  same_member {limit = limit} {level = level} {fields = fields} (component_parses {name = name} {n = n} {presence = p} a d h) (component_parses {v = v'} {w = w'} {rest = rest'} {name = name'} {n = n'} {presence = p'} a' d' h') =
      let e = some_same a a' in
      let f = same_notation d (subst (λ y. NotationParses limit level y n' w') (sym (ap (λ y. y.1) e)) d') in
      let g = some_same h (subst (λ y. presence_at fields y ≡ Some (p', rest')) (sym f.1) h') in
      (ap (λ y. component y.0 n p) e ∙ ap (λ y. component name' y p) f.0 ∙ ap (λ y. component name' n' y.0) g, ap (λ y. y.1) g)
  same_member {u = u} (component_parses a d h) (components_of_parses b c e g) = absurd (other_word u (kind.Reserved keyword.Components) refl b a)
  same_member {u = u} (component_parses a d h) (marker_parses b) = absurd (other_word u kind.Ellipsis refl b a)
  same_member {u = u} (component_parses a d h) (group_parses b c) = absurd (other_word u kind.OpenVersion refl b a)
  same_member {u = u} (components_of_parses b c e g) (component_parses a d h) = absurd (other_word u (kind.Reserved keyword.Components) refl b a)
  same_member (components_of_parses a b d g) (components_of_parses a' b' d' g') = let e = same_notation d d' in (ap components_of e.0, e.1)
  same_member (components_of_parses a b d g) (marker_parses c) = let e : kind.Reserved keyword.Components ≡ kind.Ellipsis = other_kind a c in let y : ⊥ = cc in absurd y
  same_member (components_of_parses a b d g) (group_parses c f) = let e : kind.Reserved keyword.Components ≡ kind.OpenVersion = other_kind a c in let y : ⊥ = cc in absurd y
  same_member {u = u} (marker_parses b) (component_parses a d h) = absurd (other_word u kind.Ellipsis refl b a)
  same_member (marker_parses c) (components_of_parses a b d g) = let e : kind.Reserved keyword.Components ≡ kind.Ellipsis = other_kind a c in let y : ⊥ = cc in absurd y
  same_member (marker_parses a) (marker_parses b) = (refl, refl)
  same_member (marker_parses a) (group_parses b d) = let e : kind.Ellipsis ≡ kind.OpenVersion = other_kind a b in let y : ⊥ = cc in absurd y
  same_member {u = u} (group_parses b c) (component_parses a d h) = absurd (other_word u kind.OpenVersion refl b a)
  same_member (group_parses c f) (components_of_parses a b d g) = let e : kind.Reserved keyword.Components ≡ kind.OpenVersion = other_kind a c in let y : ⊥ = cc in absurd y
  same_member (group_parses b d) (marker_parses a) = let e : kind.Ellipsis ≡ kind.OpenVersion = other_kind a b in let y : ⊥ = cc in absurd y
  same_member (group_parses a p) (group_parses b q) = let e = same_members p q version_closes in (ap (λ ms. group (members_of ms)) e.0, e.1)

  pub same_members : {limit level : ℕ} {fields : Bool} {closing : Kind} {u r s : List Token} {ms ns : List Member} → MembersParse limit level fields closing u ms r → MembersParse limit level fields closing u ns s → closing ≢ kind.Comma → (ms ≡ ns) × (r ≡ s)
  same_members (last_member p h) (last_member q k) c = let e = same_member p q in (ap (λ m. m ∷ []) e.0, ap (drop 1) e.1)
  same_members {closing = closing} (last_member p h) (next_member q k qs) c = absurd (c (other_kind h (subst (λ y. first_kind y ≡ Some kind.Comma) (sym (same_member p q).1) k)))
  same_members {closing = closing} (next_member p h ps) (last_member q k) c = absurd (c (other_kind (subst (λ y. first_kind y ≡ Some closing) (sym (same_member p q).1) k) h))
  same_members {limit = limit} {level = level} {fields = fields} {closing = closing} {s = s} (next_member {ms = ms} p h ps) (next_member {m = n} {ms = ns} q k qs) c =
      let e = same_member p q in
      let f = same_members ps (subst (λ y. MembersParse limit level fields closing (drop 1 y) ns s) (sym e.1) qs) c in (ap (λ m. m ∷ ms) e.0 ∙ ap (λ l. n ∷ l) f.0, f.1)

  pub same_braces : {limit level : ℕ} {fields : Bool} {u r s : List Token} {ms ns : List Member} → BracesParse limit level fields u ms r → BracesParse limit level fields u ns s → (ms ≡ ns) × (r ≡ s)
  same_braces (no_members_parse a) (no_members_parse b) = (refl, refl)
  same_braces (no_members_parse a) (some_members_parse p h) = absurd (members_brace p a)
  same_braces (some_members_parse p h) (no_members_parse a) = absurd (members_brace p a)
  same_braces (some_members_parse p h) (some_members_parse q k) = same_members p q brace_closes

-- Where clauses end, SYNTAX stands there or not.
ends_alike : {v w : List Token} {x : Option (List Token)} {b c : Bool} (p : Kind → Bool) → x ≡ Some v → x ≡ Some w → first_is p v ≡ b → first_is p w ≡ c → b ≡ c
ends_alike p d e h k = sym h ∙ ap (first_is p) (some_same d e) ∙ k

same_assigned : {limit : ℕ} {u r s : List Token} {m n : Notation} → AssignedParses limit u m r → AssignedParses limit u n s → (m ≡ n) × (r ≡ s)
same_assigned (plain_parses h p) (plain_parses k q) = same_notation p q
same_assigned (plain_parses h p) (syntax_parses k f q) = absurd (none_some h k)
same_assigned (plain_parses h p) (clauses_parse k f g) = absurd (none_some h k)
same_assigned (syntax_parses k f q) (plain_parses h p) = absurd (none_some h k)
same_assigned {limit = limit} {s = s} (syntax_parses h f p) (syntax_parses {n = n} k g q) = same_notation p (subst (λ y. NotationParses limit 0 (drop 1 y) n s) (sym (some_same h k)) q)
same_assigned (syntax_parses h f p) (clauses_parse k g q) = absurd (true_false (ends_alike is_syntax h k f g))
same_assigned (clauses_parse k g q) (plain_parses h p) = absurd (none_some h k)
same_assigned (clauses_parse k g q) (syntax_parses h f p) = absurd (true_false (ends_alike is_syntax h k f g))
same_assigned (clauses_parse h f p) (clauses_parse k g q) = (ap macro_named (some_same p q), some_same h k)

-- `::=` is no macro.
pub assigns_no_macro : (name : Token) (u : List Token) {x : Option (Assignment × List Token)} → first_kind u ≡ Some kind.Assignment → macro_at name u ≡ Some x → ⊥
assigns_no_macro name [] h k = none_some refl k
assigns_no_macro name (t ∷ u) h k =
    let e : t.kind ≡ kind.Assignment = cc in
    none_some (ap (λ i. if is_macro i then Some (option_map (λ v. (type_assignment name macro_type, v)) (past_definition u)) else if is_capital i && first_is opens_clause u then Some (option_map (λ p. (value_assignment name (macro_named t) p.0, p.1)) (macro_value_at name u)) else None) e) k

same_body : {limit : ℕ} {name : Token} {u r s : List Token} {a b : Assignment} → BodyParses limit name u a r → BodyParses limit name u b s → (a ≡ b) × (r ≡ s)
same_body {name = name} (type_parses h i d) (type_parses h' i' d') = let e = same_assigned d d' in (ap (type_assignment name) e.0, e.1)
same_body {name = name} {u = u} (type_parses h i d) (macro_parses m) = absurd (assigns_no_macro name u h m)
same_body (type_parses h i d) (value_parses h' l d' k' x') = absurd (h' h)
same_body {name = name} {u = u} (macro_parses m) (type_parses h i d) = absurd (assigns_no_macro name u h m)
same_body (macro_parses m) (macro_parses n) = let e = some_same refl (some_same m n) in (ap (λ y. y.0) e, ap (λ y. y.1) e)
same_body (macro_parses m) (value_parses h l d k x) = absurd (none_some l m)
same_body (value_parses h' l d' k' x') (type_parses h i d) = absurd (h' h)
same_body (value_parses h l d k x) (macro_parses m) = absurd (none_some l m)
same_body {name = name} (value_parses {x = x} h l d k b) (value_parses {v = w'} {rest = rest'} {n = n'} {x = x'} h' l' d' k' b') =
    let f = same_notation d d' in
    let g = some_same b (subst (λ y. assigned_value_at (drop 1 y) ≡ Some (x', rest')) (sym f.1) b') in
    (ap (λ y. value_assignment name y x) f.0 ∙ ap (λ y. value_assignment name n' y.0) g, ap (λ y. y.1) g)

pub same_assignment : {limit : ℕ} {u r s : List Token} {a b : Assignment} → AssignmentParses limit u a r → AssignmentParses limit u b s → (a ≡ b) × (r ≡ s)
same_assignment {limit = limit} {s = s} (assignment_parses {v = v} {w = w} {a = a} n p d) (assignment_parses {v = v'} {w = w'} {name = name'} {a = a'} n' p' d') =
    let e = some_same n n' in
    let f = some_same p (subst (λ y. past_optional_braces y ≡ Some w') (sym (ap (λ y. y.1) e)) p') in
    let g = same_body d (subst (λ y. BodyParses limit y w a' s) (sym (ap (λ y. y.0) e)) (subst (λ y. BodyParses limit name' y a' s) (sym f) d')) in
    (ap (λ y. assigned_by y.1 a) e ∙ ap (assigned_by v') g.0, g.1)

-- An assignment begins with what something is assigned to.
named : {limit : ℕ} {u r : List Token} {a : Assignment} → AssignmentParses limit u a r → assigned_at u ≡ None → ⊥
named (assignment_parses a p d) n = none_some n a

pub same_assignments : {limit : ℕ} {u r s : List Token} {xs ys : List Assignment} → AssignmentsParse limit u xs r → AssignmentsParse limit u ys s → (xs ≡ ys) × (r ≡ s)
same_assignments (no_assignments a) (no_assignments b) = (refl, refl)
same_assignments (no_assignments a) (next_assignment p ps) = absurd (named p a)
same_assignments (next_assignment p ps) (no_assignments a) = absurd (named p a)
same_assignments {limit = limit} {s = s} (next_assignment {more = xs} p ps) (next_assignment {a = b} {more = ys} q qs) =
    let e = same_assignment p q in
    let f = same_assignments ps (subst (λ y. AssignmentsParse limit y ys s) (sym e.1) qs) in (ap (λ a. a ∷ xs) e.0 ∙ ap (λ l. b ∷ l) f.0, f.1)

headless : {h : _} {r : List Token} → HeaderParses [] h r → ⊥
headless p = let e = p.opening in let y : ⊥ = cc in y

pub same_modules : {limit : ℕ} {u : List Token} {ms ns : List Module} → ModulesParse limit u ms → ModulesParse limit u ns → ms ≡ ns
same_modules no_modules no_modules = refl
same_modules no_modules (next_module h p e ps) = absurd (headless h)
same_modules (next_module h p e ps) no_modules = absurd (headless h)
same_modules {limit = limit} (next_module {h = h} {found = xs} {more = ms} a p e ps) (next_module {v = v'} {w = w'} {h = h'} {found = ys} {more = ns} b q f qs) =
    let i = same_header a b in
    let j = same_assignments p (subst (λ y. AssignmentsParse limit y ys w') (sym i.1) q) in
    let k = same_modules ps (subst (λ y. ModulesParse limit (drop 1 y) ns) (sym j.1) qs) in
    ap (λ y. record { header = Some y; assignments = xs } ∷ ms) i.0 ∙ ap (λ y. record { header = Some h'; assignments = y } ∷ ms) j.0 ∙ ap (λ l. record { header = Some h'; assignments = ys } ∷ l) k

pub same_text : {limit : ℕ} {u : List Token} {ms ns : List Module} → TextParses limit u ms → TextParses limit u ns → ms ≡ ns
same_text (modules_parse a p) (modules_parse b q) = same_modules p q
same_text (modules_parse a p) (assignments_parse b q) = absurd (true_false (sym a ∙ b))
same_text (assignments_parse a p) (modules_parse b q) = absurd (true_false (sym b ∙ a))
same_text (assignments_parse a p) (assignments_parse b q) = ap (λ xs. record { header = None; assignments = xs } ∷ []) (same_assignments p q).0
