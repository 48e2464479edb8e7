-- The assignments and modules that a reader goes over.
use Rattle.std.proofs.Common.{◌≡◌, ◌≢◌, ℕ, List, [], ◌∷◌, ◌++◌, drop, true, false, ◌&&◌, ◌||◌, if◌then◌else◌, Option, Some, None, refl, sym, ap, subst, ◌∙◌, append_assoc, append-nil}
use Rattle.asn_lexer.specs.declared.keyword.Keyword.TheVariants as keyword
use Rattle.asn_lexer.specs.declared.kind.Kind.TheVariants as kind
use Rattle.asn_lexer.specs.declared.token.Token.{Token}
use Rattle.std.specs.Option.{option_and_then}
use Rattle.asn_modules_grammar.specs.headers.Fronts.{first_is, is_name}
use Rattle.asn_modules_grammar.specs.headers.Groups.{past_optional_braces}
use Rattle.asn_modules_grammar.specs.headers.Headers.{Header, HeaderParses, definitions_at}
use Rattle.asn_modules_grammar.proofs.headers.HeadersRead.{same_header}
use Rattle.asn_modules_grammar.specs.notation.Grammar.{NotationParses}
use Rattle.asn_modules_grammar.specs.notation.Macros.{assigned_value_at}
use Rattle.asn_modules_grammar.specs.notation.Kinds.{assigned_at, assigns_universal, first_kind, is_open_brace, is_small, is_string_type}
use Rattle.asn_modules_grammar.specs.notation.Modules.{Assignment, type_assignment, value_assignment, Module, AssignedParses, macro_at, BodyParses, type_parses, macro_parses, value_parses, parameters_at, with_parameters, assigned_by, AssignmentParses, assignment_parses, AssignmentsParse, no_assignments, next_assignment, ModulesParse, no_modules, next_module, TextParses, modules_parse, assignments_parse, begins_module}
use Rattle.asn_modules_grammar.specs.notation.Notation.{Notation}
use Rattle.asn_modules_grammar.specs.declared.notation.value.Value.{Value}
use Rattle.asn_modules_grammar.proofs.notation.OneText.{same_notation, assigns_no_macro, same_assignment, same_assignments}
use Rattle.asn_modules_reader.proofs.parts.Repeats.{true_false, some_same, none_some}
use Rattle.asn_modules_reader.proofs.parts.Runs.{Step}
use Rattle.asn_modules_reader.specs.Modules.{ModuleParses, module_parses}

pub unnamed : (limit : ℕ) (u : List Token) → assigned_at u ≡ None → (a : Assignment) (rest : List Token) → AssignmentParses limit u a rest → ⊥
unnamed limit u h a rest (assignment_parses n p d) = none_some h n

-- What goes on after a name and its parameters.
pub type_read : (limit : ℕ) (name : Token) (u v rest : List Token) (n : Notation) → first_kind u ≡ Some kind.Assignment → is_small name.kind ≡ false → v ≡ drop 1 u → AssignedParses limit v n rest → BodyParses limit name u (type_assignment name n) rest
type_read limit name u v rest n k i f d = type_parses k i (subst (λ z. AssignedParses limit z n rest) f d)

pub type_none : (limit : ℕ) (name : Token) (u v : List Token) → first_kind u ≡ Some kind.Assignment → v ≡ drop 1 u → ((n : Notation) (rest : List Token) → AssignedParses limit v n rest → ⊥)
    → (a : Assignment) (rest : List Token) → BodyParses limit name u a rest → ⊥
type_none limit name u v k f none a rest (type_parses {n = n} j i d) = none n rest (subst (λ z. AssignedParses limit z n rest) (sym f) d)
type_none limit name u v k f none a rest (macro_parses m) = assigns_no_macro name u k m
type_none limit name u v k f none a rest (value_parses j l d h x) = j k

pub small_none : (limit : ℕ) (name : Token) (u : List Token) → first_kind u ≡ Some kind.Assignment → is_small name.kind ≡ true → (a : Assignment) (rest : List Token) → BodyParses limit name u a rest → ⊥
small_none limit name u k i a rest (type_parses j h d) = true_false (sym i ∙ h)
small_none limit name u k i a rest (macro_parses m) = assigns_no_macro name u k m
small_none limit name u k i a rest (value_parses j l d h x) = j k

pub macro_read : (limit : ℕ) (name : Token) (u rest : List Token) (a : Assignment) → macro_at name u ≡ Some (Some (a, rest)) → BodyParses limit name u a rest
macro_read limit name u rest a m = macro_parses m

pub macro_broken : (limit : ℕ) (name : Token) (u : List Token) → first_kind u ≢ Some kind.Assignment → macro_at name u ≡ Some None → (a : Assignment) (rest : List Token) → BodyParses limit name u a rest → ⊥
macro_broken limit name u k m a rest (type_parses j i d) = k j
macro_broken limit name u k m a rest (macro_parses n) = none_some refl (some_same m n)
macro_broken limit name u k m a rest (value_parses j l d h x) = none_some l m

pub value_read : (limit : ℕ) (name : Token) (u v w rest : List Token) (n : Notation) (value : Value) → first_kind u ≢ Some kind.Assignment → macro_at name u ≡ None → NotationParses limit 0 u n v → first_kind v ≡ Some kind.Assignment → w ≡ drop 1 v
    → assigned_value_at w ≡ Some (value, rest) → BodyParses limit name u (value_assignment name n value) rest
value_read limit name u v w rest n value k m d l f p = value_parses k m d l (ap assigned_value_at (sym f) ∙ p)

pub value_untyped : (limit : ℕ) (name : Token) (u : List Token) → first_kind u ≢ Some kind.Assignment → macro_at name u ≡ None → ((n : Notation) (v : List Token) → NotationParses limit 0 u n v → ⊥)
    → (a : Assignment) (rest : List Token) → BodyParses limit name u a rest → ⊥
value_untyped limit name u k m none a rest (type_parses j i d) = k j
value_untyped limit name u k m none a rest (macro_parses n) = none_some m n
value_untyped limit name u k m none a rest (value_parses {v = v} {n = n} j h d l x) = none n v d

pub value_unassigned : (limit : ℕ) (name : Token) (u v : List Token) (n : Notation) → first_kind u ≢ Some kind.Assignment → macro_at name u ≡ None → NotationParses limit 0 u n v → first_kind v ≢ Some kind.Assignment
    → (a : Assignment) (rest : List Token) → BodyParses limit name u a rest → ⊥
value_unassigned limit name u v n k m d l a rest (type_parses j e c) = k j
value_unassigned limit name u v n k m d l a rest (macro_parses c) = none_some m c
value_unassigned limit name u v n k m d l a rest (value_parses j h c i x) = l (ap first_kind (same_notation d c).1 ∙ i)

pub value_none : (limit : ℕ) (name : Token) (u v w : List Token) (n : Notation) → first_kind u ≢ Some kind.Assignment → macro_at name u ≡ None → NotationParses limit 0 u n v → w ≡ drop 1 v → assigned_value_at w ≡ None
    → (a : Assignment) (rest : List Token) → BodyParses limit name u a rest → ⊥
value_none limit name u v w n k m d f none a rest (type_parses j e c) = k j
value_none limit name u v w n k m d f none a rest (macro_parses c) = none_some m c
value_none limit name u v w n k m d f none a rest (value_parses j h c i p) = none_some (ap assigned_value_at (sym (f ∙ ap (drop 1) (same_notation d c).1)) ∙ none) p

-- An assignment, by what follows its name.
pub unclosed_parameters : (limit : ℕ) (u v : List Token) (name : Token) → assigned_at u ≡ Some (name, v) → past_optional_braces v ≡ None → (a : Assignment) (rest : List Token) → AssignmentParses limit u a rest → ⊥
unclosed_parameters limit u v name e h a rest (assignment_parses n p d) = none_some (ap (λ y. past_optional_braces y.1) (sym (some_same e n)) ∙ h) p

pub bodiless : (limit : ℕ) (u v w : List Token) (name : Token) → assigned_at u ≡ Some (name, v) → past_optional_braces v ≡ Some w → ((a : Assignment) (rest : List Token) → BodyParses limit name w a rest → ⊥)
    → (a : Assignment) (rest : List Token) → AssignmentParses limit u a rest → ⊥
bodiless limit u v w name e p none a rest (assignment_parses {w = w'} {name = name'} {a = b} n q d) =
    let f = some_same e n in
    let g = some_same p (ap (λ y. past_optional_braces y.1) f ∙ q) in
    none b rest (subst (λ y. BodyParses limit y w b rest) (sym (ap (λ y. y.0) f)) (subst (λ y. BodyParses limit name' y b rest) (sym g) d))

assignment_read : (limit : ℕ) (u v w rest : List Token) (name : Token) (a b : Assignment) → assigned_at u ≡ Some (name, v) → past_optional_braces v ≡ Some w → BodyParses limit name w a rest → b ≡ assigned_by v a → AssignmentParses limit u b rest
assignment_read limit u v w rest name a b e p d f = subst (λ y. AssignmentParses limit u y rest) (sym f) (assignment_parses e p d)

pub with_them : (limit : ℕ) (u v w rest : List Token) (name : Token) (a b : Assignment) (ps : Option (List Token)) → assigned_at u ≡ Some (name, v) → past_optional_braces v ≡ Some w → BodyParses limit name w a rest → first_is is_open_brace v ≡ true
    → ps ≡ parameters_at v → b ≡ with_parameters ps a → AssignmentParses limit u b rest
with_them limit u v w rest name a b ps e p d o f g =
    assignment_read limit u v w rest name a b e p d (g ∙ ap (λ y. with_parameters y a) f ∙ sym (ap (λ y. if y then with_parameters (parameters_at v) a else a) o))

pub without_them : (limit : ℕ) (u v w rest : List Token) (name : Token) (a : Assignment) → assigned_at u ≡ Some (name, v) → past_optional_braces v ≡ Some w → BodyParses limit name w a rest → first_is is_open_brace v ≡ false
    → AssignmentParses limit u a rest
without_them limit u v w rest name a e p d o = assignment_read limit u v w rest name a a e p d (sym (ap (λ y. if y then with_parameters (parameters_at v) a else a) o))

-- Assignments in turn.
assignments_behind : {limit : ℕ} {u v rest : List Token} {a : Assignment} {ys : List Assignment} → (assigned_at u ≡ None → ⊥) → AssignmentParses limit u a v → AssignmentsParse limit u ys rest
    → (xs : List Assignment) × AssignmentsParse limit v xs rest × (ys ≡ a ∷ xs)
assignments_behind h p (no_assignments k) = absurd (h k)
assignments_behind {limit = limit} {rest = rest} h p (next_assignment {more = xs} q qs) =
    let e = same_assignment p q in (xs, subst (λ z. AssignmentsParse limit z xs rest) (sym e.1) qs, ap (λ a. a ∷ xs) (sym e.0))

pub assignments_step : (limit : ℕ) (u v : List Token) (a : Assignment) → (assigned_at u ≡ None → ⊥) → AssignmentParses limit u a v → Step (AssignmentsParse limit) u v a
assignments_step limit u v a h p = record { forward = λ xs rest q. next_assignment p q; backward = λ ys rest q. assignments_behind h p q }

pub assignments_none : (limit : ℕ) (u : List Token) → (assigned_at u ≡ None → ⊥) → ((a : Assignment) (rest : List Token) → AssignmentParses limit u a rest → ⊥) → (xs : List Assignment) (rest : List Token) → AssignmentsParse limit u xs rest → ⊥
assignments_none limit u h none xs rest (no_assignments k) = h k
assignments_none limit u h none xs rest (next_assignment {v = v} {a = a} p ps) = none a v p

-- A module by its parts.
pub module_read : (limit : ℕ) (u v w rest : List Token) (h : Header) (found : List Assignment) → HeaderParses u h v → AssignmentsParse limit v found w → first_kind w ≡ Some (kind.Reserved keyword.End) → rest ≡ drop 1 w
    → ModuleParses limit u (record { header = Some h; assignments = found }) rest
module_read limit u v w rest h found p q k e = subst (λ z. ModuleParses limit u (record { header = Some h; assignments = found }) z) (sym e) (module_parses p q k)

pub module_headless : (limit : ℕ) (u : List Token) → ((h : Header) (v : List Token) → HeaderParses u h v → ⊥) → (m : Module) (rest : List Token) → ModuleParses limit u m rest → ⊥
module_headless limit u none m rest (module_parses {v = v} {h = h} p q k) = none h v p

pub module_unassigned : (limit : ℕ) (u v : List Token) (h : Header) → HeaderParses u h v → ((xs : List Assignment) (w : List Token) → AssignmentsParse limit v xs w → ⊥) → (m : Module) (rest : List Token) → ModuleParses limit u m rest → ⊥
module_unassigned limit u v h a none m rest (module_parses {w = w} {found = found} p q k) =
    none found w (subst (λ z. AssignmentsParse limit z found w) (sym (same_header a p).1) q)

pub module_unended : (limit : ℕ) (u v w : List Token) (h : Header) (xs : List Assignment) → HeaderParses u h v → AssignmentsParse limit v xs w → first_kind w ≢ Some (kind.Reserved keyword.End)
    → (m : Module) (rest : List Token) → ModuleParses limit u m rest → ⊥
module_unended limit u v w h xs a b c m rest (module_parses {w = w'} {found = found} p q k) =
    c (ap first_kind (same_assignments b (subst (λ z. AssignmentsParse limit z found w') (sym (same_header a p).1) q)).1 ∙ k)

-- The modules that were read stand from the start to here.
pub record GoingOn (limit : ℕ) (start here : List Token) (seen : List Module) : Type 0 where
  pub forward : (more : List Module) → ModulesParse limit here more → ModulesParse limit start (seen ++ more)
  pub backward : (all : List Module) → ModulesParse limit start all → (more : List Module) × ModulesParse limit here more × (all ≡ seen ++ more)

pub modules_start : (limit : ℕ) (start : List Token) (seen : List Module) → seen ≡ [] → GoingOn limit start start seen
modules_start limit start seen n = subst (λ x. GoingOn limit start start x) (sym n) (record { forward = λ more q. q; backward = λ all q. (all, q, refl) })

front : {limit : ℕ} {u v : List Token} {m : Module} {more : List Module} → ModuleParses limit u m v → ModulesParse limit v more → ModulesParse limit u (m ∷ more)
front (module_parses p q k) r = next_module p q k r

taken_apart : {limit : ℕ} {u v : List Token} {m : Module} {all : List Module} → ModuleParses limit u m v → ModulesParse limit u all → (more : List Module) × ModulesParse limit v more × (all ≡ m ∷ more)
taken_apart (module_parses p q k) no_modules = let e = p.opening in let y : ⊥ = cc in absurd y
taken_apart {limit = limit} (module_parses {w = w} {h = h} {found = xs} p q k) (next_module {v = v'} {w = w'} {h = h'} {found = ys} {more = more} p' q' k' r) =
    let i = same_header p p' in
    let j = same_assignments q (subst (λ y. AssignmentsParse limit y ys w') (sym i.1) q') in (
      more,
      subst (λ z. ModulesParse limit (drop 1 z) more) (sym j.1) r,
      sym (ap (λ y. record { header = Some y; assignments = xs } ∷ more) i.0 ∙ ap (λ y. record { header = Some h'; assignments = y } ∷ more) j.0),
    )

pub modules_next : (limit : ℕ) (start here there : List Token) (seen more : List Module) (m : Module) → GoingOn limit start here seen → ModuleParses limit here m there → more ≡ seen ++ m ∷ [] → GoingOn limit start there more
modules_next limit start here there seen more m g p e = subst (λ z. GoingOn limit start there z) (sym e) (record {
  forward = λ xs q. subst (λ z. ModulesParse limit start z) (sym (append_assoc seen (m ∷ []) xs)) (g.forward (m ∷ xs) (front p q));
  backward = λ all q.
      let b = g.backward all q in
      let c = taken_apart p b.1 in (c.0, c.1, b.2 ∙ ap (λ z. seen ++ z) c.2 ∙ sym (append_assoc seen (m ∷ []) c.0));
})

pub modules_end : (limit : ℕ) (start here : List Token) (seen : List Module) → GoingOn limit start here seen → here ≡ [] → ModulesParse limit start seen
modules_end limit start here seen g e = subst (λ z. ModulesParse limit start z) (append-nil seen) (g.forward [] (subst (λ z. ModulesParse limit z []) (sym e) no_modules))

first_module : {limit : ℕ} {u : List Token} {all : List Module} → (u ≡ [] → ⊥) → ModulesParse limit u all → (m : Module) × (v : List Token) × ModuleParses limit u m v
first_module n no_modules = absurd (n refl)
first_module n (next_module {w = w} {h = h} {found = found} p q k r) = (record { header = Some h; assignments = found }, drop 1 w, module_parses p q k)

pub modules_none : (limit : ℕ) (start here : List Token) (seen : List Module) → GoingOn limit start here seen → (here ≡ [] → ⊥) → ((m : Module) (rest : List Token) → ModuleParses limit here m rest → ⊥)
    → (all : List Module) → ModulesParse limit start all → ⊥
modules_none limit start here seen g n none all q = let b = g.backward all q in let c = first_module n b.1 in none c.0 c.1 c.2

-- Whole texts.
pub text_of_modules : (limit : ℕ) (u : List Token) → begins_module u ≡ true → ((all : List Module) → ModulesParse limit u all → ⊥) → (all : List Module) → TextParses limit u all → ⊥
text_of_modules limit u b none all (modules_parse c p) = none all p
text_of_modules limit u b none all (assignments_parse c p) = true_false (sym b ∙ c)

pub bare_read : (limit : ℕ) (u rest : List Token) (xs : List Assignment) → begins_module u ≡ false → AssignmentsParse limit u xs rest → rest ≡ [] → TextParses limit u (record { header = None; assignments = xs } ∷ [])
bare_read limit u rest xs b p e = assignments_parse b (subst (λ z. AssignmentsParse limit u xs z) e p)

pub bare_none : (limit : ℕ) (u : List Token) → begins_module u ≡ false → ((xs : List Assignment) (rest : List Token) → AssignmentsParse limit u xs rest → ⊥) → (all : List Module) → TextParses limit u all → ⊥
bare_none limit u b none all (modules_parse c p) = true_false (sym c ∙ b)
bare_none limit u b none all (assignments_parse {found = found} c p) = none found [] p

pub bare_unended : (limit : ℕ) (u rest : List Token) (xs : List Assignment) → begins_module u ≡ false → AssignmentsParse limit u xs rest → (rest ≡ [] → ⊥) → (all : List Module) → TextParses limit u all → ⊥
bare_unended limit u rest xs b p n all (modules_parse c q) = true_false (sym c ∙ b)
bare_unended limit u rest xs b p n all (assignments_parse c q) = n (same_assignments p q).1

-- Braces after the first name aren't closed.
headless : (limit : ℕ) (t : Token) (v : List Token) → is_name t.kind ≡ true → past_optional_braces v ≡ None → (all : List Module) → ModulesParse limit (t ∷ v) all → ⊥
headless limit t v n h all (next_module p q k r) =
    none_some (ap (λ b. if b then option_and_then (definitions_at t) (past_optional_braces v) else None) n ∙ ap (option_and_then (definitions_at t)) h) p.opening

named : (t : Token) (v : List Token) → is_name t.kind ≡ true → assigned_at (t ∷ v) ≡ Some (t, v)
named t v n = ap (λ b. if b || (is_string_type t.kind && assigns_universal v) then Some (t, v) else None) n

unassigned : (limit : ℕ) (t : Token) (v rest : List Token) → is_name t.kind ≡ true → past_optional_braces v ≡ None → rest ≡ [] → (xs : List Assignment) → AssignmentsParse limit (t ∷ v) xs rest → ⊥
unassigned limit t v rest n h e xs (no_assignments k) = none_some k (named t v n)
unassigned limit t v rest n h e xs (next_assignment {v = w} {a = a} p ps) = unclosed_parameters limit (t ∷ v) v t (named t v n) h a w p

pub unclosed : (limit : ℕ) (t : Token) (u v : List Token) → u ≡ t ∷ v → is_name t.kind ≡ true → past_optional_braces v ≡ None → (all : List Module) → TextParses limit u all → ⊥
unclosed limit t u v e n h all p = here all (subst (λ z. TextParses limit z all) e p)
  where
    here : (all : List Module) → TextParses limit (t ∷ v) all → ⊥
    here all (modules_parse b p) = headless limit t v n h all p
    here all (assignments_parse {found = xs} b p) = unassigned limit t v [] n h refl xs p
