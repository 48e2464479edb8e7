use Rattle.std.proofs.Common.{◌≡◌, ◌++◌, ◌∷◌, ◌-◌, [], ap, ◌∙◌, arith, rules, string_bytes, List, ℕ, set}
use Rattle.std.specs.Prelude.{vec_len}
use Rattle.std.proofs.lemmas.List.{set-get_or}
use Rattle.asn_sorting.specs.Groups.{group_text, group_values, with_text, entries_of}
use Rattle.asn_sorting.specs.declared.by_text.Group.{Group}
use Rattle.asn_sorting.proofs.Grouping.{entries-append, entries-last}
use Rattle.asn_sorting.proofs.by_text.ByText.add.Goals as goal
use Rattle.asn_sorting.proofs.by_text.ByText.add.Goals.{in-Some+else-eq, in_default}

pub returns-then-eq : goal.returns-then-eq
returns-then-eq g c =
    let last = c.in-Some.group.now in
    let entry : List ℕ × g.row.V.Denot = (string_bytes c.args.text, c.args.value) in
    let longer : Group g.row.V.Denot = record { text = last.text; first = last.first; others = c.push.new.self } in
    entries-last c.self.inside.groups.items (vec_len c.self.inside.groups - 1) longer last c.args.value (search (rules, arith)) (ap group_text c.in-Some.ensures.value)
    (ap (λ l. last.first ∷ l) c.in_ok-push.ensures.items ∙ ap (λ (x : Group g.row.V.Denot). group_values x ++ c.args.value ∷ []) c.in-Some.ensures.value)
    ∙ ap (λ t. entries_of c.self.inside.groups.items ++ (t, c.args.value) ∷ []) (search rules) ∙ ap (λ l. l ++ entry ∷ []) c.self.view_is

pub returns : goal.returns
returns g c =
    let same : c.match-last_mut.self-inside.groups.items ≡ c.self.inside.groups.items = elim c.match-last_mut.branch [ in-Some+else-eq w ↦ ap (λ i. i.groups.items) w.self-inside-is ∙ ap (set c.self.inside.groups.items (vec_len c.self.inside.groups - 1)) w.in-Some.ensures.value ∙ set-get_or c.self.inside.groups.items (vec_len c.self.inside.groups - 1) w.in-Some.group.now | in_default w ↦ ap (λ i. i.groups.items) w.self-inside-is ] in
    let added : Group g.row.V.Denot = record { text = c.args.text; first = c.args.value; others = c.new.result } in
    ap entries_of (c.in_ok-push-2.ensures.items ∙ ap (λ l. l ++ added ∷ []) same) ∙ entries-append c.self.inside.groups.items (added ∷ [])
    ∙ ap (λ l. entries_of c.self.inside.groups.items ++ (with_text (string_bytes c.args.text) (c.args.value ∷ l) ++ [])) c.new.ensures.items ∙ ap (λ l. l ++ (string_bytes c.args.text, c.args.value) ∷ []) c.self.view_is
