use Rattle.std.proofs.Common.{◌≡◌, ◌<◌, ℕ, Option, ap, get_or, refl, sym, subst, ◌∙◌, length, arith, Some, None, replicate}
use Rattle.std.proofs.lemmas.Option.{slice_get_read}
use Rattle.std.specs.List.{slice_get}
use Rattle.std.specs.Prelude.{IfSome, option_map}
use Rattle.asn_names.proofs.Rows.{row_at, row-there}
use Rattle.avn_rules.proofs.Repeats.{KeepsPlace, place_passed, place_once, place_twice}
use Rattle.avn_rules.proofs.Walks.{FieldsLeft, fields_begun, fields_first, fields_more, fields_found, fields_repeated, with_slot}
use Rattle.avn_rules.proofs.avn.take_apart.slots_of.Goals.{in-Some, then-is_some, else-is_some, in_default}
use Rattle.avn_rules.proofs.avn.take_apart.slots_of.Goals as goal

pub entries-init : goal.entries-init
entries-init g c =
    let rows = g.N.NameList.rows c.args.names.now in
    let slots = c.in_ok-slots.slots.items in
    let absent : slots ≡ replicate (length rows) None = c.in_ok-slots.ensures ∙ ap (λ k. replicate k None) c.count.ensures in
    record { walk = fields_begun c.args.table.now c.args.node c.end-end.result rows slots c.requires.present c.requires.members c.end-end.ensures absent; within = tt }

pub end-entry-requires : goal.end-entry-requires
end-entry-requires g c = (fields_first c.args.table.now c.args.node c.entries.entry c.end-end.result (g.N.NameList.rows c.args.names.now) c.entries.slots.items _ c.entries.invariant.walk c.entries-test.true).below

pub entries-preserved : goal.entries-preserved
entries-preserved g c =
    let rows = g.N.NameList.rows c.args.names.now in
    let i = c.entries.entry in
    let slots = c.entries.slots.items in
    let within = c.entries.invariant.within in
    let put : c.match-place_of_entry.slots.items ≡ with_slot c.place_of_entry.result i slots = elim c.match-place_of_entry.branch [
      | in-Some w ↦ ap (λ v. v.items) w.slots-is ∙ ap (λ p. with_slot p i slots) (sym w.in-Some.is)
      | in_default w ↦ ap (λ v. v.items) w.slots-is ∙ ap (λ p. with_slot p i slots) (sym w.in_default.is)
    ] in
    let at : (k : ℕ) (slot : Option ℕ) → k < length rows → slot ≡ get_or slots k slot → slice_get slots k ≡ Some slot = λ k slot below there. slice_get_read slots (length slots) k slot refl (omega (arith, below, c.entries.invariant.walk.each)) there in
    let keeps : KeepsPlace rows slots c.entries.repeated c.place_of_entry.result c.match-place_of_entry.repeated = elim c.match-place_of_entry.branch [
      | in-Some w ↦ elim w.if-is_some.branch [
        | then-is_some v ↦ place_twice w.index.result.now v.earlier.result within w.in-Some.is w.in-Some.ensures.below (at w.in-Some.place w.index.result.now w.in-Some.ensures.below w.index.ensures) (sym w.is_some.ensures ∙ v.if-is_some.true) v.earlier.ensures (w.repeated-is ∙ v.repeated-is)
        | else-is_some v ↦ place_once w.index.result.now within w.in-Some.is (at w.in-Some.place w.index.result.now w.in-Some.ensures.below w.index.ensures) (sym w.is_some.ensures ∙ v.if-is_some.false) (w.repeated-is ∙ v.repeated-is)
      ]
      | in_default w ↦ place_passed within w.in_default.is w.repeated-is
    ] in
    record {
      walk = fields_more c.args.table.now c.args.node i c.end-end.result c.end-entry.result rows slots c.match-place_of_entry.slots.items _ _ c.place_of_entry.result c.entries.invariant.walk c.entries-test.true c.requires.distinct c.end-entry.ensures c.place_of_entry.ensures.is keeps.keeps put;
      within = keeps.within;
    }

pub returns-in-Some-repeated : goal.returns-in-Some-repeated
returns-in-Some-repeated g c =
    let rows = g.N.NameList.rows c.args.names.now in
    let place = c.in-Some-repeated.place in
    let Walk : Option ℕ → Type 0 = λ o. FieldsLeft c.args.table.now c.args.node c.entries.entry c.end-end.result rows c.entries.slots.items (option_map (row_at rows) o) in
    let Within : Option ℕ → Type 0 = λ o. IfSome o (λ k. k < length rows) in
    let met = subst Walk c.in-Some-repeated.is c.entries.invariant.walk in
    let below : place < length rows = subst Within c.in-Some-repeated.is c.entries.invariant.within in
    (row_at rows place, row-there rows place below, fields_repeated c.args.table.now c.args.node c.entries.entry c.end-end.result rows c.entries.slots.items (row_at rows place) met c.entries-test.false)

pub returns-in-None : goal.returns-in-None
returns-in-None g c =
    let rows = g.N.NameList.rows c.args.names.now in
    let Walk : Option ℕ → Type 0 = λ o. FieldsLeft c.args.table.now c.args.node c.entries.entry c.end-end.result rows c.entries.slots.items (option_map (row_at rows) o) in
    fields_found c.args.table.now c.args.node c.entries.entry c.end-end.result rows c.entries.slots.items (subst Walk c.in-None.is c.entries.invariant.walk) c.entries-test.false
