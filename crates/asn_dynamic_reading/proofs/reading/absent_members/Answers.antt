use Rattle.std.proofs.Common.{◌≡◌, ◌∙◌, ◌<◌, ◌+◌, ◌++◌, ◌∷◌, [], ap, arith, get_or, length, map, refl, sym, take, ℕ, List, Option, None, String, Global, string_bytes}
use Rattle.std.proofs.lemmas.List.{length-map, map_push, take_all, take_more}
use Rattle.std.proofs.lemmas.List.Elements.{All-from_recursion, recursion_from_All}
use Rattle.asn_coding.proofs.Sorted.{each-append}
use Rattle.asn_dynamic_values.specs.declared.value.DynValue.{DynValue}
use Rattle.asn_model.specs.Components.{Component, component_names}
use Rattle.asn_parts.specs.Parts.{component_of}
use Rattle.asn_parts.proofs.NameRows.{component-name}
use Rattle.asn_parts.specs.Listed.{fields_in}
use Rattle.asn_dynamic_reading.specs.Fields.{AreAbsent}
use Rattle.asn_dynamic_reading.proofs.FieldSteps.{Member}
use Rattle.asn_dynamic_reading.proofs.reading.absent_members.Goals as goal

absent-more : (names : List (List ℕ)) (k : ℕ) (ms : List Member) (name : String Global) → k < length names → string_bytes name ≡ get_or names k [] → AreAbsent (take k names) ms → AreAbsent (take (k + 1) names) (ms ++ (name, None) ∷ [])
absent-more names k ms name h e all =
    let m : Member = (name, None) in
    let P : Member → Type 0 = λ x. x.1 ≡ None in (
      map_push (λ (x : Member). string_bytes x.0) ms m ∙ (λ i. all.0 i ++ e i ∷ []) ∙ sym (take_more names k [] h),
      All-from_recursion P (ms ++ m ∷ []) (each-append P ms (m ∷ []) (recursion_from_All P ms all.1) (refl, tt)),
    )

pub loop-place-preserved : goal.loop-place-preserved
loop-place-preserved g c =
    let cs = fields_in (g.P.Part.shape [] c.args.part.now) in
    let count = length-map cs (λ (x : Component). x.name) in
    rw c.in_ok-push.ensures.items
    (absent-more (component_names cs) c.loop-place.place c.loop-place.members.items c.in_ok-name.name (omega (arith, c.loop-place-test.true, c.field_count-count.ensures, count))
    (c.in_ok-name.ensures.ok ∙ sym (component-name cs c.loop-place.place (component_of (g.P.Part.shape []) c.field.result) (c.field.ensures []))) c.loop-place.invariant)

pub returns : goal.returns
returns g c =
    let cs = fields_in (g.P.Part.shape [] c.args.part.now) in
    let names = component_names cs in
    let count = length-map cs (λ (x : Component). x.name) in
    let all = take_all c.loop-place.place names (omega (arith, c.loop-place-test.false, c.field_count-count.ensures, count)) in
    (c.loop-place.invariant.0 ∙ all, c.loop-place.invariant.1)
