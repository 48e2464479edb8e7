use Rattle.std.proofs.Common.{◌≡◌, ◌⊎◌, ◌∙◌, ℕ, Ok, ap, subst, sym, string_bytes}
use Rattle.std.specs.Str.{chars}
use Rattle.asn_fault.specs.Failure.{Cause, at_root, failure_of}
use Rattle.asn_model.specs.Leaf.{refine}
use Rattle.asn_model.specs.Shape.{Shape}
use Rattle.asn_model.specs.Value.{Value}
use Rattle.asn_strings.specs.Alphabets.{place_outside}
use Rattle.asn_types.proofs.TextLeaves.{string_made}
use Rattle.asn_types.specs.TextTypes.{IsNoText}
use Rattle.asn_dynamic_reading.proofs.Outside.{no_value}
use Rattle.asn_dynamic_reading.proofs.texts.string_of.Goals as goal

pub returns-in-None-clause-made : goal.returns-in-None-clause-made
returns-in-None-clause-made g c codec =
    let text = string_bytes c.args.text in
    let p = g.C.CharacterSet.alphabet in
    let none = c.in-None.ensures.place ∙ ap (λ t. place_outside p (chars t)) c.as_str.ensures.value in
    string_made g.C.NamedSet.name p text codec g.met.C.NamedSet.same none
    ∙ ap (λ v. Ok v) (sym c.text_value.ensures.value)

pub unreachable-requires : goal.unreachable-requires
unreachable-requires g c =
    let text = string_bytes c.args.text in
    let p = g.C.CharacterSet.alphabet in
    let at = sym (c.in-Some.ensures.place ∙ ap (λ t. place_outside p (chars t)) c.as_str.ensures.value) in
    no_value g.C.NamedSet.name p text _ c.args.codec _ g.met.C.NamedSet.same at (ap (λ s. refine c.args.codec s (Value.text text)) (sym c.requires) ∙ c.in-Ok.ensures c.args.codec)

pub returns-in-Err-clause-made : goal.returns-in-Err-clause-made
returns-in-Err-clause-made g c =
    let failure = failure_of c.in-Err.error in
    subst (λ s. IsNoText s (string_bytes c.args.text) c.args.codec failure ⊎ (failure ≡ at_root Cause.out_of_memory c.args.codec)) c.requires c.in-Err.ensures
