use Rattle.std.proofs.Common.{◌≡◌, ap, refl, sym, subst, ◌∙◌, true, false, is_some}
use Rattle.std.proofs.lemmas.Result.{err_from_is_err_and}
use Rattle.asn_fault.specs.Failure.{failure_of}
use Rattle.asn_coding.specs.Answer.{RefusesLeaf}
use Rattle.asn_traits.specs.Leaf.{members_mismatch}
use Rattle.asn_traits.specs.Notation.{Notation}
use Rattle.asn_traits.specs.Shape.{Shape}
use Rattle.asn_traits.specs.ShapeView.{kind_view}
use Rattle.asn_traits.specs.Tree.{as_members}
use Rattle.asn_coding.proofs.Refusing.{out_of_memory}
use Rattle.asn_core.specs.declared.codec.Codec.TheVariants.{Avn}
use Rattle.avn_rules.specs.Parts.{AreFieldSlots, AreFound}
use Rattle.avn_rules.specs.declared.avn.take_apart.FieldSlots.TheVariants.{Repeated}
use Rattle.avn_rules.specs.Pending.{DecoderView, value_at}
use Rattle.avn_rules.proofs.Opened.{members_opened, members_refused, members_repeated}
use Rattle.avn_rules.proofs.avn.de.DecoderDecoder.open_members.Goals as goal

pub returns-in_err-node : goal.returns-in_err-node
returns-in_err-node g c =
    let p = err_from_is_err_and c.from_residual.result c.from_residual.ensures.1 in
    rw (p.1, p.2) (λ fs added listed. c.in_err-node.ensures (Shape.seq (kind_view c.args.kind) fs added))

pub returns-then-not-has_members : goal.returns-then-not-has_members
returns-then-not-has_members g c =
    let node = c.in_ok-node.node in
    let root : c.self.inside.table ≡ c.take.new.self.root = ap (λ (d : DecoderView). d.root) c.self.view_is in
    members_refused (kind_view c.args.kind) _ _ node _ _ c.in_ok-node.ensures (subst (λ t. is_some (as_members Notation.avn (value_at t node)) ≡ false) root (sym c.has_members.ensures ∙ c.if-not-has_members.true)) (subst (λ t. RefusesLeaf Notation.avn (value_at t node) (members_mismatch Notation.avn (kind_view c.args.kind)) (failure_of c.mismatch.result)) root (rw c.needed_members.ensures at c.mismatch.ensures))

pub returns-in_ok-put_slots-in-Ok-Found : goal.returns-in_ok-put_slots-in-Ok-Found
returns-in_ok-put_slots-in-Ok-Found g c =
    let node = c.in_ok-node.node in
    let rows = g.N.NameList.rows c.args.names.now in
    let slots = c.in-Ok-Found.slots.items in
    let root : c.self.inside.table ≡ c.take.new.self.root = ap (λ (d : DecoderView). d.root) c.self.view_is in
    let members = subst (λ t. is_some (as_members Notation.avn (value_at t node)) ≡ true) root (sym c.has_members.ensures ∙ c.if-not-has_members.false) in
    let found = rw c.in-Ok-Found.field-0-is at c.in-Ok-Found.ensures in
    members_opened (kind_view c.args.kind) _ _ _ node rows slots c.in_ok-node.ensures members (subst (λ t. AreFieldSlots t node rows slots) root found) c.in_ok-put_slots-in-Ok-Found.ensures

pub returns-in_err-put_slots-in-Ok-Found : goal.returns-in_err-put_slots-in-Ok-Found
returns-in_err-put_slots-in-Ok-Found g c =
    let p = err_from_is_err_and c.from_residual-in_err-put_slots-in-Ok-Found.result c.from_residual-in_err-put_slots-in-Ok-Found.ensures.1 in
    rw (p.1, p.2) (λ fs added listed. out_of_memory Avn _ c.in_err-put_slots-in-Ok-Found.ensures refl)

pub returns-in-Ok-Repeated : goal.returns-in-Ok-Repeated
returns-in-Ok-Repeated g c =
    let node = c.in_ok-node.node in
    let rows = g.N.NameList.rows c.args.names.now in
    let root : c.self.inside.table ≡ c.take.new.self.root = ap (λ (d : DecoderView). d.root) c.self.view_is in
    let members = subst (λ t. is_some (as_members Notation.avn (value_at t node)) ≡ true) root (sym c.has_members.ensures ∙ c.if-not-has_members.false) in
    let found = rw c.in-Ok-Repeated.field-0-is at c.in-Ok-Repeated.ensures in
    members_repeated _ _ node rows c.in-Ok-Repeated.place c.in_ok-node.ensures members (subst (λ t. AreFound t node rows (Repeated c.in-Ok-Repeated.place)) root found)
