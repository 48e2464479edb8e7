use Rattle.std.proofs.Common.{◌∙◌, arith, map, refl}
use Rattle.std.proofs.lemmas.List.{length-map}
use Rattle.serde_json.specs.Data.{Data}
use Rattle.serde_json.specs.View.{members_view}
use Rattle.asn_core.specs.declared.codec.Codec.TheVariants.{Jer}
use Rattle.asn_coding.specs.Opening.{HasMembers}
use Rattle.asn_names.specs.Rows.{NameRow, row_names}
use Rattle.asn_traits.specs.ShapeView.{kind_view}
use Rattle.asn_traits.specs.Tree.{Tree, member_slot}
use Rattle.asn_coding.proofs.Refusing.{no_members, refuses_because_or_memory}
use Rattle.jer_rules.specs.Pending.{pending_of}
use Rattle.jer_rules.proofs.Readings.{members-none}
use Rattle.jer_rules.proofs.Taken.{members_below}
use Rattle.jer_rules.proofs.jer.de.DecoderDecoder.open_members.Goals as goal

pub returns : goal.returns
returns g c =
    let ms = members_view c.in-Ok.members.entries in
    let object = Tree.json (Data.object ms) in
    let rows = g.N.NameList.rows c.args.names.now in
    let names = row_names rows in (
      _,
      map (member_slot ms) names,
      pending_of c.take.new.self,
      rw c.in-Ok.ensures at c.in_ok-take.ensures,
      c.in_ok-take_fields.ensures.taken.slots,
      length-map names (member_slot ms) ∙ length-map rows (λ (r : NameRow). r.name),
      members_below ms names _ (omega arith),
      HasMembers.has_members names object (member_slot ms) refl (λ i d lt. refl),
    )

pub returns-in-Err : goal.returns-in-Err
returns-in-Err g c =
    let h = c.in-Err.ensures in
    λ fs added listed. no_members (kind_view c.args.kind) fs added _ _ _ _ c.in_ok-take.ensures (members-none _ h.1) (refuses_because_or_memory _ Jer _ _ c.no_object.ensures refl refl)
