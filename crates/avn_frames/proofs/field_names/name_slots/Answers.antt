use Rattle.std.proofs.Common.{◌<◌, ◌+◌, ◌++◌, length, ap, sym, subst, ◌∙◌, arith}
use Rattle.asn_names.specs.Rows.{name_at}
use Rattle.avn_frames.proofs.NamedSlots.{NamedSoFar, named_none, named_next, named_all}
use Rattle.avn_frames.proofs.field_names.name_slots.Goals as goal

pub slots-init : goal.slots-init
slots-init g c = named_none (name_at (g.N.NameList.rows c.args.names.now)) c.args.nodes.now c.args.from c.requires.slots c.requires.nameless c.requires.clear

pub end-slot-requires : goal.end-slot-requires
end-slot-requires g c =
    let l : c.slots.slot < length c.slots.nodes.nodes = omega arith in
    let word = c.in_ok-push_text.ensures ∙ ap (λ x. record c.slots.nodes { word = c.slots.nodes.word ++ x }) (c.as_str.ensures ∙ c.encoded_name.ensures) in
    (named_next (name_at (g.N.NameList.rows c.args.names.now)) c.args.nodes.now c.slots.nodes c.push_text.new.self c.name_node.new.self c.args.from c.slots.slot c.slots.place c.slots.invariant c.requires.within l word c.in_ok-name_node.ensures).within

pub slots-smaller : goal.slots-smaller
slots-smaller g c =
    let l : c.slots.slot < length c.slots.nodes.nodes = omega arith in
    let word = c.in_ok-push_text.ensures ∙ ap (λ x. record c.slots.nodes { word = c.slots.nodes.word ++ x }) (c.as_str.ensures ∙ c.encoded_name.ensures) in
    let k = named_next (name_at (g.N.NameList.rows c.args.names.now)) c.args.nodes.now c.slots.nodes c.push_text.new.self c.name_node.new.self c.args.from c.slots.slot c.slots.place c.slots.invariant c.requires.within l word c.in_ok-name_node.ensures in
    omega (arith, k.grows, k.same, c.end-slot.ensures, l)

pub slots-preserved : goal.slots-preserved
slots-preserved g c =
    let l : c.slots.slot < length c.slots.nodes.nodes = omega arith in
    let word = c.in_ok-push_text.ensures ∙ ap (λ x. record c.slots.nodes { word = c.slots.nodes.word ++ x }) (c.as_str.ensures ∙ c.encoded_name.ensures) in
    let k = named_next (name_at (g.N.NameList.rows c.args.names.now)) c.args.nodes.now c.slots.nodes c.push_text.new.self c.name_node.new.self c.args.from c.slots.slot c.slots.place c.slots.invariant c.requires.within l word c.in_ok-name_node.ensures in
    subst (λ n. NamedSoFar (name_at (g.N.NameList.rows c.args.names.now)) c.args.nodes.now c.name_node.new.self c.args.from n (c.slots.place + 1)) (sym c.end-slot.ensures) k.next

pub returns : goal.returns
returns g c = named_all (name_at (g.N.NameList.rows c.args.names.now)) c.args.nodes.now c.slots.nodes c.args.from c.slots.slot c.slots.place c.slots.invariant c.requires.within (omega arith) c.requires.nameless c.requires.clear
