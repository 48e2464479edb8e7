-- What is left of an array or an object, sent from here on, ends as the whole does.
use Rattle.std.proofs.Common.{drop}
use Rattle.serde.specs.Event.{Log}
use Rattle.serde_json.specs.Events.{SendsItems, SendsMembers}
use Rattle.jer_values.specs.Views.{items_view, members_view}
use Rattle.jer_values.proofs.value.+send.Given as goal

abbrev pub invariant-send_items-loop-item : goal.invariant-send_items-loop-item
invariant-send_items-loop-item g l =
    (end : Log)
    → SendsItems (items_view (drop l.item-index l.item-items)) (g.S.Serializer.written l.out) end
    → SendsItems (items_view l.item-items) (g.S.Serializer.written l.initial.out) end

abbrev pub invariant-send_members-loop-name : goal.invariant-send_members-loop-name
invariant-send_members-loop-name g l =
    (end : Log)
    → SendsMembers (members_view (drop l.name-index l.name-items))
    (g.S.Serializer.written l.out) end
    → SendsMembers (members_view l.name-items) (g.S.Serializer.written l.initial.out) end
