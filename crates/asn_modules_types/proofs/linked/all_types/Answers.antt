use Rattle.std.proofs.Common.{◌<◌, arith, length, map}
use Rattle.std.proofs.lemmas.List.{length-map}
use Rattle.asn_modules_types.specs.Known.{assigned_view, sources_of}
use Rattle.asn_modules_types.specs.Linked.{linked_from}
use Rattle.asn_modules_types.proofs.Linking.{linked_more}
use Rattle.asn_modules_types.proofs.linked.all_types.Goals as goal

pub loop-number-preserved : goal.loop-number-preserved
loop-number-preserved c =
    let types = c.args.names.now.types.now in
    let ss = sources_of c.args.names.now in
    let views = map assigned_view types in
    let there : c.loop-number.number < length views = omega (arith, c.loop-number-test.true, length-map types assigned_view) in
    linked_more ss (length types) (linked_from ss (length types) 0 views) c.loop-number.linked.items c.push.new.self.items c.in_ok-linked_type.field-0 views c.loop-number.number there
    c.loop-number.invariant c.in_ok-linked_type.ensures c.in_ok-push.ensures.items
