use Rattle.std.proofs.Common.{◌∙◌}
use Rattle.asn_modules_grammar.proofs.headers.Names.{name_goes}
use Rattle.asn_modules_grammar.proofs.headers.name.read_names.Goals as goal

pub names-preserved : goal.names-preserved
names-preserved c =
    let n = c.in-Some.ensures in
    let m = c.in-Some-take_mark.ensures in
    c.names.invariant
    ∙ name_goes c.in-Some.name c.in-Some-take_mark.next.now c.names.rest.now c.in-Some.after.now c.in_ok-behind.behind.now c.names.names.items c.push.new.self.items n.0 n.1 c.in_ok-behind.ensures m.0 m.1 c.in_ok-push.ensures.items
