use Rattle.std.proofs.Common.{sym, ap, ◌∙◌, is_some}
use Rattle.asn_modules_reader.specs.parts.EntryLists.{markers_by}
use Rattle.asn_modules_reader.proofs.parts.EntriesSeen.{counted}
use Rattle.asn_modules_reader.proofs.parts.entries.Entries.markers.Goals as goal

pub returns : goal.returns
returns g c =
    let s = c.args.self.now in
    c.count.ensures ∙ ap (λ b. markers_by b c.is_some-2.result) c.is_some.ensures ∙ ap (markers_by (is_some s.added)) c.is_some-2.ensures ∙ sym (counted s.root s.added s.tail)
