use Rattle.std.proofs.Common.{sym}
use Rattle.std.proofs.lemmas.Grind.{put_three}
use Rattle.asn_fault.specs.Texts.{with_codec}
use Rattle.asn_dynamic_faults.specs.Texts.{closings, dyn_error_text, dyn_kind_text, openings}
use Rattle.asn_dynamic_faults.proofs.Printed.{text_parted, was_ok}
use Rattle.asn_dynamic_faults.proofs.printing.DynErrorDisplay.fmt.Goals as goal

pub returns-clause-writes : goal.returns-clause-writes
returns-clause-writes g c = λ plain ok.
    let e = c.args.self.now in
    let kind = with_codec (dyn_kind_text e.kind) e.codec in
    let path = rw c.as_slice-path.ensures.value at c.write_openings.ensures in
    let h0 = path plain (was_ok _ _ c.in_ok-write_openings.was) in
    let h1 = c.write.ensures.writes h0.plain (was_ok _ _ c.in_ok-write.was) in
    let h2 = (rw c.as_slice-path.ensures.value at c.write_closings.ensures) h1.plain ok in
    put_three g.W.Write.write_str_gives c.args.f.now c.write_openings.new.f c.write.new.self c.write_closings.new.f (openings e.path.items) kind (closings e.notation e.path.items) (dyn_error_text e) h0 h1 h2 (sym (text_parted e.notation e.path.items kind))
