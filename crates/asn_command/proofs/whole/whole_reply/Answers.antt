use Rattle.std.proofs.Common.{[], Err, ap, ◌∙◌}
use Rattle.std.proofs.lemmas.Result.{IfOk-weaker}
use Rattle.asn_command.specs.Conversions.{IsAnswer, IsConversion, IsRefusal, file_origin}
use Rattle.asn_command.specs.Whole.{IsWholeReply}
use Rattle.asn_command.proofs.Delivering.{of_unread}
use Rattle.asn_command.proofs.Wholes.{of_text}
use Rattle.asn_replies.specs.Reading.{IsUnreadReply}
use Rattle.asn_streams.specs.Input.{IsWholeInput}
use Rattle.asn_streams.specs.Transfer.{transfer_of}
use Rattle.asn_command.proofs.whole.whole_reply.Goals as goal

pub returns-in-Ok : goal.returns-in-Ok
returns-in-Ok g c =
    let v = c.args.conversion in
    let s = g.P.Part.shape [] v.part in
    let o = file_origin c.args.file in
    let source = transfer_of g.S.Source.left g.S.Source.faults c.args.source.now c.read_text.new.source in
    let whole : IsWholeInput source c.deref.result.now = rw c.deref.ensures c.in-Ok.ensures.text in
    IfOk-weaker c.conversion_reply.result (IsConversion v.from v.to s o v.explain c.deref.result.now) (IsWholeReply (IsAnswer v.from v.to s) (IsRefusal v.from v.to s o v.explain) c.args.file.now source)
    (λ reply h. of_text v.from v.to s c.args.file v.explain source c.deref.result.now reply whole h) c.conversion_reply.ensures

pub returns-in-Err : goal.returns-in-Err
returns-in-Err g c =
    let v = c.args.conversion in
    let s = g.P.Part.shape [] v.part in
    let o = file_origin c.args.file in
    let source = transfer_of g.S.Source.left g.S.Source.faults c.args.source.now c.read_text.new.source in
    IfOk-weaker c.unread_reply.result (IsUnreadReply c.args.file.now c.in-Err.why) (IsWholeReply (IsAnswer v.from v.to s) (IsRefusal v.from v.to s o v.explain) c.args.file.now source)
    (λ reply h. of_unread (IsAnswer v.from v.to s) (IsRefusal v.from v.to s o v.explain) c.args.file.now source c.in-Err.why reply
    (λ e. c.read_text.ensures.fault (c.in-Err.is ∙ ap (λ x. Err x) e)) (λ e. c.read_text.ensures.too_long (c.in-Err.is ∙ ap (λ x. Err x) e)) (λ e. c.read_text.ensures.not_text (c.in-Err.is ∙ ap (λ x. Err x) e)) h)
    c.unread_reply.ensures
