use Rattle.std.proofs.Common.{refl, string_bytes}
use Rattle.asn_times.specs.Written.{utc_text}
use Rattle.asn_model.specs.Shape.{Shape}
use Rattle.asn_model.specs.Value.{Value}
use Rattle.asn_types.proofs.TextLeaves.{both_ok, text_tree, time_unwritten, time_written}
use Rattle.asn_encode.proofs.times.UtcTimeEncodeText.put_text.Goals as goal

pub returns-clause-written : goal.returns-clause-written
returns-clause-written g c =
    let number = c.args.self.now in
    let is = c.write_utc-written.ensures in
    time_written g.E.Encoder.holds g.E.Encoder.notation _ _ Shape.utc (Value.utc number) c.write_utc-written.result c.put_time.result
    (both_ok c.write_utc-written.result _ _ _ (λ s w text. (text_tree g.E.Encoder.notation (Value.utc number) (utc_text number) (string_bytes s) refl refl text, record { utc = w.utc; years = w.years; number = w.number })) is.writes is.text)
    c.utc_is_held.ensures c.put_time.ensures

pub returns-clause-refused : goal.returns-clause-refused
returns-clause-refused g c =
    let is = c.write_utc-written.ensures in
    time_unwritten g.E.Encoder.holds g.E.Encoder.notation _ _ (Value.utc c.args.self.now) c.write_utc-written.result c.put_time.result _ (λ never. never) (λ outside. (outside, refl)) is.refuses c.put_time.ensures
