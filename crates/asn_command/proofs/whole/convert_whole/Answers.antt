-- What a status says follows from the reply that is delivered.
use Rattle.std.proofs.Common.{[], ℕ, List}
use Rattle.avn_grammar.specs.declared.limits.TheConstants.{LEVEL_LIMIT}
use Rattle.asn_codec.specs.Conversion.{IsConvertible}
use Rattle.asn_command.specs.Conversions.{IsAnswer, IsRefusal, file_origin}
use Rattle.asn_command.proofs.Delivering.{Ends, cut_of, done_of, ends, long_of, not_refused, refused_of, text_of, told_of}
use Rattle.asn_model.specs.Shape.{Shape}
use Rattle.asn_streams.specs.Transfer.{Transfer, transfer_of}
use Rattle.asn_command.proofs.whole.convert_whole.Given.{Over}
use Rattle.asn_command.proofs.whole.convert_whole.Goals as goal

module _ (g : Over) (c : goal.After-deliver g) where
  abbrev shape : Shape
  shape = g.P.Part.shape [] c.args.conversion.part

  abbrev answer : List ℕ → List ℕ → Type 0
  answer = IsAnswer c.args.conversion.from c.args.conversion.to shape

  abbrev refusal : List ℕ → List ℕ → Type 0
  refusal = IsRefusal c.args.conversion.from c.args.conversion.to shape (file_origin c.args.file) c.args.conversion.explain

  abbrev source : Transfer
  source = transfer_of g.S.Source.left g.S.Source.faults c.args.source.now c.whole_reply-reply.new.source

  abbrev output : Transfer
  output = transfer_of g.K.Sink.written g.K.Sink.faults c.args.output.now c.deliver.new.output

  abbrev errors : Transfer
  errors = transfer_of g.E.Sink.written g.E.Sink.faults c.args.errors.now c.deliver.new.errors

  ended : Ends answer refusal c.args.file.now source output errors c.deliver.result
  ended = ends answer refusal c.args.file.now source output errors c.whole_reply-reply.result c.deliver.result c.whole_reply-reply.ensures c.deliver.ensures

pub returns-clause-done : goal.returns-clause-done
returns-clause-done g c = done_of (answer g c) (refusal g c) c.args.file.now (source g c) (output g c) (errors g c) c.deliver.result (ended g c)

pub returns-clause-refused : goal.returns-clause-refused
returns-clause-refused g c = refused_of (answer g c) (refusal g c) c.args.file.now (source g c) (output g c) (errors g c) c.deliver.result (ended g c)

pub returns-clause-too_long : goal.returns-clause-too_long
returns-clause-too_long g c = long_of (answer g c) (refusal g c) c.args.file.now (source g c) (output g c) (errors g c) c.deliver.result (ended g c)

pub returns-clause-not_text : goal.returns-clause-not_text
returns-clause-not_text g c = text_of (answer g c) (refusal g c) c.args.file.now (source g c) (output g c) (errors g c) c.deliver.result (ended g c)

pub returns-clause-told : goal.returns-clause-told
returns-clause-told g c = told_of (answer g c) (refusal g c) c.args.file.now (source g c) (output g c) (errors g c) c.deliver.result (ended g c)

pub returns-clause-cut : goal.returns-clause-cut
returns-clause-cut g c = cut_of (answer g c) (refusal g c) c.args.file.now (source g c) (output g c) (errors g c) c.deliver.result (ended g c)

pub returns-clause-complete : goal.returns-clause-complete
returns-clause-complete g c =
    not_refused (answer g c) (refusal g c) c.args.file.now (source g c) (output g c) (errors g c) (IsConvertible LEVEL_LIMIT c.args.conversion.from c.args.conversion.to (shape g c))
    (λ read due (r : refusal g c read due). r.unanswerable) c.deliver.result (ended g c)
