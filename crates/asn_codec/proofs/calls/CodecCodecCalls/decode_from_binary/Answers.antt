use Rattle.asn_codec.proofs.Naming.{text_refused, bytes_refused}
use Rattle.asn_codec.proofs.calls.CodecCodecCalls.decode_from_binary.Goals as goal

pub returns-in-Ok-clause-refused : goal.returns-in-Ok-clause-refused
returns-in-Ok-clause-refused g c = λ is. text_refused c.args.self.now _ _ _ c.decode_from_str.result c.in-Ok.ensures.0 c.in-Ok.ensures.1 c.decode_from_str.ensures.refused

pub returns-in-Err-clause-refused : goal.returns-in-Err-clause-refused
returns-in-Err-clause-refused g c = λ is. bytes_refused c.args.self.now _ _ _ c.in-Err.ensures c.decode_refusal-in-Err.ensures
