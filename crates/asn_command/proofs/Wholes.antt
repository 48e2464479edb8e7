-- What the text of a whole file comes to.
use Rattle.std.proofs.Common.{ℕ, List, Bool, sym, subst, string_bytes, Bor}
use Rattle.asn_command.specs.Conversions.{IsAnswer, IsConversion, IsRefusal, file_origin}
use Rattle.asn_command.specs.Whole.{IsWholeRefusal, IsWholeReply}
use Rattle.asn_core.specs.declared.codec.Codec.{Codec}
use Rattle.asn_model.specs.Shape.{Shape}
use Rattle.asn_replies.specs.declared.reply.Reply.{Reply}
use Rattle.asn_replies.specs.declared.reply.Reply.TheVariants.{Answer, Refusal}
use Rattle.asn_streams.specs.Input.{IsWholeInput}
use Rattle.asn_streams.specs.Transfer.{Transfer}

pub of_text : (from to : Codec) (s : Shape) (file : Bor (List ℕ)) (explain : Bool) (source : Transfer) (text : List ℕ) (reply : Reply) → IsWholeInput source text
    → IsConversion from to s (file_origin file) explain text reply → IsWholeReply (IsAnswer from to s) (IsRefusal from to s (file_origin file) explain) file.now source reply
of_text from to s file explain source text (Answer due) w h = record { input = text; whole = w; has = h }
of_text from to s file explain source text (Refusal told lines) w h =
    subst (λ t. IsWholeRefusal (IsRefusal from to s (file_origin file) explain) file.now source (string_bytes lines) t) (sym h.0) record { input = text; whole = w; has = h.1 }
