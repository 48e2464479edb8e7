-- What is told of a file that isn't read.
use Rattle.std.specs.Prelude.{◌≡◌, ℕ, List, ◌++◌, codes, IsUtf8, string_bytes}
use Rattle.std.specs.Str.{encode_utf8_all}
use Rattle.asn_replies.specs.declared.read.Unread.{Unread}
use Rattle.asn_replies.specs.declared.read.Unread.TheVariants.{Fault, TooLong, NotText, OutOfMemory}
use Rattle.asn_replies.specs.declared.reply.Reply.{Reply}
use Rattle.asn_replies.specs.declared.reply.Reply.TheVariants.{Answer, Refusal}
use Rattle.asn_replies.specs.declared.status.Status.{Status}
use Rattle.asn_replies.specs.declared.status.Status.TheVariants as status

-- The reply is this line with this status.
abbrev pub IsRefusal : Status → List ℕ → Reply → Type 0
IsRefusal told line (Answer text) = ⊥
IsRefusal told line (Refusal s l) = (s ≡ told) × (string_bytes l ≡ line)

-- The reply says of the file of this name why it isn't read. Of memory that ran out there is none.
abbrev pub IsUnreadReply : List ℕ → Unread → Reply → Type 0
IsUnreadReply file Fault = IsRefusal status.ReadFault (file ++ codes ": can't be read\n")
IsUnreadReply file TooLong = IsRefusal status.TooLong (file ++ codes ": has more than 16777216 bytes\n")
IsUnreadReply file NotText = IsRefusal status.NotText (file ++ codes ": isn't UTF-8\n")
IsUnreadReply file OutOfMemory = λ r. ⊥

-- The text that a file of modules has by its bytes: these where they are UTF-8, else the characters whose numbers they are (ISO/IEC 8859-1).
pub data IsModuleText (input text : List ℕ) : Type 0 where
  as_utf8 : text ≡ input → IsModuleText input text
  as_latin : ¬ IsUtf8 input → text ≡ encode_utf8_all input → IsModuleText input text
