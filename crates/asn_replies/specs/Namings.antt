-- What is told where a type isn't found.
use Rattle.std.specs.Prelude.{ℕ, List, ◌++◌, codes}
use Rattle.asn_replies.specs.Reading.{IsRefusal}
use Rattle.asn_replies.specs.declared.reply.Reply.{Reply}
use Rattle.asn_replies.specs.declared.status.Status.TheVariants.{Refused}

-- The line that says that no type or more than one has the name.
abbrev pub missing_line : List ℕ → List ℕ
missing_line name = codes "asn: no type or more than one is named `" ++ (name ++ codes "`\n")

-- The reply refuses a command by that line.
abbrev pub IsMissingReply : List ℕ → Reply → Type 0
IsMissingReply name = IsRefusal Refused (missing_line name)
