use Rattle.std.proofs.lemmas.Str.{is_utf8-from_IsUtf8}
use Rattle.jer_rules.proofs.jer.leaves.value_of_text.Goals as goal

pub returns-clause-text : goal.returns-clause-text
returns-clause-text c = is_utf8-from_IsUtf8 _ c.utf8.text

pub returns-in_err-in_jer-clause-text : goal.returns-in_err-in_jer-clause-text
returns-in_err-in_jer-clause-text c = is_utf8-from_IsUtf8 _ c.utf8.text
