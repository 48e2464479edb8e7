use Rattle.std.proofs.Common.{sym, subst}
use Rattle.std.proofs.lemmas.Str.{IsUtf8-string_bytes, is_utf8-from_IsUtf8}
use Rattle.asn_traits.specs.Leaf.{leaf_value}
use Rattle.asn_traits.specs.Notation.{Notation}
use Rattle.asn_traits.specs.Writable.{Writable}
use Rattle.jer_rules.proofs.jer.leaves.value_of_leaf.Goals as goal

pub returns-in-OwnedText-clause-writable : goal.returns-in-OwnedText-clause-writable
returns-in-OwnedText-clause-writable c = subst (λ leaf. Writable Notation.jer (leaf_value leaf)) (sym c.in-OwnedText.is) (is_utf8-from_IsUtf8 _ (IsUtf8-string_bytes c.in-OwnedText.text))
