use Rattle.std.proofs.Common.{ap, ◌∙◌}
use Rattle.std.specs.Str.{chars}
use Rattle.avn_value.proofs.Whole.{is_read, is_unread, is_deep}
use Rattle.avn_value.proofs.node_table.NodeTable.parse.Goals as goal

pub returns-clause-reads : goal.returns-clause-reads
returns-clause-reads c = is_read (λ t. t) c.args.limit _ _ (c.new-cursor.ensures.rest ∙ ap (λ s. chars s.text) c.replace.ensures.value) c.read-found.result c.read-found.ensures.ok c.read-found.ensures.err

pub returns-clause-unread : goal.returns-clause-unread
returns-clause-unread c = is_unread (λ t. t) c.args.limit _ _ (c.new-cursor.ensures.rest ∙ ap (λ s. chars s.text) c.replace.ensures.value) c.read-found.result c.read-found.ensures.ok c.read-found.ensures.err

pub returns-clause-deep : goal.returns-clause-deep
returns-clause-deep c = is_deep (λ t. t) c.args.limit _ _ (c.new-cursor.ensures.rest ∙ ap (λ s. chars s.text) c.replace.ensures.value) c.read-found.result c.read-found.ensures.ok c.read-found.ensures.err
