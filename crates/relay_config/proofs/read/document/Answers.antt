use Rattle.std.proofs.Common.{refl, inr}
use Rattle.toml.proofs.Views.{view-Table}
use Rattle.relay_config.proofs.Texts.{no_text, is_document}
use Rattle.relay_config.proofs.read.document.Goals as goal

pub returns-in_default-clause-refused : goal.returns-in_default-clause-refused
returns-in_default-clause-refused c = inr (refl, no_text _ c.in_default.ensures.cases.0)

pub returns-in-Ok-table_from_str-clause-ok : goal.returns-in-Ok-table_from_str-clause-ok
returns-in-Ok-table_from_str-clause-ok c =
    is_document _ _ _ c.if-bytes-gt-MOST_BYTES.false c.in-Ok.ensures.cases.1
    (rw c.in-Ok.ensures.cases.0 at c.in-Ok-table_from_str.ensures.ok) (view-Table c.in-Ok-table_from_str.table)
