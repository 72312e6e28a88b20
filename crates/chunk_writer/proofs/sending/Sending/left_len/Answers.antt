use Rattle.std.proofs.Common.{drop, refl}
use Rattle.std.proofs.lemmas.List.{length-drop}
use Rattle.chunk_writer.specs.Written.{header_with}
use Rattle.chunk_writer.proofs.Counted.{fresh_left, more_left}
use Rattle.chunk_writer.proofs.sending.Sending.left_len.Goals as goal

pub returns-then-self-clause-value : goal.returns-then-self-clause-value
returns-then-self-clause-value c =
    let i = c.self.inside in
    let body = c.args.body.now in
    fresh_left c.args.self.now i.begun i.size i.sent i.fresh body c.message_len.result c.self.view_is c.if-self.true (c.message_len.ensures.value body refl)

pub returns-clause-value : goal.returns-clause-value
returns-clause-value c =
    let i = c.self.inside in
    let body = c.args.body.now in
    let n = c.spread_len.ensures.value (header_with 3 i.begun) (drop i.sent body) c.header_len.ensures.value (length-drop i.sent body) in
    more_left c.args.self.now i.begun i.size i.sent i.fresh body c.spread_len.result c.self.view_is c.if-self.false n
