use Rattle.std.proofs.Common.{◌∙◌, ap}
use Rattle.relay_outside.specs.MemLinks.{MemLinkState}
use Rattle.loop_command.specs.Course.{new_link}
use Rattle.loop_command.specs.declared.line.Line.{Line}
use Rattle.loop_command.proofs.line.line_of.Goals as goal

pub returns : goal.returns
returns c =
    let line : MemLinkState → MemLinkState → Line = λ m n. record
    { client = c.args.client; near = m; session = c.args.session; far = n; forth = 0; back = 0 } in
    ap (λ (m : MemLinkState). line m c.new-2.result) c.new.ensures ∙ ap (line new_link) c.new-2.ensures
