use Rattle.std.proofs.Common.{◌∙◌, sym}
use Rattle.server_tests.proofs.Alike.{alike}
use Rattle.server_tests.proofs.sessions.two_ports.Goals as goal

pub returns : goal.returns
returns c =
    let a = alike _ _ _ _ _ c.in_ok-list.ensures in
    let one = c.in-Some.ensures a.0 a.1 in
    let other = c.in-Some-next_port.ensures a.0 one.0 in
    other.1 ∙ sym one.1
