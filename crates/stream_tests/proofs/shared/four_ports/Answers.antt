use Rattle.std.proofs.Common.{◌∙◌, sym}
use Rattle.stream_tests.proofs.Alike.{alike}
use Rattle.stream_tests.proofs.shared.four_ports.Goals as goal

pub returns-clause-near : goal.returns-clause-near
returns-clause-near c =
    let a = alike _ _ _ _ _ c.in_ok-list.ensures in
    let near = c.in-Some.ensures a.0 a.1 in
    near.2 ∙ sym near.1

pub returns-clause-far : goal.returns-clause-far
returns-clause-far c =
    let a = alike _ _ _ _ _ c.in_ok-list.ensures in
    let near = c.in-Some.ensures a.0 a.1 in
    let far = c.in-Some-next_pair.ensures a.0 near.0 in
    (far.1 ∙ sym near.1, far.2 ∙ sym far.1)
