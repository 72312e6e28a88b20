use Rattle.stream_tests.proofs.shared.next_pair.Goals as goal

pub returns : goal.returns
returns c = λ r all. let one = c.in-Some.ensures r all in let two = c.in-Some-next_port.ensures r one.0 in (two.0, one.1, two.1)
