use Rattle.stream_tests.proofs.Places.{one_place}
use Rattle.stream_tests.proofs.one_place_law.Goals as goal

pub returns : goal.returns
returns c = one_place
