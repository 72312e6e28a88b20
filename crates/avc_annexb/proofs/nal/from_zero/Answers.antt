use Rattle.avc_annexb.specs.Nal.{triple_in}
use Rattle.avc_annexb.proofs.Triples.{from_first, none_first}
use Rattle.avc_annexb.proofs.nal.from_zero.Goals as goal

pub returns-in-Some-clause-place : goal.returns-in-Some-clause-place
returns-in-Some-clause-place c = from_first c.args.bytes.now c.after.result.now c.in-Some.at c.in-Some.ensures.0 c.after.ensures

pub returns-in-None-clause-place : goal.returns-in-None-clause-place
unfolding triple_in
returns-in-None-clause-place c = none_first c.args.bytes.now c.in-None.ensures
