use Rattle.std.proofs.Common.{refl}
use Rattle.relay_replay.proofs.Runs.{cast_runs, does_runs, sessions_answered, settled_runs}
use Rattle.relay_replay.proofs.whole.what_a_run_comes_to.Goals as goal

pub returns-clause-start : goal.returns-clause-start
returns-clause-start c = λ n. refl

pub returns-clause-line : goal.returns-clause-line
returns-clause-line c = does_runs

pub returns-clause-settled : goal.returns-clause-settled
returns-clause-settled c = settled_runs

pub returns-clause-printed : goal.returns-clause-printed
returns-clause-printed c = cast_runs

pub returns-clause-answered : goal.returns-clause-answered
returns-clause-answered c = sessions_answered c.alone_law.ensures
