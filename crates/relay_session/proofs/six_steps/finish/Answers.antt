use Rattle.relay_session.proofs.Holds.{ended_filled}
use Rattle.relay_session.proofs.Rounds.{takes_some}
use Rattle.relay_session.proofs.six_steps.finish.Goals as goal

pub take-requires-clause-open : goal.take-requires-clause-open
take-requires-clause-open g c = (takes_some c.fill.new.core c.in-Some.playing c.in-Some.ensures).1

pub take-requires-clause-plays : goal.take-requires-clause-plays
take-requires-clause-plays g c = (takes_some c.fill.new.core c.in-Some.playing c.in-Some.ensures).2

pub take-requires-clause-nothing : goal.take-requires-clause-nothing
take-requires-clause-nothing g c = (takes_some c.fill.new.core c.in-Some.playing c.in-Some.ensures).0

pub returns-in-Err-clause-sound : goal.returns-in-Err-clause-sound
returns-in-Err-clause-sound g c =
    let e = c.fill.ensures in
    ended_filled c.args.body.now.core c.fill.new.core c.requires.sound e.gone e.hand e.reader e.light e.fits
