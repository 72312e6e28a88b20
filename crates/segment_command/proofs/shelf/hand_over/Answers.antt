use Rattle.segment_command.specs.Shelves.{FileSeen, file_seen}
use Rattle.segment_command.proofs.Shelving.{in_hand, settles_dropped, settles_kept, settles_refused}
use Rattle.segment_command.proofs.shelf.hand_over.Goals as goal

pub returns-in-Ok-clause-settles : goal.returns-in-Ok-clause-settles
returns-in-Ok-clause-settles g c = λ name list start b.
    let view : g.row.H-File.Denot → FileSeen = λ f. file_seen (g.H.File.Sink.holds f) (g.H.File.Sink.faults f) in
    let title = c.args.title.now in
    let told = g.H.House.told c.args.house.now in
    settles_kept c.args.fault name list title (view c.in-Some.last) start told (g.H.House.told c.keep.new.self) c.in-Sink.is
    (in_hand view c.args.file c.in-Some.last c.args.fault name list title start told c.in-Some.is b) c.in-Ok.ensures.kept

pub returns-in-Err-clause-settles : goal.returns-in-Err-clause-settles
returns-in-Err-clause-settles g c = λ name list start b.
    let view : g.row.H-File.Denot → FileSeen = λ f. file_seen (g.H.File.Sink.holds f) (g.H.File.Sink.faults f) in
    let title = c.args.title.now in
    let told = g.H.House.told c.args.house.now in
    settles_refused c.args.fault name list title (view c.in-Some.last) start told (g.H.House.told c.keep.new.self)
    (in_hand view c.args.file c.in-Some.last c.args.fault name list title start told c.in-Some.is b) c.in-Err.ensures.refused

pub returns-in-Memory-clause-settles : goal.returns-in-Memory-clause-settles
returns-in-Memory-clause-settles g c = λ name list start b.
    let view : g.row.H-File.Denot → FileSeen = λ f. file_seen (g.H.File.Sink.holds f) (g.H.File.Sink.faults f) in
    let title = c.args.title.now in
    let told = g.H.House.told c.args.house.now in
    settles_dropped c.args.fault name list title (view c.in-Some.last) start told
    (in_hand view c.args.file c.in-Some.last c.args.fault name list title start told c.in-Some.is b) c.in-Memory.is
