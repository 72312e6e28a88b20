use Rattle.std.proofs.Common.{rules, ◌≡◌, ◌&&◌, subst, true}
use Rattle.std.specs.Prelude.{Contains}
use Rattle.stream_registry.specs.Gates.{told_at}
use Rattle.stream_registry.specs.SharedState.{shared_rules}
use Rattle.relay_outside.specs.Houses.{kept_file}
use Rattle.relay_worker.specs.Running.{label_of}
use Rattle.relay_serve.specs.Recorded.{IsRecorded}
use Rattle.relay_serve.proofs.Recording.{recorded_by}
use Rattle.relay_serve.proofs.Settling.{and_true}
use Rattle.relay_serve.proofs.Telling.{one_more}
use Rattle.relay_serve.proofs.ending.end_recorder.Goals as goal

pub returns-clause-kept : goal.returns-clause-kept
returns-clause-kept g c = λ whole.
    let last = and_true (c.keep-kept.result && c.finish-end.result.whole) c.note-noted.result whole in
    let both = and_true c.keep-kept.result c.finish-end.result.whole last.0 in
    let kept = c.keep-kept.ensures.kept both.0 in
    let label = label_of c.args.recorder in
    let full = Contains c.note-noted.new.full.items in
    let R = IsRecorded (shared_rules c.args.port.now).limits (told_at c.args.port.now.roots) (told_at c.finish-end.new.port.roots) full c.args.places.now in
    one_more R label (g.H.House.told c.args.house.now).kept (g.H.House.told c.keep-kept.new.house).kept
    (kept_file kept.0 (g.H.File.Sink.holds c.finish-end.result.file) (g.H.File.Sink.faults c.finish-end.result.file)) kept.2
    (recorded_by (shared_rules c.args.port.now).limits (told_at c.args.port.now.roots) (told_at c.finish-end.new.port.roots) (λ _. c.finish-end.result.worn ≡ true) full
    c.args.places.now label kept.0 (g.H.File.Sink.holds c.finish-end.result.file) (g.H.File.Sink.faults c.finish-end.result.file)
    (search (rules, kept.1)) (λ worn. subst full c.place-place.ensures (c.note-noted.ensures.noted last.1 worn)) (c.finish-end.ensures.records both.1))
