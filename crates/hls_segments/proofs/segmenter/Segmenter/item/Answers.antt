use Rattle.std.proofs.Common.{◌≡◌}
use Rattle.hls_segments.specs.declared.cut.CutFail.TheVariants.{TooMany}
use Rattle.hls_segments.proofs.Steps.{cut_is, full_too_many, goes_on, room_is}
use Rattle.hls_segments.proofs.segmenter.Segmenter.item.Goals as goal

pub invariant_of-self : goal.invariant_of-self
invariant_of-self c =
    let s = c.self.inside in
    let w = c.write.new in
    let e = c.in-Ok.ensures in
    goes_on s.span s.writer w.writer s.pictures w.pictures s.omits w.left_out s.times w.times s.end s.items c.add.new.self c.args.item.now c.self.invariant c.in_default.is
    e.given e.listed e.left_out e.ticked c.add.ensures

pub returns-in-Ok-clause-cut : goal.returns-in-Ok-clause-cut
returns-in-Ok-clause-cut c =
    let s = c.self.inside in
    rw (← c.self.view_is) (cut_is s.span s.writer s.pictures s.omits s.times s.end s.items c.args.item.now c.in-Ok.cut c.self.invariant c.in_default.is c.in-Ok.ensures.cut)

pub returns-in-Ok-clause-room : goal.returns-in-Ok-clause-room
returns-in-Ok-clause-room c =
    let s = c.self.inside in
    rw (← c.self.view_is)
    (room_is s.span s.writer s.pictures s.omits s.times s.end s.items c.args.item.now c.in-Ok.cut c.self.invariant c.in_default.is c.in-Ok.ensures.cut c.in-Ok.ensures.room)

pub returns-in-Err-clause-too_many : goal.returns-in-Err-clause-too_many
returns-in-Err-clause-too_many c = λ none e.
    let s = c.self.inside in
    let h : c.in-Err.fail ≡ TooMany = cc in
    let f = c.in-Err.ensures.full h in
    rw (← c.self.view_is) (full_too_many s.span s.writer s.pictures s.omits s.times s.end s.items c.args.item.now c.self.invariant c.in_default.is f.0 f.1)
