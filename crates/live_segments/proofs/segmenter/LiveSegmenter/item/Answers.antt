use Rattle.std.proofs.Common.{◌≡◌}
use Rattle.live_segments.specs.declared.cut.CutFail.TheVariants.{TooMany}
use Rattle.live_segments.proofs.Moves.{bytes_are, cut_is, goes_on, too_many}
use Rattle.live_segments.proofs.segmenter.LiveSegmenter.item.Goals as goal

pub invariant_of-self : goal.invariant_of-self
invariant_of-self c =
    let s = c.self.inside in
    let w = c.write.new in
    let e = c.in-Ok.ensures in
    goes_on s.target s.keep s.writer w.writer s.pictures w.pictures s.lost w.lost s.cutter w.cutter s.rows w.rows s.end s.items c.add.new.self c.args.item.now c.in-Ok.cut c.self.invariant c.in_default.is e.cut e.lost
    e.given e.listed e.moved e.rows c.add.ensures

pub returns-in-Ok-clause-bytes : goal.returns-in-Ok-clause-bytes
returns-in-Ok-clause-bytes c =
    let s = c.self.inside in
    rw (← c.self.view_is)
    (bytes_are s.target s.keep s.writer s.pictures s.lost s.cutter s.rows s.end s.items c.args.item.now c.in-Ok.cut c.args.out.now c.write.new.out c.self.invariant c.in_default.is c.in-Ok.ensures.cut c.in-Ok.ensures.text)

pub returns-in-Ok-clause-cut : goal.returns-in-Ok-clause-cut
returns-in-Ok-clause-cut c =
    let s = c.self.inside in
    rw (← c.self.view_is) (cut_is s.target s.keep s.writer s.pictures s.lost s.cutter s.rows s.end s.items c.args.item.now c.in-Ok.cut c.self.invariant c.in_default.is c.in-Ok.ensures.cut)

pub returns-in-Err-clause-too_many : goal.returns-in-Err-clause-too_many
returns-in-Err-clause-too_many c = λ none e.
    let s = c.self.inside in
    let h : c.in-Err.fail ≡ TooMany = cc in
    rw (← c.self.view_is) (too_many s.target s.keep s.writer s.pictures s.lost s.cutter s.rows s.end s.items c.self.invariant (c.in-Err.ensures.full h))
