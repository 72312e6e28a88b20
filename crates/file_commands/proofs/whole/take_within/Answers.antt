use Rattle.std.proofs.Common.{◌++◌, ◌≤◌, ◌<◌, ◌≡◌, ◌+◌, ◌-◌, ◌^◌, length, arith, length-append, rules}
use Rattle.file_commands.proofs.Pieces.{take_result, front_fails, too_long}
use Rattle.file_commands.proofs.whole.take_within.Goals as goal

pub returns-then-piece-room-clause-goes : goal.returns-then-piece-room-clause-goes
returns-then-piece-room-clause-goes g c = λ before w.
    let C = g.C.Convert in
    let fed = C.fed c.args.file.now in
    let near : length (fed ++ c.args.piece.now) ≤ 2 ^ 36 = omega (arith, length-append fed c.args.piece.now, c.if-piece-room.true, c.requires.place, c.requires.near) in
    take_result C.gives C.stops c.take_piece.result (C.given c.take_piece.new.file) (fed ++ c.args.piece.now) c.take_piece.new.text before
    (g.K.Sink.holds c.take_piece.new.out) near (c.take_piece.ensures.goes before w)

pub returns-in_err-take_piece-clause-goes : goal.returns-in_err-take_piece-clause-goes
returns-in_err-take_piece-clause-goes g c = λ before w.
    let C = g.C.Convert in
    let fed = C.fed c.args.file.now in
    let near : length fed + (2 ^ 36 - c.args.place) ≤ 2 ^ 36 = omega (arith, c.requires.place, c.requires.near) in
    let h = front_fails C.gives C.stops c.in_err-take_piece.field-0.0 fed c.args.piece.now (2 ^ 36 - c.args.place) c.take_piece-2.new.text before
    (g.K.Sink.holds c.take_piece-2.new.out) near (c.in_err-take_piece.ensures.goes before w) in
    search (rules, h)

pub returns-clause-goes : goal.returns-clause-goes
returns-clause-goes g c = λ before w.
    let C = g.C.Convert in
    let fed = C.fed c.args.file.now in
    let file = c.take_piece-2.new.file in
    let full : length fed + (2 ^ 36 - c.args.place) ≡ 2 ^ 36 = omega (arith, c.requires.place, c.requires.near) in
    let more : 2 ^ 36 - c.args.place < length c.args.piece.now = omega (arith, c.if-piece-room.false) in
    too_long C.gives C.stops fed (C.fed file) c.args.piece.now (C.given file) c.take_piece-2.new.text (2 ^ 36 - c.args.place) before
    (g.K.Sink.holds c.take_piece-2.new.out) full more c.in_ok-take_piece.ensures.fed (g.met.C.Convert.reads file c.in_ok-take_piece.ensures.fits)
    (c.in_ok-take_piece.ensures.goes before w)
