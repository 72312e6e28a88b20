use Rattle.std.proofs.Common.{ap, refl, sym}
use Rattle.slab.specs.Slab.{get}
use Rattle.http_flv.specs.PlayerState.{Lasting}
use Rattle.http_worker.specs.Players.{TakesTurn}
use Rattle.relay_worker.proofs.Slabs.{put_len, put_updates}
use Rattle.relay_worker.proofs.Sounding.{goes_of, over_if}
use Rattle.http_worker.proofs.Sounding.{living_at, seated_turned, sound_put, turns_lives, turns_over}
use Rattle.http_worker.proofs.bench.Bench.turn_at.Goals as goal

pub returns-then-seated-clause-turns : goal.returns-then-seated-clause-turns
returns-then-seated-clause-turns g c =
    let takes = TakesTurn g.P.StreamPort.fits g.P.StreamPort.rules g.P.StreamPort.root g.P.StreamPort.seen g.P.StreamPort.count g.P.StreamPort.wants
    g.P.StreamPort.busies g.P.StreamPort.adds g.P.StreamPort.kin g.P.StreamPort.branches (g.G.Desk.grants c.args.desk.now) g.D.Link.Link.counts g.D.Link.Link.hears g.D.Link.Link.says in
    let b = c.args.self.now in
    let s = c.in-Some.seated.now in
    let at = sym c.in-Some.ensures in
    let over = over_if s.player.ended s.over (c.requires.sound.seated c.args.key s at).over c.if-seated.true in
    turns_over takes g.P.StreamPort.busies g.D.Link.Link.ready c.args.key s b at over

pub turn-answer-requires-clause-living : goal.turn-answer-requires-clause-living
turn-answer-requires-clause-living g c =
    let s = c.in-Some.seated.now in
    living_at (get c.args.self.now.players c.args.key) s c.in-Some-get_mut.seated.now c.in-Some.ensures c.in-Some-get_mut.ensures.value
    (c.requires.sound.seated c.args.key s (sym c.in-Some.ensures)).over c.if-seated.false

pub turn-answer-requires-clause-at : goal.turn-answer-requires-clause-at
turn-answer-requires-clause-at g c =
    let s = c.in-Some.seated.now in
    (c.requires.sound.seated c.args.key c.in-Some-get_mut.seated.now (sym c.in-Some-get_mut.ensures.value)).at
    (living_at (get c.args.self.now.players c.args.key) s c.in-Some-get_mut.seated.now c.in-Some.ensures c.in-Some-get_mut.ensures.value
    (c.requires.sound.seated c.args.key s (sym c.in-Some.ensures)).over c.if-seated.false)

pub returns-clause-sound : goal.returns-clause-sound
returns-clause-sound g c =
    let b = c.args.self.now in
    let s = c.in-Some-get_mut.seated.now in
    let n = c.turn-answer.new.self in
    let e = c.turn-answer.ensures in
    let w = c.requires.sound in
    sound_put g.P.StreamPort.fits g.P.StreamPort.rules g.D.Door.told c.args.terms.now b _ c.args.key s n w (sym c.in-Some-get_mut.ensures.value)
    (put_updates b.players c.args.key s n (sym c.in-Some-get_mut.ensures.value)) (put_len b.players c.args.key s n (sym c.in-Some-get_mut.ensures.value)) refl
    (goes_of g.P.StreamPort.fits g.P.StreamPort.rules g.P.StreamPort.root b.port c.turn-answer.new.port e.ahead)
    (seated_turned g.P.StreamPort.fits g.P.StreamPort.rules c.turn-answer.new.port b.had s n
    (w.seated c.args.key s (sym c.in-Some-get_mut.ensures.value)).named (ap (λ (l : Lasting). l.who) e.turn.lasts) e.at e.over)
    (ap (λ (l : Lasting). l.who) e.turn.lasts) refl refl refl

pub returns-clause-turns : goal.returns-clause-turns
returns-clause-turns g c =
    let takes = TakesTurn g.P.StreamPort.fits g.P.StreamPort.rules g.P.StreamPort.root g.P.StreamPort.seen g.P.StreamPort.count g.P.StreamPort.wants
    g.P.StreamPort.busies g.P.StreamPort.adds g.P.StreamPort.kin g.P.StreamPort.branches (g.G.Desk.grants c.args.desk.now) g.D.Link.Link.counts g.D.Link.Link.hears g.D.Link.Link.says in
    let b = c.args.self.now in
    let s = c.in-Some.seated.now in
    let u = c.in-Some-get_mut.seated.now in
    let n = c.turn-answer.new.self in
    turns_lives takes g.P.StreamPort.busies g.D.Link.Link.ready c.args.key u b _ (sym c.in-Some-get_mut.ensures.value)
    (living_at (get b.players c.args.key) s u c.in-Some.ensures c.in-Some-get_mut.ensures.value
    (c.requires.sound.seated c.args.key s (sym c.in-Some.ensures)).over c.if-seated.false)
    (record {
      now = n;
      answer = c.turn-answer.result;
      turn = c.turn-answer.ensures.turn;
      due = c.turn-answer.ensures.due;
      there = put_updates b.players c.args.key u n (sym c.in-Some-get_mut.ensures.value);
      count = put_len b.players c.args.key u n (sym c.in-Some-get_mut.ensures.value);
      same = rw (c.is_moved.ensures, c.is_spent.ensures, c.is_worn.ensures) refl;
    })
