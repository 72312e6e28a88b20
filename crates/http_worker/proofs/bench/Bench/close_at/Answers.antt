use Rattle.std.proofs.Common.{◌∙◌, ap, refl, subst, sym}
use Rattle.std.specs.Prelude.{Some}
use Rattle.slab.specs.Slab.{Updates, get}
use Rattle.relay_worker.specs.Running.{GoesAhead}
use Rattle.http_worker.specs.Players.{Closes}
use Rattle.relay_worker.proofs.Slabs.{again}
use Rattle.relay_worker.proofs.Sounding.{goes_of, lives_if}
use Rattle.http_worker.proofs.Sounding.{closes_lives, closes_over, ended_at, goes_left, goes_stays, is_gone, left_is, over_same, seated_left}
use Rattle.http_worker.proofs.Sounding.{sound_back, sound_put}
use Rattle.http_worker.proofs.bench.Bench.close_at.Goals as goal

pub returns-then-not-seated-clause-closes : goal.returns-then-not-seated-clause-closes
returns-then-not-seated-clause-closes g c =
    let b = c.args.self.now in
    let s = c.in-Some.seated.now in
    closes_lives g.D.Link.Link.told g.D.Link.Link.counts g.D.Door.told
    (Closes g.P.StreamPort.fits g.P.StreamPort.rules g.P.StreamPort.root g.P.StreamPort.seen g.P.StreamPort.count g.P.StreamPort.wants
    g.P.StreamPort.busies g.P.StreamPort.adds g.P.StreamPort.kin g.P.StreamPort.branches) c.args.key s b (sym c.in-Some.ensures)
    (lives_if s.player.ended s.over (c.requires.sound.seated c.args.key s (sym c.in-Some.ensures)).over c.if-not-seated.true)

pub close-answer-requires-clause-fit : goal.close-answer-requires-clause-fit
close-answer-requires-clause-fit g c = (c.requires.sound.seated c.args.key c.in-Some-try_remove.seated (sym c.in-Some-try_remove.ensures.value)).fit

pub close-answer-requires-clause-over : goal.close-answer-requires-clause-over
close-answer-requires-clause-over g c =
    let s = c.in-Some.seated.now in
    ended_at (get c.args.self.now.players c.args.key) s c.in-Some-try_remove.seated c.in-Some.ensures c.in-Some-try_remove.ensures.value
    (c.requires.sound.seated c.args.key s (sym c.in-Some.ensures)).over c.if-not-seated.false

pub returns-then-has_left-clause-sound : goal.returns-then-has_left-clause-sound
returns-then-has_left-clause-sound g c =
    let b = c.args.self.now in
    let u = c.in-Some-try_remove.seated in
    let n = c.close-answer.new.self in
    let e = c.close-answer.ensures in
    let r = c.in-Some-try_remove.ensures in
    let h = c.hand_back.ensures in
    let b' = c.hand_back.new.self in
    let gone = is_gone g.D.Link.Link.told g.D.Link.Link.counts g.D.Door.told c.args.key u b b' c.try_remove.new.self n.link r.updates r.len h.players
    (ap (λ x. x.link) e.link) h.back in
    sound_back g.D.Link.Link.told g.D.Link.Link.counts g.D.Door.told g.P.StreamPort.fits g.P.StreamPort.rules c.args.terms.now b b' c.args.key u
    c.requires.sound gone (ap (λ l. l.capacity) h.players ∙ r.capacity)
    (goes_of g.P.StreamPort.fits g.P.StreamPort.rules g.P.StreamPort.root b.port b'.port
    (subst (λ p. GoesAhead g.P.StreamPort.fits g.P.StreamPort.rules g.P.StreamPort.root b.port p) (sym h.port) e.ahead))

pub returns-then-has_left-clause-closes : goal.returns-then-has_left-clause-closes
returns-then-has_left-clause-closes g c =
    let b = c.args.self.now in
    let s = c.in-Some.seated.now in
    let u = c.in-Some-try_remove.seated in
    let n = c.close-answer.new.self in
    let e = c.close-answer.ensures in
    let r = c.in-Some-try_remove.ensures in
    let h = c.hand_back.ensures in
    let b' = c.hand_back.new.self in
    let gone = is_gone g.D.Link.Link.told g.D.Link.Link.counts g.D.Door.told c.args.key u b b' c.try_remove.new.self n.link r.updates r.len h.players
    (ap (λ x. x.link) e.link) h.back in
    let closes = Closes g.P.StreamPort.fits g.P.StreamPort.rules g.P.StreamPort.root g.P.StreamPort.seen g.P.StreamPort.count g.P.StreamPort.wants
    g.P.StreamPort.busies g.P.StreamPort.adds g.P.StreamPort.kin g.P.StreamPort.branches in
    closes_over g.D.Link.Link.told g.D.Link.Link.counts g.D.Door.told closes c.args.key u b b' (sym r.value)
    (ended_at (get b.players c.args.key) s u c.in-Some.ensures r.value (c.requires.sound.seated c.args.key s (sym c.in-Some.ensures)).over
    c.if-not-seated.false)
    (record {
      answer = c.close-answer.result;
      now = n.player;
      close = subst (λ p. closes b.port u.player c.close-answer.result p n.player) (sym h.port) e.closes;
      goes = goes_left g.D.Link.Link.told g.D.Link.Link.counts g.D.Door.told c.args.key u n.player b b' _ _ c.has_left.ensures c.if-has_left.true gone;
    })

pub returns-clause-sound : goal.returns-clause-sound
returns-clause-sound g c =
    let b = c.args.self.now in
    let s = c.in-Some.seated.now in
    let u = c.in-Some-try_remove.seated in
    let n = c.close-answer.new.self in
    let e = c.close-answer.ensures in
    let r = c.in-Some-try_remove.ensures in
    let i = c.insert_reserved.ensures in
    let w = c.requires.sound in
    sound_put g.P.StreamPort.fits g.P.StreamPort.rules g.D.Door.told c.args.terms.now b _ c.args.key u n w (sym r.value)
    (again b.players c.try_remove.new.self c.insert_reserved.new.self c.args.key c.insert_reserved.result n r.updates (i.key ∙ r.key_is_next) i.updates)
    (i.len ∙ r.len) (i.capacity ∙ r.capacity)
    (goes_of g.P.StreamPort.fits g.P.StreamPort.rules g.P.StreamPort.root b.port c.close-answer.new.port e.ahead)
    (seated_left g.P.StreamPort.fits g.P.StreamPort.rules c.close-answer.new.port b.had u n (w.seated c.args.key u (sym r.value)).named e.who e.closes.fit
    (over_same (get b.players c.args.key) s u n c.in-Some.ensures r.value c.if-not-seated.false e.link) e.over)
    e.who refl refl refl

pub returns-clause-closes : goal.returns-clause-closes
returns-clause-closes g c =
    let b = c.args.self.now in
    let s = c.in-Some.seated.now in
    let u = c.in-Some-try_remove.seated in
    let n = c.close-answer.new.self in
    let e = c.close-answer.ensures in
    let r = c.in-Some-try_remove.ensures in
    let i = c.insert_reserved.ensures in
    let over = over_same (get b.players c.args.key) s u n c.in-Some.ensures r.value c.if-not-seated.false e.link in
    closes_over g.D.Link.Link.told g.D.Link.Link.counts g.D.Door.told
    (Closes g.P.StreamPort.fits g.P.StreamPort.rules g.P.StreamPort.root g.P.StreamPort.seen g.P.StreamPort.count g.P.StreamPort.wants
    g.P.StreamPort.busies g.P.StreamPort.adds g.P.StreamPort.kin g.P.StreamPort.branches) c.args.key u b _ (sym r.value)
    (ended_at (get b.players c.args.key) s u c.in-Some.ensures r.value (c.requires.sound.seated c.args.key s (sym c.in-Some.ensures)).over
    c.if-not-seated.false)
    (record {
      answer = c.close-answer.result;
      now = n.player;
      close = e.closes;
      goes = goes_stays g.D.Link.Link.told g.D.Link.Link.counts g.D.Door.told c.args.key u n.player b _ _ _ c.has_left.ensures c.if-has_left.false
          (record {
            there = subst (λ x. Updates b.players c.insert_reserved.new.self c.args.key (Some x)) (left_is u n e.link over)
                (again b.players c.try_remove.new.self c.insert_reserved.new.self c.args.key c.insert_reserved.result n r.updates (i.key ∙ r.key_is_next)
                i.updates);
            count = i.len ∙ r.len;
            same = refl;
          });
    })
