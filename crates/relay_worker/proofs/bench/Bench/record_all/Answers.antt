use Rattle.std.proofs.Common.{◌≡◌, ◌<◌, ◌∙◌, arith, get_or, length, refl, slice_set, subst}
use Rattle.std.proofs.Math.Seq.{map-set_same}
use Rattle.std.proofs.lemmas.List.Elements.{All-set}
use Rattle.relay_worker.specs.Benches.{IsFiled}
use Rattle.relay_worker.specs.Filed.{TakesTurn, Tallies}
use Rattle.relay_worker.specs.Rounds.{RecordsAt, Walks}
use Rattle.relay_worker.specs.Running.{label_of}
use Rattle.relay_worker.proofs.Sounding.{ahead_refl, ahead_trans, filed_on, get_at, goes_of, label_same, recorded_at, walks_more}
use Rattle.relay_worker.proofs.bench.Bench.record_all.Goals as goal

pub loop-recorder-init : goal.loop-recorder-init
loop-recorder-init g c = record { sound = c.requires.sound; ahead = ahead_refl g.P.StreamPort.fits g.P.StreamPort.rules g.P.StreamPort.root c.args.self.now.port; filed = c.requires.filed; labels = refl; tallies = λ t. t; walk = refl }

pub record-requires-clause-filed : goal.record-requires-clause-filed
record-requires-clause-filed g c κs lives =
    let within : c.loop-recorder.recorder-index < length c.loop-recorder.recorders = omega (arith, c.loop-recorder.auto.recorders, c.loop-recorder-test.true) in
    c.loop-recorder.invariant.filed c.loop-recorder.recorder-index c.recorder-item.result within

pub loop-recorder-preserved : goal.loop-recorder-preserved
loop-recorder-preserved g c =
    let i = c.loop-recorder.invariant in
    let e = c.record.ensures in
    let at = c.loop-recorder.recorder-index in
    let rs = c.loop-recorder.recorders in
    let d = c.recorder-item.result in
    let x = c.loop-recorder.self.port in
    let y = c.record.new.self.port in
    let within : at < length rs = omega (arith, c.loop-recorder.auto.recorders, c.loop-recorder-test.true) in
    let files = TakesTurn g.P.StreamPort.fits g.P.StreamPort.rules g.P.StreamPort.root g.P.StreamPort.busies g.P.StreamPort.seen g.P.StreamPort.mine g.P.StreamPort.count g.P.StreamPort.adds g.P.StreamPort.kin g.P.StreamPort.branches g.K.Sink.takes g.K.Sink.holds in
    let t = e.records.turn in
    record {
      sound = e.sound;
      ahead = ahead_trans g.P.StreamPort.fits g.P.StreamPort.rules g.P.StreamPort.root c.args.self.now.port x y i.ahead e.ahead;
      filed = All-set (IsFiled (g.P.StreamPort.fits y) (length (g.P.StreamPort.rules y).names)) rs at c.record.new.recorder e.filed
          (filed_on g.P.StreamPort.fits g.P.StreamPort.rules x y rs (goes_of g.P.StreamPort.fits g.P.StreamPort.rules g.P.StreamPort.root x y e.ahead) i.filed);
      labels = map-set_same label_of rs at c.record.new.recorder d (label_same (get_or rs at d) c.record.new.recorder t.who t.place t.form t.longest) ∙ i.labels;
      tallies = λ was.
          let all = i.tallies was in
          let tally = Tallies g.P.StreamPort.count g.K.Sink.holds g.K.Sink.faults in
          All-set tally rs at c.record.new.recorder (e.tallies (all at d within)) all;
      walk = walks_more _ at (c.args.self.now, c.args.recorders.now) (c.loop-recorder.self, rs) (c.record.new.self, slice_set rs at c.record.new.recorder) i.walk
          (recorded_at files at (get_or rs at d) c.record.new.recorder c.loop-recorder.self c.record.new.self rs (get_at rs at d within) e.records);
    }

pub returns-clause-records : goal.returns-clause-records
returns-clause-records g c =
    let files = TakesTurn g.P.StreamPort.fits g.P.StreamPort.rules g.P.StreamPort.root g.P.StreamPort.busies g.P.StreamPort.seen g.P.StreamPort.mine g.P.StreamPort.count g.P.StreamPort.adds g.P.StreamPort.kin g.P.StreamPort.branches g.K.Sink.takes g.K.Sink.holds in
    let e : c.loop-recorder.recorder-index ≡ length c.args.recorders.now = omega (arith, c.loop-recorder.auto.recorder-index-end, c.loop-recorder-test.false) in
    subst (λ n. Walks (RecordsAt files) n (c.args.self.now, c.args.recorders.now) (c.loop-recorder.self, c.loop-recorder.recorders)) e c.loop-recorder.invariant.walk
