use Rattle.std.proofs.Common.{◌≡◌, ◌<◌, ◌∙◌, arith, length, refl, true}
use Rattle.std.proofs.Math.Seq.{map-set_same}
use Rattle.std.proofs.lemmas.List.Elements.{All-set}
use Rattle.relay_worker.specs.Benches.{IsFiled}
use Rattle.relay_worker.specs.Filed.{Tallies, is_ready}
use Rattle.relay_worker.specs.Running.{label_of}
use Rattle.relay_worker.proofs.Numbered.{first_set}
use Rattle.relay_worker.proofs.Sounding.{ahead_refl, ahead_trans, filed_on, goes_of, readied_same, readied_then}
use Rattle.relay_worker.proofs.bench.Bench.ready_all.Goals as goal

pub loop-recorder-init : goal.loop-recorder-init
loop-recorder-init g c = record {
  sound = c.requires.sound;
  ahead = ahead_refl g.P.StreamPort.fits g.P.StreamPort.rules g.P.StreamPort.root c.args.self.now.port;
  filed = c.requires.filed;
  labels = refl;
  tallies = λ t. t;
  ready = λ i d le. absurd (omega (arith, le));
  readied = readied_same c.args.self.now;
}

pub ready-requires-clause-filed : goal.ready-requires-clause-filed
ready-requires-clause-filed g c κs lives =
    let within : c.loop-recorder.recorder-index < length c.loop-recorder.recorders = omega (arith, c.loop-recorder.auto.recorders, c.loop-recorder-test.true) in
    c.loop-recorder.invariant.filed c.loop-recorder.recorder-index c.recorder-item.result within

pub loop-recorder-preserved : goal.loop-recorder-preserved
loop-recorder-preserved g c =
    let i = c.loop-recorder.invariant in
    let e = c.ready.ensures in
    let at = c.loop-recorder.recorder-index in
    let rs = c.loop-recorder.recorders in
    let d = c.recorder-item.result in
    let x = c.loop-recorder.self.port in
    let y = c.ready.new.self.port in
    let within : at < length rs = omega (arith, c.loop-recorder.auto.recorders, c.loop-recorder-test.true) in
    record {
      sound = e.sound;
      ahead = ahead_trans g.P.StreamPort.fits g.P.StreamPort.rules g.P.StreamPort.root c.args.self.now.port x y i.ahead e.ahead;
      filed = All-set (IsFiled (g.P.StreamPort.fits y) (length (g.P.StreamPort.rules y).names)) rs at c.ready.new.recorder e.filed
          (filed_on g.P.StreamPort.fits g.P.StreamPort.rules x y rs (goes_of g.P.StreamPort.fits g.P.StreamPort.rules g.P.StreamPort.root x y e.ahead) i.filed);
      labels = map-set_same label_of rs at c.ready.new.recorder d e.label ∙ i.labels;
      tallies = λ was.
          let all = i.tallies was in
          let tally = Tallies g.P.StreamPort.count g.K.Sink.holds g.K.Sink.faults in
          All-set tally rs at c.ready.new.recorder (e.tallies (all at d within)) all;
      ready = first_set (λ r. is_ready r ≡ true) rs at c.ready.new.recorder within i.ready e.ready;
      readied = readied_then c.args.self.now c.loop-recorder.self c.ready.new.self i.readied e.readied;
    }

pub returns-clause-ready : goal.returns-clause-ready
returns-clause-ready g c =
    let e : c.loop-recorder.recorder-index ≡ length c.args.recorders.now = omega (arith, c.loop-recorder.auto.recorder-index-end, c.loop-recorder-test.false) in
    λ i d le. c.loop-recorder.invariant.ready i d (omega (arith, le, e, c.loop-recorder.auto.recorders))
