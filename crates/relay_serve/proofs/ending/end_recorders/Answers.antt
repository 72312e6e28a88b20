use Rattle.std.proofs.Common.{◌≡◌, ◌∙◌, sym, ap, subst, refl, [], ◌∷◌, ◌++◌, append_assoc, append-nil, length, Some, arith}
use Rattle.std.specs.Prelude.{Contains, map, reverse}
use Rattle.std.proofs.lemmas.List.{nil_from_length, reverse-append, reverse-reverse}
use Rattle.std.proofs.lemmas.List.Elements.{All-pop, All-same}
use Rattle.relay_worker.specs.Running.{label_of}
use Rattle.stream_registry.specs.Gates.{told_at}
use Rattle.stream_registry.specs.Names.{PortRules}
use Rattle.stream_registry.specs.SharedState.{shared_rules}
use Rattle.relay_serve.specs.Recorded.{IsRecorded}
use Rattle.relay_serve.specs.Starts.{HasTally, IsFiledBy}
use Rattle.relay_serve.proofs.Counted.{later_same, later_then}
use Rattle.relay_serve.proofs.Numbered.{all_reverse}
use Rattle.relay_serve.proofs.Recording.{recorded_then}
use Rattle.relay_serve.proofs.Settling.{and_true}
use Rattle.relay_serve.proofs.Telling.{more_same, none_more}
use Rattle.relay_serve.proofs.ending.end_recorders.Goals as goal

pub end_recorder-whole-requires-clause-filed : goal.end_recorder-whole-requires-clause-filed
end_recorder-whole-requires-clause-filed g c κs within =
    subst (λ (q : PortRules). IsFiledBy q c.in-Some.recorder) (sym c.loop-recorder.invariant.rules)
    (All-pop (IsFiledBy (shared_rules c.args.port.now)) c.loop-recorder.recorders.items c.pop.new.self.items (Some c.in-Some.recorder) c.in-Some.ensures.items
    c.loop-recorder.invariant.filed).1

pub end_recorder-whole-requires-clause-tally : goal.end_recorder-whole-requires-clause-tally
end_recorder-whole-requires-clause-tally g c κs within =
    (All-pop (HasTally g.H.File.Sink.holds g.H.File.Sink.faults) c.loop-recorder.recorders.items c.pop.new.self.items (Some c.in-Some.recorder) c.in-Some.ensures.items
    c.loop-recorder.invariant.tallies).1

pub loop-recorder-init : goal.loop-recorder-init
loop-recorder-init g c =
    let reversed = c.reverse.ensures.items in
    record {
      filed = All-same (IsFiledBy (shared_rules c.args.port.now)) _ _ reversed (all_reverse (IsFiledBy (shared_rules c.args.port.now)) c.args.recorders.items c.requires.filed);
      tallies = All-same (HasTally g.H.File.Sink.holds g.H.File.Sink.faults) _ _ reversed
          (all_reverse (HasTally g.H.File.Sink.holds g.H.File.Sink.faults) c.args.recorders.items c.requires.tallies);
      rules = refl;
      grown = later_same (told_at c.args.port.now.roots);
      faults = refl;
      asked = refl;
      named = refl;
      shut = refl;
      noted = λ q h. h;
      done = [];
      left = ap (map label_of) (ap reverse reversed ∙ reverse-reverse c.args.recorders.items);
      kept = λ w. none_more
          (IsRecorded (shared_rules c.args.port.now).limits (told_at c.args.port.now.roots) (told_at c.args.port.now.roots) (Contains c.args.full.now.items) c.args.places.now)
          (g.H.House.told c.args.house.now).kept;
    }

pub loop-recorder-preserved : goal.loop-recorder-preserved
loop-recorder-preserved g c =
    let i = c.loop-recorder.invariant in
    let e = c.end_recorder-whole.ensures in
    let ys = c.pop.new.self.items in
    let x = c.in-Some.recorder in
    record {
      filed = (All-pop (IsFiledBy (shared_rules c.args.port.now)) c.loop-recorder.recorders.items ys (Some x) c.in-Some.ensures.items i.filed).0;
      tallies = (All-pop (HasTally g.H.File.Sink.holds g.H.File.Sink.faults) c.loop-recorder.recorders.items ys (Some x) c.in-Some.ensures.items i.tallies).0;
      rules = e.rules ∙ i.rules;
      grown = later_then (told_at c.args.port.now.roots) (told_at c.loop-recorder.port.roots) (told_at c.end_recorder-whole.new.port.roots) i.grown e.grown;
      faults = e.faults ∙ i.faults;
      asked = e.asked ∙ i.asked;
      named = e.named ∙ i.named;
      shut = e.shut ∙ i.shut;
      noted = λ q h. e.noted q (i.noted q h);
      done = i.done ++ label_of x ∷ [];
      left = append_assoc i.done (label_of x ∷ []) (map label_of (reverse ys))
          ∙ (ap (λ l. i.done ++ map label_of l) (sym (ap reverse c.in-Some.ensures.items ∙ reverse-append ys (x ∷ []))) ∙ i.left);
      kept = λ w.
          let both = and_true c.loop-recorder.whole c.end_recorder-whole.result w in
          recorded_then (shared_rules c.args.port.now) (shared_rules c.loop-recorder.port) (told_at c.args.port.now.roots) (told_at c.loop-recorder.port.roots)
          (told_at c.end_recorder-whole.new.port.roots) (Contains c.loop-recorder.full.items) (Contains c.end_recorder-whole.new.full.items) c.args.places.now i.done (label_of x ∷ []) (g.H.House.told c.args.house.now).kept
          (g.H.House.told c.loop-recorder.house).kept (g.H.House.told c.end_recorder-whole.new.house).kept i.rules i.grown e.grown e.noted (i.kept both.0) (e.kept both.1);
    }

pub returns-clause-kept : goal.returns-clause-kept
returns-clause-kept g c = λ w.
    let i = c.loop-recorder.invariant in
    let zero : length c.loop-recorder.recorders.items ≡ 0 = omega (arith, c.in_default.ensures.cases.0, c.loop-recorder.recorders.ok.0) in
    let none = nil_from_length c.loop-recorder.recorders.items zero in
    let all : i.done ≡ map label_of c.args.recorders.items =
    sym (append-nil i.done) ∙ (ap (λ l. i.done ++ map label_of (reverse l)) (sym none) ∙ i.left) in
    more_same (IsRecorded (shared_rules c.args.port.now).limits (told_at c.args.port.now.roots) (told_at c.loop-recorder.port.roots) (Contains c.loop-recorder.full.items) c.args.places.now) i.done _
    (g.H.House.told c.args.house.now).kept (g.H.House.told c.args.house.now).kept (g.H.House.told c.loop-recorder.house).kept all refl (i.kept w)
