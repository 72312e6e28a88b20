use Rattle.std.proofs.Common.{◌∙◌, ◌+◌, ◌-◌, ◌++◌, List, length, take, drop, arith}
use Rattle.std.specs.Prelude.{map}
use Rattle.relay_config.specs.declared.config.PlaceRule.{PlaceRule}
use Rattle.relay_worker.specs.Running.{label_of}
use Rattle.relay_serve.specs.Recordings.{names_from, names_of, own_from, recordings_of, with_names}
use Rattle.relay_serve.proofs.Enlisting.{labels_more, own_at, own_more, rest_length}
use Rattle.relay_serve.proofs.Naming.{named_more, names_more, names_one}
use Rattle.relay_serve.proofs.starting.open_own.Goals as goal

pub loop-left-preserved : goal.loop-left-preserved
loop-left-preserved g c =
    let i = c.loop-left.invariant in
    let e = c.in_ok-open_own_place.ensures.enlists in
    let left = c.loop-left.left.now in
    let rest : List PlaceRule = take (length left - 1) (drop 1 left) in
    let some = c.in-len1-up.len_at_least in
    let workers = c.args.config.now.workers in
    let longest = c.args.config.now.limits.max_message in
    let own = own_at longest workers c.args.number c.loop-left.place c.rule-item.result in
    record {
      at = omega (arith, rest_length left some, i.at);
      bench = e.bench ∙ i.bench;
      terms = e.terms ∙ i.terms;
      labels = labels_more (map label_of c.loop-left.worker.recorders) (map label_of c.open_own_place.new.worker.recorders) own
          (own_from longest workers c.args.number (c.loop-left.place + 1) rest) (own_from longest workers c.args.number c.loop-left.place left)
          (map label_of c.args.worker.now.recorders ++ recordings_of c.args.config.now c.args.number) e.labels
          (own_more longest workers c.args.number c.loop-left.place left c.rule-item.result some c.rule-item.is) i.labels;
      tallies = λ all. e.tallies (i.tallies all);
      house = c.in_ok-open_own_place.ensures.house ∙ i.house;
      asked = c.open_own_place.ensures.asked ∙ i.asked;
      named = named_more (g.H.House.named c.loop-left.house) (g.H.House.named c.open_own_place.new.house) (names_one workers c.args.number c.loop-left.place c.rule-item.result)
          (names_from workers c.args.number (c.loop-left.place + 1) rest) (names_from workers c.args.number c.loop-left.place left)
          (with_names (g.H.House.named c.args.house.now) (names_of c.args.config.now c.args.number)) c.in_ok-open_own_place.ensures.named
          (names_more workers c.args.number c.loop-left.place left c.rule-item.result some c.rule-item.is) i.named;
    }
