use Rattle.std.proofs.Common.{rules, Bool, ◌||◌, None, ℕ, List, Option, ◌≡◌, ◌∙◌, refl, sym, ap, subst, arith, length}
use Rattle.std.specs.List.{range_with_len}
use Rattle.std.proofs.lemmas.List.Elements.{All-weaker}
use Rattle.std.specs.Prelude.{All, Contains, IfSome, slice_get}
use Rattle.std.specs.Option.{option_map}
use Rattle.relay_outside.specs.Houses.{Asked, KeptFile}
use Rattle.stream_registry.specs.Names.{PortRules}
use Rattle.stream_registry.specs.Gates.{told_at}
use Rattle.stream_registry.specs.Refusals.{IsFull}
use Rattle.stream_registry.specs.Roots.{seen_at}
use Rattle.stream_registry.specs.SharedState.{shared_rules}
use Rattle.relay_serve.specs.Ends.{Reports, seen}
use Rattle.relay_serve.specs.Places.{places_in}
use Rattle.relay_serve.specs.Lasts.{AllEnd, IsWorn}
use Rattle.relay_serve.specs.Recorded.{IsRecorded}
use Rattle.relay_serve.specs.Recordings.{recordings_upto}
use Rattle.relay_serve.specs.Http.{AsksAll, LeftHttp}
use Rattle.relay_serve.specs.Settling.{IsBalanced, IsLeft, IsShut, TellsMore}
use Rattle.relay_serve.specs.Starts.{HasRules}
use Rattle.relay_serve.proofs.Counted.{later_same, later_then}
use Rattle.relay_serve.proofs.Recording.{recorded_later}
use Rattle.relay_serve.proofs.Players.{left_worn}
use Rattle.relay_serve.proofs.Settling.{and_true, balanced_later, balanced_worn, or_false, or_false_first, or_false_last, told_or}
use Rattle.relay_serve.proofs.Telling.{more_same, more_weaker}
use Rattle.relay_serve.proofs.serving.conclude.Goals as goal

pub end_all-ended-requires-clause-numbered : goal.end_all-ended-requires-clause-numbered
end_all-ended-requires-clause-numbered g c κs within = λ i d l. c.in-Ok.ensures.numbered i d l ∙ sym c.in-Ok.ensures.each

pub end_all-ended-requires-clause-left : goal.end_all-ended-requires-clause-left
end_all-ended-requires-clause-left g c κs within =
    subst (λ (q : PortRules). All (λ x. IsLeft c.args.config.now g.H.File.Sink.holds g.H.File.Sink.faults q x.number (g.H.Door.Door.told x.door) x.recorders.items) c.in-Ok.left.list.items)
    (sym (c.take_http_apart-players.ensures.rules ∙ c.take_all_apart.ensures.rules)) c.in-Ok.ensures.left

pub take_http_apart-players-requires-clause-rules : goal.take_http_apart-players-requires-clause-rules
take_http_apart-players-requires-clause-rules g c κs within =
    subst (λ (q : PortRules). IfSome c.args.http (λ w. HasRules q w.bench.port)) (sym c.take_all_apart.ensures.rules) c.requires.http_rules

pub returns-in-Ok-put_all-clause-runs : goal.returns-in-Ok-put_all-clause-runs
returns-in-Ok-put_all-clause-runs g c = λ before_asked all before_named names.
    let config = c.args.config.now in
    let streams = (shared_rules c.args.port.now).limits in
    let apart = told_at c.take_all_apart.new.first.roots in
    let joined = told_at c.take_http_apart-players.new.first.roots in
    let h = told_at c.end_all-ended.new.port.roots in
    let attempts = seen_at c.count_all.new.port.roots in
    let k = told_at c.count_all.new.port.roots in
    let before = g.H.House.told c.args.house.now in
    let mid = g.H.House.told c.end_all-ended.new.house in
    let now = g.H.House.told c.shut_http.new.house in
    let same : shared_rules c.take_http_apart-players.new.first ≡ shared_rules c.args.port.now = c.take_http_apart-players.ensures.rules ∙ c.take_all_apart.ensures.rules in
    let count : c.in-Ok.left.list.len ≡ config.workers = c.in-Ok.ensures.each ∙ c.requires.each in
    let players = c.take_http_apart-players.result in
    let spared = or_false c.in-Ok.left.refused players.refused c.if-not-refused.true in
    let whole = and_true c.end_all-ended.result c.shut_http.result c.if-whole.true in
    let worn : Bool = c.in-Ok.left.worn || players.worn in
    let balanced = subst (λ (q : PortRules). All (λ x. IsBalanced config q.limits joined worn x.number (g.H.Door.Door.told x.door)) c.in-Ok.left.list.items)
    (sym same)
    (All-weaker (λ x. IsBalanced config streams apart c.in-Ok.left.worn x.number (g.H.Door.Door.told x.door)) (λ x. IsBalanced config streams joined worn x.number (g.H.Door.Door.told x.door))
    (λ x b. balanced_worn config streams joined c.in-Ok.left.worn worn (or_false_first c.in-Ok.left.worn players.worn) x.number (g.H.Door.Door.told x.door)
    (balanced_later config streams apart joined c.take_http_apart-players.ensures.grown c.in-Ok.left.worn x.number (g.H.Door.Door.told x.door) b)) c.in-Ok.left.list.items (c.in-Ok.ensures.balanced spared.0)) in
    let door = option_map g.H.Door.Door.told players.door in
    let player = left_worn config streams joined players.worn worn (or_false_last c.in-Ok.left.worn players.worn) config.http door
    (subst (λ (q : PortRules). LeftHttp config q.limits joined players.worn config.http door) c.take_all_apart.ensures.rules (c.take_http_apart-players.ensures.left spared.1)) in
    let shut = subst (λ (q : PortRules). TellsMore (IsShut config q.limits joined worn) (range_with_len 0 c.in-Ok.left.list.len) before.shut mid.shut) same
    (c.end_all-ended.ensures.shut whole.0 worn balanced) in
    let full = Contains c.end_all-ended.new.full.items in
    let kept = subst (λ (q : PortRules). TellsMore (IsRecorded q.limits joined h full config.places) (recordings_upto config c.in-Ok.left.list.len) before.kept mid.kept) same
    (c.end_all-ended.ensures.kept whole.0) in
    let each : length c.in-Ok-count_all.counts.items ≡ places_in config = search rules in
    let slice : c.as_slice.result.now ≡ c.end_all-ended.new.full.items = search rules in
    let reports : Reports config attempts (seen (g.K.Sink.holds c.args.out.now) (g.K.Sink.faults c.args.out.now) before before_asked before_named)
    (seen (g.K.Sink.holds c.put_all.new.out) (g.K.Sink.faults c.put_all.new.out) now (g.H.House.asked c.shut_http.new.house) (g.H.House.named c.shut_http.new.house)) = record {
      counts = c.in-Ok-count_all.counts.items;
      each = each;
      written = search rules;
      streams = streams;
      shaped = c.requires.shaped;
      last = subst (λ (q : PortRules). AllEnd q.limits c.in-Ok-count_all.counts.items attempts) (c.end_all-ended.ensures.rules ∙ same) c.in-Ok-count_all.ensures.last;
      asked = subst (λ (o : Option (List Asked)). AsksAll config config.workers before_asked o) (sym (c.shut_http.ensures.asked ∙ c.end_all-ended.ensures.asked)) all;
      joined = joined;
      later = later_then joined h k c.end_all-ended.ensures.grown c.count_all.ensures.grown;
      named = c.shut_http.ensures.named ∙ (c.end_all-ended.ensures.named ∙ names);
      worn = worn;
      full = λ w.
          let told = c.has_worn.ensures (told_or c.has_worn.result worn c.if-agreed.true w) in
          let list : c.as_slice-3.result.now ≡ c.in-Ok-count_all.counts.items = search rules in
          (told.0, ap (λ l. slice_get l told.0) (sym list) ∙ told.1);
      shut = record {
        mid = mid.shut;
        sessions = more_same (IsShut config streams joined worn) (range_with_len 0 c.in-Ok.left.list.len) (range_with_len 0 config.workers) before.shut before.shut mid.shut
            (ap (range_with_len 0) count) refl shut;
        players = c.shut_http.ensures.shut whole.1 streams joined worn player;
      };
      kept = subst (λ (o : Option (List KeptFile)). TellsMore (IsRecorded streams joined k (IsWorn c.in-Ok-count_all.counts.items) config.places) (recordings_upto config config.workers) before.kept o) (sym c.shut_http.ensures.kept)
          (more_weaker (IsRecorded streams joined h full config.places) (IsRecorded streams joined k (IsWorn c.in-Ok-count_all.counts.items) config.places)
          (recorded_later streams joined joined h k (later_same joined) c.count_all.ensures.grown full (IsWorn c.in-Ok-count_all.counts.items) config.places
          (λ q l f. c.in-Ok-count_all.ensures.worn q (omega (arith, l, each, c.in-Ok-count_all.ensures.each, c.in-Ok-count_all.counts.ok.0)) (subst (λ (l : List ℕ). Contains l q) (sym slice) f))) (recordings_upto config config.workers) before.kept mid.kept
          (more_same (IsRecorded streams joined h full config.places) (recordings_upto config c.in-Ok.left.list.len) (recordings_upto config config.workers)
          before.kept before.kept mid.kept (ap (recordings_upto config) count) refl kept));
    } in
    (reports, c.in-Ok-put_all.ensures.faults, c.shut_http.ensures.faults ∙ c.end_all-ended.ensures.faults)

pub returns-in-Ok-put_all-clause-grown : goal.returns-in-Ok-put_all-clause-grown
returns-in-Ok-put_all-clause-grown g c = λ served.
    let old = told_at c.args.port.now.roots in
    let apart = told_at c.take_all_apart.new.first.roots in
    let joined = told_at c.take_http_apart-players.new.first.roots in
    let h = told_at c.end_all-ended.new.port.roots in
    let k = told_at c.count_all.new.port.roots in
    later_then old apart k c.take_all_apart.ensures.grown
    (later_then apart joined k c.take_http_apart-players.ensures.grown (later_then joined h k c.end_all-ended.ensures.grown c.count_all.ensures.grown))

pub returns-in-Ok-put_all-clause-full : goal.returns-in-Ok-put_all-clause-full
returns-in-Ok-put_all-clause-full g c = λ served place l f.
    let attempts = seen_at c.count_all.new.port.roots in
    let each : length c.in-Ok-count_all.counts.items ≡ places_in c.args.config.now = search rules in
    let slice : c.as_slice.result.now ≡ c.end_all-ended.new.full.items = search rules in
    let worn = c.in-Ok-count_all.ensures.worn place (omega (arith, l, each, c.in-Ok-count_all.ensures.each, c.in-Ok-count_all.counts.ok.0))
    (subst (λ (x : List ℕ). Contains x place) (sym slice) (c.end_all-ended.ensures.noted place f)) in
    subst (λ (q : PortRules). IsFull (q.limits place) (attempts place))
    (c.end_all-ended.ensures.rules ∙ (c.take_http_apart-players.ensures.rules ∙ c.take_all_apart.ensures.rules))
    (c.in-Ok-count_all.ensures.last place None worn)
