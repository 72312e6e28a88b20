use Rattle.std.proofs.Common.{◌≡◌, ◌+◌, ◌-◌, ℕ, [], ◌∷◌, ◌++◌, length, ◌∙◌, refl, sym, ap, subst, Some, arith}
use Rattle.std.specs.List.{range_with_len}
use Rattle.std.proofs.lemmas.List.Elements.{All-pop}
use Rattle.std.specs.Prelude.{Contains}
use Rattle.relay_outside.specs.Houses.{shut_door}
use Rattle.stream_registry.specs.Gates.{told_at}
use Rattle.stream_registry.specs.SharedState.{shared_rules}
use Rattle.relay_serve.specs.Recorded.{IsRecorded}
use Rattle.relay_serve.specs.Recordings.{recordings_of, recordings_upto}
use Rattle.relay_serve.specs.Settling.{IsBalanced, IsLeft, IsShut, TellsMore}
use Rattle.relay_serve.proofs.Counted.{later_then}
use Rattle.relay_worker.proofs.Numbered.{each_pop}
use Rattle.relay_serve.proofs.Recording.{recorded_then}
use Rattle.relay_serve.proofs.Ruled.{popped}
use Rattle.relay_serve.proofs.Settling.{and_true, left_as, range_more, recordings_more, shut_is}
use Rattle.relay_serve.proofs.Telling.{more_same, more_then, one_more}
use Rattle.relay_serve.proofs.ending.end_all.Goals as goal

pub end_left-whole-requires-clause-left : goal.end_left-whole-requires-clause-left
end_left-whole-requires-clause-left g c κs within =
    left_as c.args.config.now g.H.File.Sink.holds g.H.File.Sink.faults (shared_rules c.args.port.now) (shared_rules c.loop-left.port) c.in-Some.left.number
    c.in-Some.left.number (g.H.Door.Door.told c.in-Some.left.door) c.in-Some.left.recorders.items (sym c.loop-left.invariant.rules) refl
    (All-pop (λ x. IsLeft c.args.config.now g.H.File.Sink.holds g.H.File.Sink.faults (shared_rules c.args.port.now) x.number (g.H.Door.Door.told x.door) x.recorders.items)
    c.loop-left.list.items c.pop.new.self.items (Some c.in-Some.left) c.in-Some.ensures.items c.loop-left.invariant.left).1

pub loop-left-preserved : goal.loop-left-preserved
loop-left-preserved g c =
    let i = c.loop-left.invariant in
    let e = c.end_left-whole.ensures in
    let config = c.args.config.now in
    let xs = c.loop-left.list.items in
    let ys = c.pop.new.self.items in
    let x = c.in-Some.left in
    let first = told_at c.args.port.now.roots in
    let h = told_at c.loop-left.port.roots in
    let k = told_at c.end_left-whole.new.port.roots in
    let streams = (shared_rules c.args.port.now).limits in
    let n : ℕ = length c.args.list.items - length xs in
    let shorter = popped xs ys x c.in-Some.ensures.items in
    let numbers = each_pop (λ j y. y.number + j + 1 ≡ length c.args.list.items) xs ys x c.in-Some.ensures.items i.numbered in
    let number : x.number ≡ n = omega (arith, numbers.1, shorter, i.fewer) in
    let one : n + 1 ≡ length c.args.list.items - length ys = omega (arith, shorter, i.fewer) in
    record {
      numbered = numbers.0;
      left = (All-pop (λ x. IsLeft config g.H.File.Sink.holds g.H.File.Sink.faults (shared_rules c.args.port.now) x.number (g.H.Door.Door.told x.door) x.recorders.items)
          xs ys (Some x) c.in-Some.ensures.items i.left).0;
      rules = e.rules ∙ i.rules;
      grown = later_then first h k i.grown e.grown;
      faults = e.faults ∙ i.faults;
      asked = e.asked ∙ i.asked;
      named = e.named ∙ i.named;
      noted = λ q f. e.noted q (i.noted q f);
      fewer = omega (arith, shorter, i.fewer);
      rest = λ worn a. (All-pop (λ x. IsBalanced config streams first worn x.number (g.H.Door.Door.told x.door)) xs ys (Some x) c.in-Some.ensures.items (i.rest worn a)).0;
      kept = λ w.
          let both = and_true c.loop-left.whole c.end_left-whole.result w in
          let R = IsRecorded streams first k (Contains c.end_left-whole.new.full.items) config.places in
          let all : recordings_upto config n ++ recordings_of config x.number ≡ recordings_upto config (length c.args.list.items - length ys) =
          ap (λ (m : ℕ). recordings_upto config n ++ recordings_of config m) number ∙ (recordings_more config n ∙ ap (recordings_upto config) one) in
          more_same R (recordings_upto config n ++ recordings_of config x.number) _ (g.H.House.told c.args.house.now).kept (g.H.House.told c.args.house.now).kept
          (g.H.House.told c.end_left-whole.new.house).kept all refl
          (recorded_then (shared_rules c.args.port.now) (shared_rules c.loop-left.port) first h k (Contains c.loop-left.full.items) (Contains c.end_left-whole.new.full.items) config.places (recordings_upto config n) (recordings_of config x.number)
          (g.H.House.told c.args.house.now).kept (g.H.House.told c.loop-left.house).kept (g.H.House.told c.end_left-whole.new.house).kept i.rules i.grown e.grown
          e.noted (i.kept both.0) (e.kept both.1));
      shut = λ w worn a.
          let both = and_true c.loop-left.whole c.end_left-whole.result w in
          let R = IsShut config streams first worn in
          let before = (g.H.House.told c.args.house.now).shut in
          let mid = (g.H.House.told c.loop-left.house).shut in
          let now = (g.H.House.told c.end_left-whole.new.house).shut in
          let b = (All-pop (λ x. IsBalanced config streams first worn x.number (g.H.Door.Door.told x.door)) xs ys (Some x) c.in-Some.ensures.items (i.rest worn a)).1 in
          let last = one_more R n mid now (shut_door x.number (g.H.Door.Door.told x.door)) (e.shut both.1)
          (shut_is config streams first worn n x.number (g.H.Door.Door.told x.door) number b) in
          more_same R (range_with_len 0 n ++ n ∷ []) _ before before now (range_more n ∙ ap (range_with_len 0) one) refl
          (more_then R (range_with_len 0 n) (n ∷ []) before mid now (i.shut both.0 worn a) last);
    }

pub returns-clause-kept : goal.returns-clause-kept
returns-clause-kept g c = λ w.
    let zero : length c.loop-left.list.items ≡ 0 = omega (arith, c.in_default.ensures.cases.0, c.loop-left.list.ok.0) in
    let all : length c.args.list.items - length c.loop-left.list.items ≡ c.args.list.len = omega (arith, zero, c.args.list.ok.0) in
    subst (λ (m : ℕ). TellsMore (IsRecorded (shared_rules c.args.port.now).limits (told_at c.args.port.now.roots) (told_at c.loop-left.port.roots) (Contains c.loop-left.full.items)
    c.args.config.now.places) (recordings_upto c.args.config.now m) (g.H.House.told c.args.house.now).kept (g.H.House.told c.loop-left.house).kept) all (c.loop-left.invariant.kept w)

pub returns-clause-shut : goal.returns-clause-shut
returns-clause-shut g c = λ w worn a.
    let zero : length c.loop-left.list.items ≡ 0 = omega (arith, c.in_default.ensures.cases.0, c.loop-left.list.ok.0) in
    let all : length c.args.list.items - length c.loop-left.list.items ≡ c.args.list.len = omega (arith, zero, c.args.list.ok.0) in
    subst (λ (m : ℕ). TellsMore (IsShut c.args.config.now (shared_rules c.args.port.now).limits (told_at c.args.port.now.roots) worn) (range_with_len 0 m)
    (g.H.House.told c.args.house.now).shut (g.H.House.told c.loop-left.house).shut) all (c.loop-left.invariant.shut w worn a)
