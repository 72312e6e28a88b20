use Rattle.std.proofs.Common.{rules, ◌≡◌, ◌∙◌, List, ap, subst}
use Rattle.turn_gate.specs.Histories.{Begins, longer}
use Rattle.stream_registry.specs.Pasts.{Attempt}
use Rattle.stream_registry.specs.Roots.{Root, Grown, seen_at, mine_at}
use Rattle.stream_registry.specs.SharedState.{Streams}
use Rattle.stream_registry.specs.declared.place_table.Site.{Site}
use Rattle.stream_registry.specs.Gates.{told, numbers, made_at}
use Rattle.stream_registry.specs.Splits.{OwnsMore}
use Rattle.stream_registry.proofs.Owning.{made_more, told_all}
use Rattle.stream_registry.proofs.Tells.{begins_told, told_longer}
use Rattle.stream_registry.proofs.shared.SharedPlaceTableStreamPort.detach.Goals as goal

pub returns-clause-here : goal.returns-clause-here
returns-clause-here c =
    let old = seen_at c.args.self.now.roots c.args.place in
    let is : seen_at c.detach.new.self c.args.place ≡ longer old c.args.pass.seen = search rules in
    let grown : Grown c.args.self.now.roots c.detach.new.self = subst (λ (l : List (Root Site Attempt)). Grown l c.detach.new.self) (ap (λ (x : Streams). x.roots) c.self.view_is) c.detach.ensures.grown in
    ap told is ∙ told_longer old c.args.pass.seen (subst (λ (h : List Attempt). Begins old h) is (grown.seen.at c.args.place)) (subst (λ (h : List Attempt). Begins c.args.pass.seen h) is c.detach.ensures.seen)

pub returns-clause-both : goal.returns-clause-both
returns-clause-both c =
    let grown : Grown c.args.self.now.roots c.detach.new.self = subst (λ (l : List (Root Site Attempt)). Grown l c.detach.new.self) (ap (λ (x : Streams). x.roots) c.self.view_is) c.detach.ensures.grown in
    (begins_told _ _ (grown.seen.at c.args.place), begins_told _ _ c.detach.ensures.seen)

pub returns-clause-gains : goal.returns-clause-gains
returns-clause-gains c =
    subst (λ (x : List (Root Site Attempt)). OwnsMore (made_at x) (numbers c.args.pass.seen c.args.pass.mine) (made_at c.detach.new.self) c.args.place) (ap (λ (x : Streams). x.roots) c.self.view_is)
    (made_more _ c.detach.new.self c.args.place c.args.pass.seen c.args.pass.mine c.detach.ensures.mine c.detach.ensures.own (c.detach.ensures.grown.seen.at c.args.place) c.detach.ensures.seen c.detach.ensures.others)

pub returns-clause-all : goal.returns-clause-all
returns-clause-all c = λ w. told_all (seen_at c.detach.new.self c.args.place) (mine_at c.detach.new.self c.args.place) (c.detach.ensures.whole w)
