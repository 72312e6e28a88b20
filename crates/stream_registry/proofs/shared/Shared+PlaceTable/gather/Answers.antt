use Rattle.std.proofs.Common.{◌≡◌, ℕ, ◌∙◌, List, ap, sym, subst}
use Rattle.turn_gate.specs.Histories.{longer}
use Rattle.stream_registry.specs.Gates.{told_at, made_at}
use Rattle.stream_registry.specs.declared.place_table.Site.{Site}
use Rattle.stream_registry.specs.Pasts.{Attempt}
use Rattle.stream_registry.specs.Names.{PortRules}
use Rattle.stream_registry.specs.Roots.{Root, Grown, gates, kin_at, mine_at}
use Rattle.stream_registry.specs.Splits.{TakesAll, OwnsBoth}
use Rattle.stream_registry.specs.SharedState.{Streams}
use Rattle.stream_registry.proofs.Owning.{made_all}
use Rattle.stream_registry.proofs.Placing.{later_told, longest_told}
use Rattle.stream_registry.proofs.shared.Shared+PlaceTable.gather.Goals as goal

pub gather-requires : goal.gather-requires
gather-requires c =
    let ids : List (Root Site Attempt) → _ = λ l. gates l in
    ap ids (ap (λ (x : Streams). x.roots) c.other.view_is) ∙ (ap (λ (r : PortRules). r.gates) c.requires ∙ sym (ap ids (ap (λ (x : Streams). x.roots) c.self.view_is)))

pub returns-clause-grown : goal.returns-clause-grown
returns-clause-grown c =
    let grown : Grown c.args.self.now.roots c.gather.new.self = subst (λ (l : List (Root Site Attempt)). Grown l c.gather.new.self) (ap (λ (x : Streams). x.roots) c.self.view_is) c.gather.ensures.grown in
    later_told _ _ grown.seen

pub returns-clause-later : goal.returns-clause-later
returns-clause-later c =
    let grown : Grown c.args.other.roots c.gather.new.self = subst (λ (l : List (Root Site Attempt)). Grown l c.gather.new.self) (ap (λ (x : Streams). x.roots) c.other.view_is) c.gather.ensures.later in
    later_told _ _ grown.seen

pub returns-clause-kin : goal.returns-clause-kin
returns-clause-kin c =
    subst (λ (x : List (Root Site Attempt) × List (Root Site Attempt)). TakesAll (kin_at x.0) (kin_at x.1) (kin_at c.gather.new.self))
    (λ i. (ap (λ (x : Streams). x.roots) c.self.view_is i, ap (λ (x : Streams). x.roots) c.other.view_is i)) c.gather.ensures.kin

pub returns-clause-longest : goal.returns-clause-longest
returns-clause-longest c =
    subst (λ (x : List (Root Site Attempt) × List (Root Site Attempt)). (q : ℕ) → told_at c.gather.new.self q ≡ longer (told_at x.0 q) (told_at x.1 q))
    (λ i. (ap (λ (x : Streams). x.roots) c.self.view_is i, ap (λ (x : Streams). x.roots) c.other.view_is i)) (longest_told _ _ c.gather.new.self c.gather.ensures.grown.seen c.gather.ensures.later.seen c.gather.ensures.longest)

pub returns-clause-mine : goal.returns-clause-mine
returns-clause-mine c =
    subst (λ (x : List (Root Site Attempt) × List (Root Site Attempt)). OwnsBoth (mine_at x.0) (mine_at x.1) (mine_at c.gather.new.self))
    (λ i. (ap (λ (x : Streams). x.roots) c.self.view_is i, ap (λ (x : Streams). x.roots) c.other.view_is i)) c.gather.ensures.mine

pub returns-clause-made : goal.returns-clause-made
returns-clause-made c =
    subst (λ (x : List (Root Site Attempt) × List (Root Site Attempt)). OwnsBoth (made_at x.0) (made_at x.1) (made_at c.gather.new.self))
    (λ i. (ap (λ (x : Streams). x.roots) c.self.view_is i, ap (λ (x : Streams). x.roots) c.other.view_is i))
    (made_all _ _ c.gather.new.self c.gather.ensures.mine c.gather.ensures.own c.gather.ensures.grown.seen c.gather.ensures.later.seen)
