use Rattle.std.proofs.Common.{rules, ◌≡◌, ℕ, List, Some, Ok, refl, sym, ap, ◌∙◌, subst}
use Rattle.stream_model.specs.declared.calls.Shape.{Shape}
use Rattle.turn_gate.specs.Known.{IsWorn, RepliedAfter}
use Rattle.stream_registry.specs.declared.place_table.Site.{Site}
use Rattle.turn_gate.specs.Known.{GateId}
use Rattle.stream_registry.specs.Pasts.{Attempt, IsLawfulAt}
use Rattle.stream_registry.specs.Roots.{Root, gates, seen_at}
use Rattle.stream_registry.specs.SharedState.{Streams}
use Rattle.stream_registry.specs.Told.{Keeps}
use Rattle.stream_registry.specs.Gates.{told, made_at}
use Rattle.stream_registry.proofs.Placing.{placed, keeps, room, unmade, refused, refused_memory, same_own, passes, kept, worn}
use Rattle.stream_registry.proofs.Owning.{made_kept}
use Rattle.stream_registry.proofs.Wanting.{take_numbers, take_back}
use Rattle.std.specs.Option.{IsSome}
use Rattle.stream_registry.proofs.shared.SharedPlaceTableStreamPort.call.Goals as goal

pub returns-in-Ok-Ok-clause-pass : goal.returns-in-Ok-Ok-clause-pass
returns-in-Ok-Ok-clause-pass c = passes (gates c.args.self.now.roots) (gates c.call.new.self) c.args.place c.args.pass.now c.call.new.pass (c.call.ensures.port.gates ∙ ap (λ (x : Streams). gates x.roots) c.self.view_is) c.requires c.call.ensures.pass

pub returns-in-Ok-Ok-clause-reply : goal.returns-in-Ok-Ok-clause-reply
returns-in-Ok-Ok-clause-reply c =
    let is : c.in-Ok-Ok.field-0 ≡ Ok c.in-Ok-Ok.reply = search rules in
    let a : RepliedAfter (IsLawfulAt c.args.pass.now.gate.about.limits) (seen_at c.args.self.now.roots c.args.place) c.args.pass.now (c.args.entry, c.in-Ok-Ok.field-0) c.call.new.pass = search rules in
    placed c.takes_alone.ensures c.takes_alone_at_pools.ensures _ _ _ _ _ _ _ is a c.seen.ensures.own

pub returns-in-Ok-Ok-clause-laws : goal.returns-in-Ok-Ok-clause-laws
returns-in-Ok-Ok-clause-laws c =
    let about = c.args.pass.now.gate.about.limits in
    let a : RepliedAfter (IsLawfulAt about) (seen_at c.args.self.now.roots c.args.place) c.args.pass.now (c.args.entry, c.in-Ok-Ok.field-0) c.call.new.pass = search rules in
    let law = a.replied.lawful_seen in
    subst (λ (l : Shape). Keeps l (told c.call.new.pass.seen)) (sym (ap (λ (g : GateId Site). g.about.limits) c.call.ensures.pass.0)) (keeps about c.call.new.pass.seen law (λ slot player. c.tables_law.ensures about _ law.0 slot player))

pub returns-in-Ok-Ok-clause-room : goal.returns-in-Ok-Ok-clause-room
returns-in-Ok-Ok-clause-room c =
    let a : RepliedAfter (IsLawfulAt c.args.pass.now.gate.about.limits) (seen_at c.args.self.now.roots c.args.place) c.args.pass.now (c.args.entry, c.in-Ok-Ok.field-0) c.call.new.pass = search rules in
    room c.args.pass.now.gate.about.limits _ _ _ _ a

pub returns-in-Ok-Err-clause-pass : goal.returns-in-Ok-Err-clause-pass
returns-in-Ok-Err-clause-pass c = passes (gates c.args.self.now.roots) (gates c.call.new.self) c.args.place c.args.pass.now c.call.new.pass (c.call.ensures.port.gates ∙ ap (λ (x : Streams). gates x.roots) c.self.view_is) c.requires c.call.ensures.pass

pub returns-in-Ok-Err-clause-unmade : goal.returns-in-Ok-Err-clause-unmade
returns-in-Ok-Err-clause-unmade c =
    let a : RepliedAfter (IsLawfulAt c.args.pass.now.gate.about.limits) (seen_at c.args.self.now.roots c.args.place) c.args.pass.now (c.args.entry, c.in-Ok-Err.field-0) c.call.new.pass = search rules in
    kept c.args.self.now.roots c.call.new.self c.args.pass.now c.call.new.pass (search rules) (unmade c.args.pass.now.gate.about.limits _ _ c.in-Ok-Err.field-0-0 _ _ _ c.in-Ok-Err.field-0-is a c.seen.ensures.own)

pub returns-in-Err-Busy-clause-pass : goal.returns-in-Err-Busy-clause-pass
returns-in-Err-Busy-clause-pass c = passes (gates c.args.self.now.roots) (gates c.call.new.self) c.args.place c.args.pass.now c.call.new.pass (c.call.ensures.port.gates ∙ ap (λ (x : Streams). gates x.roots) c.self.view_is) c.requires c.call.ensures.pass

pub returns-in-Err-Busy-clause-unmade : goal.returns-in-Err-Busy-clause-unmade
returns-in-Err-Busy-clause-unmade c =
    let mine : c.call.new.pass.mine ≡ c.args.pass.now.mine = search rules in
    kept c.args.self.now.roots c.call.new.self c.args.pass.now c.call.new.pass (search rules) (same_own c.args.pass.now c.call.new.pass c.call.ensures.pass mine c.seen.ensures.own)

pub returns-in-Err-Worn-clause-pass : goal.returns-in-Err-Worn-clause-pass
returns-in-Err-Worn-clause-pass c = passes (gates c.args.self.now.roots) (gates c.call.new.self) c.args.place c.args.pass.now c.call.new.pass (c.call.ensures.port.gates ∙ ap (λ (x : Streams). gates x.roots) c.self.view_is) c.requires c.call.ensures.pass

pub returns-in-Err-Worn-clause-unmade : goal.returns-in-Err-Worn-clause-unmade
returns-in-Err-Worn-clause-unmade c =
    let mine : c.call.new.pass.mine ≡ c.args.pass.now.mine = search rules in
    kept c.args.self.now.roots c.call.new.self c.args.pass.now c.call.new.pass (search rules) (same_own c.args.pass.now c.call.new.pass c.call.ensures.pass mine c.seen.ensures.own)

pub returns-in-Ok-Err-clause-memory : goal.returns-in-Ok-Err-clause-memory
returns-in-Ok-Err-clause-memory c =
    let a : RepliedAfter (IsLawfulAt c.args.pass.now.gate.about.limits) (seen_at c.args.self.now.roots c.args.place) c.args.pass.now (c.args.entry, c.in-Ok-Err.field-0) c.call.new.pass = search rules in
    refused c.args.pass.now.gate.about.limits _ _ c.in-Ok-Err.field-0-0 _ _ _ c.in-Ok-Err.field-0-is a

pub unwrap-requires : goal.unwrap-requires
unwrap-requires c =
    let a : RepliedAfter (IsLawfulAt c.args.pass.now.gate.about.limits) (seen_at c.args.self.now.roots c.args.place) c.args.pass.now (c.args.entry, c.in-Ok-Err.field-0) c.call.new.pass = search rules in
    let take = refused c.args.pass.now.gate.about.limits _ _ c.in-Ok-Err.field-0-0 _ _ _ c.in-Ok-Err.field-0-is a in
    let t = take_numbers c.args.entry c.args.entry.call take in
    subst (λ o. IsSome o) (sym (c.of-numbers.ensures ∙ t.1)) refl

pub returns-in-Ok-Err-clause-fails : goal.returns-in-Ok-Err-clause-fails
returns-in-Ok-Err-clause-fails c =
    let a : RepliedAfter (IsLawfulAt c.args.pass.now.gate.about.limits) (seen_at c.args.self.now.roots c.args.place) c.args.pass.now (c.args.entry, c.in-Ok-Err.field-0) c.call.new.pass = search rules in
    let take = refused c.args.pass.now.gate.about.limits _ _ c.in-Ok-Err.field-0-0 _ _ _ c.in-Ok-Err.field-0-is a in
    let held : c.of-numbers.result ≡ Some c.unwrap.result = search rules in
    c.entry.ensures ∙ take_back c.args.entry c.unwrap.result take (sym c.of-numbers.ensures ∙ held)

pub returns-in-Ok-Err-clause-refused : goal.returns-in-Ok-Err-clause-refused
returns-in-Ok-Err-clause-refused c =
    let a : RepliedAfter (IsLawfulAt c.args.pass.now.gate.about.limits) (seen_at c.args.self.now.roots c.args.place) c.args.pass.now (c.args.entry, c.in-Ok-Err.field-0) c.call.new.pass = search rules in
    refused_memory _ _ c.in-Ok-Err.field-0-0 _ _ _ c.in-Ok-Err.field-0-is a

pub returns-in-Err-Worn-clause-refused : goal.returns-in-Err-Worn-clause-refused
returns-in-Err-Worn-clause-refused c =
    let n : IsWorn (IsLawfulAt c.args.pass.now.gate.about.limits) c.args.pass.now c.call.new.pass = search rules in
    worn c.args.pass.now c.call.new.pass n

pub returns-in-Ok-Ok-clause-owns : goal.returns-in-Ok-Ok-clause-owns
returns-in-Ok-Ok-clause-owns c =
    subst (λ (x : List (Root Site Attempt)). (q : ℕ) → made_at c.call.new.self q ≡ made_at x q) (ap (λ (x : Streams). x.roots) c.self.view_is) (made_kept _ c.call.new.self c.call.ensures.port c.call.ensures.mine)

pub returns-in-Ok-Err-clause-owns : goal.returns-in-Ok-Err-clause-owns
returns-in-Ok-Err-clause-owns c =
    subst (λ (x : List (Root Site Attempt)). (q : ℕ) → made_at c.call.new.self q ≡ made_at x q) (ap (λ (x : Streams). x.roots) c.self.view_is) (made_kept _ c.call.new.self c.call.ensures.port c.call.ensures.mine)

pub returns-in-Err-Busy-clause-owns : goal.returns-in-Err-Busy-clause-owns
returns-in-Err-Busy-clause-owns c =
    subst (λ (x : List (Root Site Attempt)). (q : ℕ) → made_at c.call.new.self q ≡ made_at x q) (ap (λ (x : Streams). x.roots) c.self.view_is) (made_kept _ c.call.new.self c.call.ensures.port c.call.ensures.mine)

pub returns-in-Err-Worn-clause-owns : goal.returns-in-Err-Worn-clause-owns
returns-in-Err-Worn-clause-owns c =
    subst (λ (x : List (Root Site Attempt)). (q : ℕ) → made_at c.call.new.self q ≡ made_at x q) (ap (λ (x : Streams). x.roots) c.self.view_is) (made_kept _ c.call.new.self c.call.ensures.port c.call.ensures.mine)
