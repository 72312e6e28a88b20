use Rattle.std.proofs.Common.{refl, false, None}
use Rattle.origin_pull.specs.declared.core_fields.Core.{Core}
use Rattle.origin_pull.specs.declared.due.Due.TheVariants.{Nothing}
use Rattle.origin_pull.proofs.Standing.{living_stands, new_sound}
use Rattle.origin_pull.proofs.edge.Edge.new.Goals as goal

pub invariant_of-result : goal.invariant_of-result
invariant_of-result g c =
    let core : Core = record { who = c.args.who; place = c.args.place; live = false; kept = None; due = Nothing; calls = c.new.result } in
    new_sound core c.args.client c.requires refl refl refl c.new.ensures

pub returns-clause-stands : goal.returns-clause-stands
returns-clause-stands g c =
    let core : Core = record { who = c.args.who; place = c.args.place; live = false; kept = None; due = Nothing; calls = c.new.result } in
    living_stands None core c.args.client (new_sound core c.args.client c.requires refl refl refl c.new.ensures)
