use Rattle.std.proofs.Common.{◌≡◌, ◌<◌, ◌∙◌, length, sym, arith}
use Rattle.std.proofs.lemmas.Bool.Decides.{nat_tests}
use Rattle.ts_reader.proofs.Units.{fill_ends, fill_more, fill_stops}
use Rattle.ts_reader.proofs.payload.units_fill.Goals as goal

pub returns-in-None : goal.returns-in-None
returns-in-None c =
    let some : 0 < length c.loop-left.left.now = grind (arith, nat_tests) in
    sym (fill_stops c.loop-left.left.now some (sym c.in-None.ensures.value)) ∙ c.loop-left.invariant

pub loop-left-preserved : goal.loop-left-preserved
loop-left-preserved c =
    let some : 0 < length c.loop-left.left.now = grind (arith, nat_tests) in
    sym (fill_more c.loop-left.left.now c.in-Some.rest.now some (sym c.in-Some.ensures.value)) ∙ c.loop-left.invariant

pub returns : goal.returns
returns c =
    let none : length c.loop-left.left.now ≡ 0 = grind (arith, nat_tests) in
    sym (fill_ends c.loop-left.left.now none) ∙ c.loop-left.invariant
