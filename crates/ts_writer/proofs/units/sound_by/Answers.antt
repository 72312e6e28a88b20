use Rattle.std.proofs.Common.{◌<◌, ◌∙◌, length, arith, refl}
use Rattle.std.proofs.lemmas.Bool.Decides.{nat_tests}
use Rattle.ts_writer.proofs.Texts.{sound_made}
use Rattle.ts_writer.proofs.units.sound_by.Goals as goal

pub returns-clause-made : goal.returns-clause-made
returns-clause-made c =
    let some : 0 < length c.args.raw.now = grind (arith, nat_tests) in
    sound_made c.args.asc c.args.time c.clock_of-dts.result _ c.args.raw.now c.pes_header.new.out c.adts.new.out some c.if-raw-gt-MOST_RAW.false c.clock_of-dts.ensures.value refl
    (rw (c.reserve.ensures ∙ c.new-pes.ensures) at c.in_ok-pes_header.ensures.ok) c.in_ok-adts.ensures.ok
