use Rattle.ts_writer.proofs.Keeping.{with_clock, no_clock}
use Rattle.ts_writer.proofs.ahead.Ahead.after_pes.Goals as goal

pub returns-in-Some : goal.returns-in-Some
returns-in-Some c ps is =
    with_clock c.args.self c.args.pes.now c.args.next c.choice.result c.choice-2.result c.sounds_with.result c.in-Some.field-0 ps is (c.requires ps is)
    c.choice.ensures c.choice-2.ensures c.sounds_with.ensures c.in-Some.is

pub returns-in-None : goal.returns-in-None
returns-in-None c ps is =
    no_clock c.args.self c.args.pes.now c.args.next c.choice.result c.choice-2.result c.sounds_with.result ps is (c.requires ps is)
    c.choice.ensures c.choice-2.ensures c.sounds_with.ensures c.in-None.is
