use Rattle.std.proofs.Common.{◌∙◌, sym}
use Rattle.client_command.proofs.Filming.{ask_faults, ask_fed, ask_fills, ask_given, ask_reading, none_ahead}
use Rattle.client_command.proofs.film.fill.Goals as goal

pub returns-then-is_empty-clause-goes : goal.returns-then-is_empty-clause-goes
returns-then-is_empty-clause-goes g c = λ start w.
    let S = g.S.Source in
    let t = c.more.new in
    ask_fills c.more.result c.args.film.now t.film start (S.left c.args.input.now) (S.left t.input) (S.faults c.args.input.now) (S.faults t.input) c.requires.reading
    (none_ahead c.args.film.now (sym c.is_empty.ensures ∙ c.if-is_empty.true)) c.more.ensures.asks w

pub returns-then-is_empty-clause-faults : goal.returns-then-is_empty-clause-faults
returns-then-is_empty-clause-faults g c =
    let S = g.S.Source in
    let t = c.more.new in
    ask_faults c.more.result c.args.film.now t.film (S.left c.args.input.now) (S.left t.input) (S.faults c.args.input.now) (S.faults t.input) c.more.ensures.asks

pub returns-then-is_empty-clause-given : goal.returns-then-is_empty-clause-given
returns-then-is_empty-clause-given g c =
    let S = g.S.Source in
    let t = c.more.new in
    ask_given c.more.result c.args.film.now t.film (S.left c.args.input.now) (S.left t.input) (S.faults c.args.input.now) (S.faults t.input) c.more.ensures.asks

pub returns-then-is_empty-clause-reading : goal.returns-then-is_empty-clause-reading
returns-then-is_empty-clause-reading g c =
    let S = g.S.Source in
    let t = c.more.new in
    ask_reading c.more.result c.args.film.now t.film (S.left c.args.input.now) (S.left t.input) (S.faults c.args.input.now) (S.faults t.input) c.requires.reading c.more.ensures.asks

pub returns-then-is_empty-clause-fed : goal.returns-then-is_empty-clause-fed
returns-then-is_empty-clause-fed g c =
    let S = g.S.Source in
    let t = c.more.new in
    ask_fed c.more.result c.args.film.now t.film (S.left c.args.input.now) (S.left t.input) (S.faults c.args.input.now) (S.faults t.input) c.more.ensures.asks
