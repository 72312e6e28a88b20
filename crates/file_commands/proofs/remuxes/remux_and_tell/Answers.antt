use Rattle.std.proofs.Common.{◌≡◌, map, true, sym}
use Rattle.file_commands.specs.Outcome.{seen}
use Rattle.file_commands.specs.Words.{is_remux}
use Rattle.file_commands.specs.Remux.{RemuxGives, RemuxStops, RemuxCut, RemuxWhole, remux_text}
use Rattle.std.proofs.Common.{[]}
use Rattle.file_commands.proofs.Outcomes.{no_memory}
use Rattle.file_commands.proofs.Unread.{nothing_read}
use Rattle.file_commands.proofs.remuxes.remux_and_tell.Goals as goal

pub returns-in-Err-clause-outcome : goal.returns-in-Err-clause-outcome
returns-in-Err-clause-outcome g c =
    let asked : is_remux (map (λ w. w.items) c.args.words.now) ≡ true = sym (rw c.as_slice.ensures at c.if-not-only_word_is.ensures) in
    rw c.nothing_told-in-Err.ensures.status (no_memory RemuxGives RemuxStops RemuxCut RemuxWhole _
    (seen (g.S.Source.left c.args.input.now) (g.K.Sink.holds c.args.out.now) (g.S.Source.faults c.args.input.now) (g.K.Sink.faults c.args.out.now))
    (remux_text []) asked nothing_read)
