use Rattle.std.proofs.Common.{List, ℕ, ◌++◌, ◌∙◌, sym, ap}
use Rattle.rtmp_handshake.specs.Answer.{bad_version}
use Rattle.rtmp_client.proofs.Living.{begun_same, fed_hand, version_part}
use Rattle.rtmp_client.proofs.steps.hand_piece.Goals as goal

pub hand_part-requires-clause-version : goal.hand_part-requires-clause-version
hand_part-requires-clause-version c =
    ap (λ (b : List ℕ). bad_version (c.args.core.now.y ++ b)) c.first-part.ensures ∙ version_part c.args.core.now c.args.piece.now _ c.requires.sound (sym c.is_other_version.ensures ∙ c.if-is_other_version.false)

pub returns-in-Ok-clause-fed : goal.returns-in-Ok-clause-fed
returns-in-Ok-clause-fed c =
    let d = c.hand_part.new.core in
    fed_hand c.args.core.now d c.args.piece.now c.first-part.result.now d.first _ d.fed d.outgoing c.first-part.ensures c.in-Ok.ensures.changed c.hand_part.ensures.apart

pub returns-in-Err-clause-over : goal.returns-in-Err-clause-over
returns-in-Err-clause-over c =
    let d = c.hand_part.new.core in
    begun_same c.args.core.now d d.first d.outgoing c.requires.sound c.in-Err.ensures.err
