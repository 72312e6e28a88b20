use Rattle.client_law.proofs.SessionReadable.{session_readable}
use Rattle.client_law.proofs.laws.session_readable_law.Goals as goal

pub returns : goal.returns
returns c = λ who window max n desk ms C least most r.
    let w = c.what_is_said_can_be_written.ensures in
    let o = c.what_is_said_is_on_a_stream.ensures in
    session_readable max least most w.message w.reply w.item o.first o.message o.message_says o.reply o.reply_says o.item who window desk n ms C r
