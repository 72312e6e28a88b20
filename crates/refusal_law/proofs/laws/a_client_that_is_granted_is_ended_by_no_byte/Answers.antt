use Rattle.refusal_law.proofs.Endings.{client_lasts}
use Rattle.relay_session.specs.Session.{session}
use Rattle.session_owed.specs.Owed.{count_of}
use Rattle.refusal_law.proofs.laws.a_client_that_is_granted_is_ended_by_no_byte.Goals as goal

pub returns : goal.returns
returns c = λ k who window max n place desk x y more ms ns T C e h room grants granted b few i.
    client_lasts k who window max desk x y ms ns T C h
    (c.session_readable_law.ensures who window max (count_of (session who window desk) x) desk ms C h.least h.most room)
    c.the_least_free_id_is_given.ensures.free
    place grants granted n more e b few i
