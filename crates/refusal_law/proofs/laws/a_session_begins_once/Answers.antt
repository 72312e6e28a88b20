use Rattle.refusal_law.proofs.Endings.{opened}
use Rattle.relay_session.specs.Session.{session}
use Rattle.session_owed.specs.Owed.{count_of}
use Rattle.refusal_law.proofs.laws.a_session_begins_once.Goals as goal

pub returns : goal.returns
returns c = λ k who window max place desk x y ms ns T C h room grants.
    opened k who window max desk x y ms ns T C h
    (c.session_readable_law.ensures who window max (count_of (session who window desk) x) desk ms C h.least h.most room)
    c.the_least_free_id_is_given.ensures.free
    place grants
