use Rattle.refusal_law.proofs.Endings.{client_refused}
use Rattle.relay_session.specs.Session.{session}
use Rattle.session_owed.specs.Owed.{count_of}
use Rattle.refusal_law.proofs.laws.a_client_is_ended_by_a_refusal_alone.Goals as goal

pub returns : goal.returns
returns c = λ k who window max n desk x y more ms ns T C e h room b few i.
    client_refused k who window max desk x y ms ns T C h
    (c.session_readable_law.ensures who window max (count_of (session who window desk) x) desk ms C h.least h.most room)
    c.the_least_free_id_is_given.ensures.free
    n more e b few i
