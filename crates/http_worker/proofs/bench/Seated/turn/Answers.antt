use Rattle.http_worker.proofs.bench.Seated.turn.Goals as goal

pub returns-clause-turn : goal.returns-clause-turn
returns-clause-turn g c =
    let e = c.turn-answer.ensures in
    record { turn = e.turn; ended = e.ended; lasts = e.lasts; goes_on = e.goes_on; did = e.did; may_be = e.may_be; stands = e.stands; calls = e.at.calls }
