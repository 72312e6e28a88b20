use Rattle.http_worker.proofs.worker.link_law.Goals as goal

pub returns-clause-heard : goal.returns-clause-heard
returns-clause-heard g c = g.met.L.Link.hears_mean

pub returns-clause-said : goal.returns-clause-said
returns-clause-said g c = g.met.L.Link.says_mean
