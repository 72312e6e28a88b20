use Rattle.std.proofs.Common.{◌≡◌, subst}
use Rattle.rtmp_client.specs.Causes.{Did}
use Rattle.rtmp_client.specs.ClientState.{ClientState, client_of, lasting_of, life_of}
use Rattle.rtmp_client.proofs.Causing.{within_by}
use Rattle.rtmp_client.proofs.Lasting.{made_same}
use Rattle.rtmp_client.proofs.Turned.{did_made, may_made}
use Rattle.rtmp_client.proofs.client.Client.turn.Goals as goal

pub returns-clause-did : goal.returns-clause-did
returns-clause-did g c =
    let L = g.L.Link in
    let i = c.self.inside in
    let t = c.turn_on in
    let new = client_of t.new.core t.new.input t.new.ended in
    let d = did_made L.hears L.says L.told L.counts g.met.L.Link.hears_mean g.met.L.Link.says_mean (client_of i.core i.input i.ended) new t.result c.args.link.now t.new.link t.ensures.turn in
    subst (λ (s : ClientState). Did t.result (life_of s) (life_of new)) c.self.view_is d

pub returns-clause-may_be : goal.returns-clause-may_be
returns-clause-may_be g c =
    let L = g.L.Link in
    let i = c.self.inside in
    let t = c.turn_on in
    let new = client_of t.new.core t.new.input t.new.ended in
    may_made L.hears L.says L.told L.counts g.met.L.Link.hears_mean g.met.L.Link.says_mean (client_of i.core i.input i.ended) new t.result c.args.link.now t.new.link (within_by i.ended i.core c.self.invariant.0) t.ensures.turn

pub returns-clause-lasts : goal.returns-clause-lasts
returns-clause-lasts g c =
    let L = g.L.Link in
    let i = c.self.inside in
    let t = c.turn_on in
    let new = client_of t.new.core t.new.input t.new.ended in
    let e = made_same L.hears L.says (client_of i.core i.input i.ended) new t.result c.args.link.now t.new.link t.ensures.turn in
    subst (λ (s : ClientState). lasting_of new.parts ≡ lasting_of s.parts) c.self.view_is e
