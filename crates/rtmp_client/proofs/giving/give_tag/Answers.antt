use Rattle.std.proofs.Common.{List, ap, refl}
use Rattle.client_owed.specs.declared.types.Gave.{Gave}
use Rattle.rtmp_client.proofs.Gave.{living_tag}
use Rattle.rtmp_client.proofs.giving.give_tag.Goals as goal

pub returns-clause-living : goal.returns-clause-living
returns-clause-living c =
    let d = c.args.core.now in
    let t = c.args.tag in
    let e = c.in_ok-show.ensures in
    living_tag d t (record { kind = t.kind; stream = c.args.id; time = t.time; body = t.body }) c.args.id d.fed c.show.new.self c.add.new.self c.requires.living c.requires.started c.requires.pushes c.requires.open refl
    c.requires.kind c.requires.most c.show.ensures.range refl e.shown e.most c.add.ensures

pub returns-clause-past : goal.returns-clause-past
returns-clause-past c =
    let d = c.args.core.now in
    ap (λ (x : List Gave). record { y = d.y; ms = d.reader.given; gave = x; sent = d.sent; taken = d.taken }) c.add.ensures
