use Rattle.std.proofs.Common.{refl, subst, sym}
use Rattle.rtmp_client.specs.Owing.{IsSayable}
use Rattle.rtmp_client.proofs.Gave.{living_finish}
use Rattle.rtmp_client.proofs.Sayable.{delete_sayable}
use Rattle.rtmp_client.proofs.giving.give_finish.Goals as goal

pub say-requires : goal.say-requires
say-requires c = subst IsSayable (sym c.in_ok-message.ensures) (delete_sayable c.args.id)

pub returns-clause-living : goal.returns-clause-living
returns-clause-living c =
    let d = c.args.core.now in
    let e = c.in_ok-say.ensures in
    living_finish d c.in_ok-message.message c.args.id d.fed c.say.new.self c.add.new.self c.requires.living c.requires.started c.requires.open refl c.in_ok-message.ensures e.said e.light e.apart c.add.ensures
