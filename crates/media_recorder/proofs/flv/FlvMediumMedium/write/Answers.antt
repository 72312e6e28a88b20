use Rattle.std.proofs.Common.{rules, ◌≡◌, ◌∷◌, ◌++◌, []}
use Rattle.flv_tags.specs.Text.{item_bytes}
use Rattle.media_recorder.proofs.Adding.{flv_adds}
use Rattle.media_recorder.proofs.flv.FlvMediumMedium.write.Goals as goal

pub returns-clause-ok : goal.returns-clause-ok
returns-clause-ok c =
    let is : c.add.new.self ≡ c.args.self.now ++ c.args.item.now ∷ [] = search rules in
    let added : c.write_item.new.out ≡ c.args.out.now ++ item_bytes c.args.item.now = search rules in
    flv_adds c.args.self.now c.add.new.self c.args.item.now c.args.out.now c.write_item.new.out is added c.known.ensures
