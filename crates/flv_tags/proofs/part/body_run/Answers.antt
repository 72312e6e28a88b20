use Rattle.std.proofs.Common.{◌≡◌, ◌++◌, ◌∙◌, ap, refl, arith}
use Rattle.flv_tags.proofs.Parts.{body_grows}
use Rattle.flv_tags.proofs.part.body_run.Goals as goal

pub returns : goal.returns
returns c =
    let body : c.append.new.self ≡ c.args.part.now.body ++ c.args.run.now = c.in_ok-append.ensures.ok
    ∙ ap (λ t. t ++ c.args.run.now) c.in_ok-make_room.ensures in
    body_grows c.args.part.now (record {
      head = c.args.part.now.head;
      body = c.append.new.self;
      back =
          c.args.part.now.back;
    }) c.args.run.now c.requires.part c.requires.late refl body refl (omega arith) c.requires.some
