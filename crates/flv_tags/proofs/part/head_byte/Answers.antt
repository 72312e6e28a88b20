use Rattle.std.proofs.Common.{refl}
use Rattle.flv_tags.proofs.Parts.{head_grows}
use Rattle.flv_tags.proofs.part.head_byte.Goals as goal

pub returns-clause-ok : goal.returns-clause-ok
returns-clause-ok c =
    let head = rw c.if-is_err.ensures.negation at c.push.ensures.items in
    let v = c.deref.ensures.value in
    let kind = rw v at c.is_refused.ensures.kind c.if-is_refused.false in
    let fits = rw v at c.is_refused.ensures.fits c.if-is_refused.false in
    head_grows c.args.part.now (record {
      head = c.push.new.self;
      body = c.args.part.now.body;
      back =
          c.args.part.now.back;
    }) c.args.byte c.requires.part c.requires.early head refl refl kind fits
