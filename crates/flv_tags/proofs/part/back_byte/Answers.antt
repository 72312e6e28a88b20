use Rattle.std.proofs.Common.{◌≡◌, ◌<◌, ◌≤◌, ◌+◌, ◌∙◌, length, ap, sym, refl, arith}
use Rattle.relay_base.specs.Numbers.{be32_of}
use Rattle.flv_tags.specs.Layout.{size_in}
use Rattle.flv_tags.proofs.Parts.{back_completes, back_grows, back_refused, whole_tag}
use Rattle.flv_tags.proofs.part.back_byte.Goals as goal

pub returns-then-len-lt-BACK-clause-ok : goal.returns-then-len-lt-BACK-clause-ok
returns-then-len-lt-BACK-clause-ok c =
    let back = rw c.if-is_err.ensures.negation at c.push.ensures.items in
    let less : length c.push.new.self.items < 4 = omega arith in
    back_grows c.args.part.now (record {
      head = c.args.part.now.head;
      body = c.args.part.now.body;
      back =
          c.push.new.self;
    }) c.args.byte c.requires.part c.requires.late (c.requires.whole ∙ c.requires.size) refl refl back less

pub returns-then-stored-real-clause-err : goal.returns-then-stored-real-clause-err
returns-then-stored-real-clause-err c =
    let back = rw c.if-is_err.ensures.negation at c.push.ensures.items in
    let four : 4 ≤ length c.push.new.self.items = omega arith in
    let w = whole_tag c.args.part.now c.args.byte c.push.new.self.items c.requires.part c.requires.late (c.requires.whole ∙ c.requires.size) back four in
    back_refused c.args.part.now c.args.byte c.push.new.self.items c.be32-stored.result (c.args.size + 11) w (c.be32-stored.ensures
    ∙ ap be32_of c.deref.ensures.value) (ap (λ n. n + 11) c.requires.size) c.if-stored-real.true

pub returns-clause-ok : goal.returns-clause-ok
returns-clause-ok c =
    let back = rw c.if-is_err.ensures.negation at c.push.ensures.items in
    let four : 4 ≤ length c.push.new.self.items = omega arith in
    let w = whole_tag c.args.part.now c.args.byte c.push.new.self.items c.requires.part c.requires.late (c.requires.whole ∙ c.requires.size) back four in
    let right : be32_of c.push.new.self.items ≡ size_in c.args.part.now.head.items + 11 =
    ap be32_of (sym c.deref.ensures.value) ∙ sym c.be32-stored.ensures ∙ c.if-stored-real.false ∙ ap (λ n. n + 11) c.requires.size in
    back_completes c.args.part.now c.take_tag.new.part c.args.byte c.push.new.self.items c.take_tag.result c.requires.part c.requires.late w right
    c.take_tag.ensures.part c.take_tag.ensures.none c.take_tag.ensures.tag
