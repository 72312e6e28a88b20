use Rattle.std.proofs.Common.{◌∙◌, ap, nat_lt, arith}
use Rattle.chunk_wire.specs.declared.headers.Basic.{Basic}
use Rattle.chunk_wire.specs.declared.kept.Terms.{Terms}
use Rattle.chunk_reader.specs.Core.{the_state}
use Rattle.chunk_reader.proofs.Headers.{short_whole, whole_is, opened_terms}
use Rattle.chunk_reader.proofs.header.after_head.Goals as goal

pub returns-then-len-whole_size : goal.returns-then-len-whole_size
returns-then-len-whole_size c = short_whole (the_state c.args.core.now) c.args.core.now.head.items c.args.at c.extends-extended.result c.whole_size.result c.requires.at c.extends-extended.ensures c.whole_size.ensures (omega (arith, c.len.ensures)) c.requires.room

pub returns-then-terms-core : goal.returns-then-terms-core
returns-then-terms-core c =
    let e = c.terms_after-terms.ensures ∙ opened_terms (the_state c.args.core.now) c.args.core.now.head.items c.args.before.terms c.args.before.part c.args.head c.value-value.result c.extends-extended.result c.requires.terms c.requires.part c.requires.head c.value-value.ensures c.extends-extended.ensures in
    (whole_is (the_state c.args.core.now) c.args.core.now.head.items c.args.at c.extends-extended.result c.whole_size.result c.requires.at c.extends-extended.ensures c.whole_size.ensures (omega (arith, c.len.ensures)), c.requires.room, ap (λ (t : Terms). t.length) e, omega arith)

pub returns : goal.returns
returns c =
    let e = c.terms_after-terms.ensures ∙ opened_terms (the_state c.args.core.now) c.args.core.now.head.items c.args.before.terms c.args.before.part c.args.head c.value-value.result c.extends-extended.result c.requires.terms c.requires.part c.requires.head c.value-value.ensures c.extends-extended.ensures in
    let n = ap (λ (t : Terms). t.length) e in
    record {
      whole = whole_is (the_state c.args.core.now) c.args.core.now.head.items c.args.at c.extends-extended.result c.whole_size.result c.requires.at c.extends-extended.ensures c.whole_size.ensures (omega (arith, c.len.ensures));
      room = c.requires.room;
      fits = omega (arith, n);
      id = ap (λ (b : Basic). b.id) c.requires.basic;
      place = c.requires.place;
      within = c.requires.within;
      terms = e;
      drops = ap (λ (b : Basic). nat_lt b.format 3) c.requires.basic;
    }
