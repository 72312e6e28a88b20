-- What the step means gives the other clauses.
use Rattle.std.proofs.Common.{rules, length}
use Rattle.relay_outside.specs.Memory.{MemSourceState}
use Rattle.relay_outside.specs.Get.{gave}
use Rattle.relay_outside.specs.MemoryLaws.{mem_gives_mean}
use Rattle.relay_outside.proofs.mem_source.MemSourceSource.get.Goals as goal

pub returns-clause-bytes : goal.returns-clause-bytes
returns-clause-bytes c =
    let after : MemSourceState = record { pieces = c.give.new.self; count = c.fails_next.new.self } in
    (mem_gives_mean c.args.self.now (length c.args.into.now) (gave c.match-give.result c.give.new.into) after c.requires (search rules)).bytes
