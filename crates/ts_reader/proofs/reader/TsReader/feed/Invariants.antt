use Rattle.std.proofs.Common.{◌≡◌, ◌≤◌, ◌-◌, length, None}
use Rattle.ts_reader.specs.Feeds.{Stands}
use Rattle.ts_reader.proofs.Feeding.{fed_to}
use Rattle.ts_reader.proofs.reader.TsReader.feed.Given as goal

abbrev pub invariant-loop-used : goal.invariant-loop-used
invariant-loop-used l = record {
  within : l.used ≤ length l.piece;
  lives : l.fn.self.failed ≡ None;
  now : l.self ≡ fed_to l.fn.self l.piece l.used;
  read : Stands l.self;
}

abbrev pub decreases-loop-used : goal.decreases-loop-used
decreases-loop-used l = length l.piece - l.used
