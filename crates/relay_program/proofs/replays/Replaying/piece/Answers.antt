use Rattle.std.proofs.Common.{◌++◌, sym, rules}
use Rattle.relay_program.proofs.Script.{has_feed, no_feed}
use Rattle.relay_program.proofs.Steps.{after_feed, feed_place}
use Rattle.relay_program.proofs.ReplaySteps.{stops_then, goes_then, result_then, line_goes, line_stops, rest_ends}
use Rattle.relay_program.proofs.replays.Replaying.piece.Goals as goal

pub returns-in_err-whole_line-clause-goes : goal.returns-in_err-whole_line-clause-goes
returns-in_err-whole_line-clause-goes g c = λ rest.
    let left = c.loop-feed.left.now in
    let feed = has_feed left c.in-Some.feed (sym c.in-Some.ensures) in
    let stopped = line_stops c.in_err-whole_line.field-0.0 c.loop-feed.self left rest c.in-Some.feed feed
    (c.in_err-whole_line.ensures.goes (after_feed left c.in-Some.feed ++ rest) feed.clean) in
    let h = stops_then c.in_err-whole_line.field-0.0 c.args.self.now c.loop-feed.self _ (left ++ rest) (c.loop-feed.invariant.goes rest) stopped in
    search (rules, h)

pub loop-feed-preserved : goal.loop-feed-preserved
loop-feed-preserved g c =
    let left = c.loop-feed.left.now in
    let feed = has_feed left c.in-Some.feed (sym c.in-Some.ensures) in
    record {
      fit = c.in_ok-whole_line.ensures.fit;
      place = feed_place left c.in-Some.feed c.loop-feed.self.place c.whole_line.new.self.place _ feed.within c.in_ok-whole_line.ensures.place
          c.loop-feed.invariant.place;
      goes = λ rest. goes_then c.args.self.now c.loop-feed.self c.whole_line.new.self _ (left ++ rest) _ (c.loop-feed.invariant.goes rest)
          (line_goes c.loop-feed.self c.whole_line.new.self left rest c.in-Some.feed feed
          (c.in_ok-whole_line.ensures.goes (after_feed left c.in-Some.feed ++ rest) feed.clean));
    }

pub returns-clause-goes : goal.returns-clause-goes
returns-clause-goes g c = λ rest.
    let left = c.loop-feed.left.now in
    result_then c.extend.result c.args.self.now c.loop-feed.self c.extend.new.self _ (left ++ rest) rest (c.loop-feed.invariant.goes rest)
    (rest_ends c.extend.result c.loop-feed.self c.extend.new.self left rest c.loop-feed.invariant.fit (no_feed left (sym c.in_default.ensures))
    c.extend.ensures.extended)
