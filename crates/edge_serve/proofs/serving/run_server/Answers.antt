use Rattle.std.proofs.Common.{arith}
use Rattle.edge_serve.proofs.serving.run_server.Goals as goal

pub run_workers-requires-clause-total : goal.run_workers-requires-clause-total
run_workers-requires-clause-total g c κs within = c.requires.total

pub run_workers-requires-clause-places : goal.run_workers-requires-clause-places
run_workers-requires-clause-places g c κs within = c.requires.places

pub run_workers-requires-clause-rules : goal.run_workers-requires-clause-rules
run_workers-requires-clause-rules g c κs within = c.requires.serving.rules_are

pub run_workers-requires-clause-serving : goal.run_workers-requires-clause-serving
run_workers-requires-clause-serving g c κs within = c.requires.serving.serving

pub run_workers-requires-clause-ready : goal.run_workers-requires-clause-ready
run_workers-requires-clause-ready g c κs within = c.requires.ready

pub run_workers-requires-clause-http_rules : goal.run_workers-requires-clause-http_rules
run_workers-requires-clause-http_rules g c κs within = c.requires.serving.http_rules

pub run_workers-requires-clause-http_serving : goal.run_workers-requires-clause-http_serving
run_workers-requires-clause-http_serving g c κs within = c.requires.serving.http_serving

pub returns : goal.returns
returns g c =
    let r = c.run_workers.ensures in
    record {
      each = omega (arith, r.each, c.run_workers.result.0.ok.0, c.args.workers.ok.0);
      there = r.http_there;
      serving = record { rules_are = r.rules; serving = r.serving; http_rules = r.http_rules; http_serving = r.http_serving };
      run = r.run;
      http_run = r.http_run;
    }
