use Rattle.edge_serve.proofs.pulling.new_edge.Goals as goal

pub returns-clause-made : goal.returns-clause-made
returns-clause-made g c =
    let e = c.new.ensures in
    record {
      who = e.fixed.0;
      place = e.fixed.1;
      calls = e.empty.0;
      kept = e.empty.1;
      due = e.empty.2;
      client = e.client;
      seat = e.at;
    }
