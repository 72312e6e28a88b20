use Rattle.std.proofs.Common.{◌∙◌, subst, sym, ap, length, map, Some}
use Rattle.std.proofs.lemmas.List.{length-map}
use Rattle.std.proofs.lemmas.List.Elements.{All-pop}
use Rattle.stream_model.specs.declared.calls.StreamLimits.{StreamLimits}
use Rattle.std.specs.List.{AllPass}
use Rattle.relay_config.specs.Accepts.{has_names}
use Rattle.stream_registry.specs.Names.{shapes_of}
use Rattle.stream_registry.specs.Sites.{AreSites}
use Rattle.stream_registry.specs.SharedState.{IsNewPort}
use Rattle.relay_serve.specs.Places.{name_of, open_of}
use Rattle.relay_serve.proofs.Limited.{new_shapes}
use Rattle.relay_serve.proofs.Opened.{few_names, short_names}
use Rattle.relay_serve.proofs.serving.make_ready.Goals as goal

pub names_of-requires : goal.names_of-requires
names_of-requires g c = short_names c.as_slice.result.now (subst (AllPass has_names) (sym c.as_slice.ensures) c.requires.lawful.names)

pub shared_ports-requires : goal.shared_ports-requires
shared_ports-requires g c =
    few_names c.args.config.now c.in-Ok.names c.in-Ok-opens_of.opens c.requires.lawful (c.in-Ok.ensures ∙ ap (map name_of) c.as_slice.ensures)
    (c.in-Ok-opens_of.ensures ∙ ap (map open_of) c.as_slice-2.ensures)

pub returns-clause-places : goal.returns-clause-places
returns-clause-places g c =
    let p = c.in-Ok-shared_ports.ensures in
    let n = (All-pop (IsNewPort c.in-Ok.names c.in-Ok-opens_of.opens p.ids) c.in-Ok-shared_ports.ports.items c.pop.new.self.items (Some c.in-Some.port) c.in-Some.ensures.items p.each).1 in
    record {
      streams = sym (ap length n.names_are ∙ (ap length c.in-Ok.ensures ∙ (length-map c.as_slice.result.now name_of ∙ ap length c.as_slice.ensures)));
      opens = sym (ap length n.opens_are ∙ (ap length c.in-Ok-opens_of.ensures ∙ (length-map c.as_slice-2.result.now open_of ∙ ap length c.as_slice-2.ensures)));
    }

pub returns-clause-shaped : goal.returns-clause-shaped
returns-clause-shaped g c =
    let p = c.in-Ok-shared_ports.ensures in
    let n = (All-pop (IsNewPort c.in-Ok.names c.in-Ok-opens_of.opens p.ids) c.in-Ok-shared_ports.ports.items c.pop.new.self.items (Some c.in-Some.port) c.in-Some.ensures.items p.each).1 in
    new_shapes c.args.config.now c.in-Ok.names c.in-Ok-opens_of.opens p.ids c.in-Some.port n.gates_are
    (subst (λ (l : StreamLimits). AreSites (shapes_of l c.in-Ok.names c.in-Ok-opens_of.opens) p.ids) c.stream_limits.ensures p.sites_are)
    c.places_law.ensures.listed c.places_law.ensures.pools (c.in-Ok.ensures ∙ ap (map name_of) c.as_slice.ensures) (c.in-Ok-opens_of.ensures ∙ ap (map open_of) c.as_slice-2.ensures) p.a_gate_each

pub open_workers-requires-clause-places : goal.open_workers-requires-clause-places
open_workers-requires-clause-places g c κs within =
    let p = c.in-Ok-shared_ports.ensures in
    let n = (All-pop (IsNewPort c.in-Ok.names c.in-Ok-opens_of.opens p.ids) c.in-Ok-shared_ports.ports.items c.pop.new.self.items (Some c.in-Some.port) c.in-Some.ensures.items p.each).1 in
    sym (ap length n.names_are ∙ (ap length c.in-Ok.ensures ∙ (length-map c.as_slice.result.now name_of ∙ ap length c.as_slice.ensures)))

pub returns-clause-asked : goal.returns-clause-asked
returns-clause-asked g c = record {
  mid = g.H.House.asked c.open_workers.new.house;
  sessions = c.in_ok-workers.ensures.asked;
  players = c.in_ok-http.ensures.asked;
}
