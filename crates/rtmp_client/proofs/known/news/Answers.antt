use Rattle.std.proofs.Common.{sym, ap, ◌∙◌, Some, None, inr, Ok}
use Rattle.amf0_value.specs.Refusal.{StopsAll}
use Rattle.amf0_value.proofs.Within.{all_stops_within}
use Rattle.amf0_value.proofs.Placed.{is_within}
use Rattle.rtmp_client.proofs.Knowing.{tells, tells_not}
use Rattle.rtmp_client.proofs.known.news.Goals as goal

pub placed-requires : goal.placed-requires
placed-requires c = is_within (StopsAll c.args.body.now) c.args.body.now c.in-Err.stop (all_stops_within c.args.body.now) c.in-Err.ensures

pub returns-in-Ok-Some : goal.returns-in-Ok-Some
returns-in-Ok-Some c = let h = c.in-Ok-Some.ensures in tells c.args.body.now h.0 (Some c.in-Ok-Some.known) h.1 (sym c.in-Ok-Some.field-0-is ∙ h.2) ∙ ap Ok (sym c.news_of.ensures)

pub returns-in-Ok-None : goal.returns-in-Ok-None
returns-in-Ok-None c = let h = c.in-Ok-None.ensures in inr (tells c.args.body.now h.0 None h.1 (sym c.in-Ok-None.field-0-is ∙ h.2))

pub returns-in-Err : goal.returns-in-Err
returns-in-Err c = tells_not c.args.body.now c.in-Err.stop c.placed.result c.no_command.result c.in-Err.ensures c.placed.ensures c.no_command.ensures
