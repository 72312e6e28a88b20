use Rattle.std.proofs.Common.{ap}
use Rattle.relay_session.specs.Owing.{Owing}
use Rattle.loop_command.specs.Desk.{granted}
use Rattle.loop_command.proofs.line.new_session.Goals as goal

pub returns-then-is_idle-clause-new : goal.returns-then-is_idle-clause-new
returns-then-is_idle-clause-new c =
    let e = c.new-session.ensures in
    record {
      past = e.past;
      who_is = e.fixed.0;
      window_is = e.fixed.1;
      max = e.fixed.2;
      input = e.input;
      lives = e.lives.1;
      goes_on = e.lives.0;
      fed = e.fed;
      outbound = e.outbound;
      others = ap (λ (o : Owing). o.others) e.outgoing;
      place = e.at.0;
      spot = e.at.1;
      visits = e.at.2;
      active = c.is_idle.ensures c.if-is_idle.true;
      stands = e.stands granted;
    }
