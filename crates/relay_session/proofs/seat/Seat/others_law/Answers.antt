use Rattle.relay_session.proofs.SeatStanding.{others_later, still_fits}
use Rattle.relay_session.proofs.seat.Seat.others_law.Goals as goal

pub returns-clause-stands : goal.returns-clause-stands
returns-clause-stands g c = let P = g.P.StreamPort in λ x y s same roots st. others_later (P.rules x) (P.rules y) P.seen (P.root x) (P.root y) s same roots st

pub returns-clause-fit : goal.returns-clause-fit
returns-clause-fit g c = let P = g.P.StreamPort in λ x y s more f. still_fits (P.fits x) (P.fits y) s.spot more f
