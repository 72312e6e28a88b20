use Rattle.std.proofs.Common.{refl}
use Rattle.http_worker.proofs.Booking.{first_books}
use Rattle.http_worker.proofs.Sounding.{sound_new}
use Rattle.http_worker.proofs.worker.HttpWorker.new.Goals as goal

pub invariant_of-result : goal.invariant_of-result
invariant_of-result g c =
    sound_new g.P.StreamPort.fits g.P.StreamPort.rules g.D.Door.told _ _ c.requires.short c.in-Ok.ensures.empty c.in-Ok.ensures.capacity refl refl
    c.requires.door.given c.requires.door.open_yet

pub returns-clause-books : goal.returns-clause-books
returns-clause-books g c = λ desk. first_books g.P.StreamPort.rules g.P.StreamPort.root g.P.StreamPort.seen g.D.Link.Link.told g.D.Link.Link.counts
    g.D.Door.told desk _ _ c.requires.door c.in-Ok.ensures.empty refl
