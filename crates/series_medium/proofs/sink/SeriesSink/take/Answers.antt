use Rattle.series_medium.specs.declared.part.Part.TheVariants.{Kind, Length1, Length2, Length3, Length4, Data}
use Rattle.series_medium.proofs.Sinking.{head_read}
use Rattle.series_medium.proofs.sink.SeriesSink.take.Goals as goal

pub take_kind-requires-clause-head : goal.take_kind-requires-clause-head
take_kind-requires-clause-head g c =
    rw (← c.self.view_is) (head_read _ _ c.self.inside.taken c.args.piece.now c.self.inside.handed c.read_head-part.result.1 c.self.inside.part c.read_head-part.result.0 Kind
    c.self.inside.stopped c.self.invariant c.read_head-part.ensures.within c.read_head-part.ensures.reads c.read_head-part.ensures.due c.in-Kind.is)

pub take_data-requires-clause-head : goal.take_data-requires-clause-head
take_data-requires-clause-head g c =
    rw (← c.self.view_is) (head_read _ _ c.self.inside.taken c.args.piece.now c.self.inside.handed c.read_head-part.result.1 c.self.inside.part c.read_head-part.result.0 (Data c.in-Data.left)
    c.self.inside.stopped c.self.invariant c.read_head-part.ensures.within c.read_head-part.ensures.reads c.read_head-part.ensures.due c.in-Data.is)

pub take_head-requires-clause-head : goal.take_head-requires-clause-head
take_head-requires-clause-head g c =
    rw (← c.self.view_is) (head_read _ _ c.self.inside.taken c.args.piece.now c.self.inside.handed c.read_head-part.result.1 c.self.inside.part c.read_head-part.result.0 Length1
    c.self.inside.stopped c.self.invariant c.read_head-part.ensures.within c.read_head-part.ensures.reads c.read_head-part.ensures.due c.in-Length1.is)

pub take_head-requires-in-Length2-clause-head : goal.take_head-requires-in-Length2-clause-head
take_head-requires-in-Length2-clause-head g c =
    rw (← c.self.view_is) (head_read _ _ c.self.inside.taken c.args.piece.now c.self.inside.handed c.read_head-part.result.1 c.self.inside.part c.read_head-part.result.0 (Length2 c.in-Length2.a)
    c.self.inside.stopped c.self.invariant c.read_head-part.ensures.within c.read_head-part.ensures.reads c.read_head-part.ensures.due c.in-Length2.is)

pub take_head-requires-in-Length3-clause-head : goal.take_head-requires-in-Length3-clause-head
take_head-requires-in-Length3-clause-head g c =
    rw (← c.self.view_is) (head_read _ _ c.self.inside.taken c.args.piece.now c.self.inside.handed c.read_head-part.result.1 c.self.inside.part c.read_head-part.result.0 (Length3 c.in-Length3.a c.in-Length3.b)
    c.self.inside.stopped c.self.invariant c.read_head-part.ensures.within c.read_head-part.ensures.reads c.read_head-part.ensures.due c.in-Length3.is)

pub take_head-requires-in-Length4-clause-head : goal.take_head-requires-in-Length4-clause-head
take_head-requires-in-Length4-clause-head g c =
    rw (← c.self.view_is) (head_read _ _ c.self.inside.taken c.args.piece.now c.self.inside.handed c.read_head-part.result.1 c.self.inside.part c.read_head-part.result.0 (Length4 c.in-Length4.a c.in-Length4.b c.in-Length4.c)
    c.self.inside.stopped c.self.invariant c.read_head-part.ensures.within c.read_head-part.ensures.reads c.read_head-part.ensures.due c.in-Length4.is)
