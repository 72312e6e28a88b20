-- A stream or a pool under measurement may cross threads
use base.Stored.{Coded}
use denote.Hole.{as_row}
use denote.Model.{View}
use denote.Param.Send.{IsSend, sendable, view_send}
use denote.Param.SendFields.{FieldsHave, declared_send}
use denote.Struct.Declared.{Declared, row}
use Rattle.std.proofs.Crossing.{crosses}
use Rattle.stream_core.proofs.place.Place.TheSendSync as place
use Rattle.stream_core.specs.contracts.stream.Stream as Stream
use Rattle.unit_ring.proofs.window.Slotted.TheSendSync as slotted
use Rattle.unit_ring.specs.contracts.newest.Newest as Newest
use Rattle.unit_ring.specs.contracts.ring.Ring as Ring
use Rattle.unit_ring.specs.contracts.window.Window as Window
use Rattle.relay_bench.specs.contracts.stream.Busy as Busy

whole : (T : Declared) (D : Type 0) (c : Coded D) (view : (row T).Denot → D) (holds : (row T).Denot → Type 0) → FieldsHave IsSend T.parts → IsSend (View (row T) D c view holds)
whole T D c view holds s = view_send (row T) D c view holds (declared_send T s)

newest_send : IsSend Newest.the_row
newest_send = search (sendable, crosses) depth 40 fits 20000

window_send : IsSend Window.the_row
window_send = search (sendable, crosses, slotted.the_send) depth 40 fits 20000

newest_field : IsSend (as_row Newest.the_field)
newest_field = newest_send

window_field : IsSend (as_row Window.the_field)
window_field = window_send

ring_send : IsSend Ring.the_row
ring_send =
    let n = newest_field in
    let w = window_field in
    search (whole, sendable, crosses) depth 40 fits 20000

stream_send : IsSend Stream.the_row
stream_send =
    let r = ring_send in
    search (sendable, crosses, place.the_send) depth 40 fits 20000

pub busy_send : IsSend Busy.the_row
busy_send =
    let s = stream_send in
    search (sendable, crosses, place.the_send) depth 40 fits 20000
