-- A port to streams and its passes may cross threads
use base.Stored.{Coded}
use denote.Hole.{as_row}
use denote.Model.{View}
use denote.Param.Send.{IsSend, sendable, view_send}
use denote.Param.SendFields.{FieldsHave, declared_send}
use denote.Struct.Declared.{Declared, row}
use Rattle.std.proofs.Crossing.{crosses}
use Rattle.std.specs.contracts.result.Result as Result
use Rattle.av_unit.specs.contracts.bytes.OutOfMemory as OutOfMemory
use Rattle.stream_model.specs.contracts.calls.Entry as Entry
use Rattle.stream_model.specs.contracts.replies.Reply as Reply
use Rattle.stream_core.proofs.place.Place.TheSendSync as place
use Rattle.stream_core.specs.contracts.stream.Stream as Stream
use Rattle.stream_registry.proofs.shared.Shared.TheSendSync as shared
use Rattle.stream_registry.specs.contracts.place_table.PlaceTable as PlaceTable
use Rattle.stream_registry.specs.contracts.place_table.PlaceTableMachine.TheImpl.{ghosts}
use Rattle.stream_registry.specs.contracts.place_table.Site as Site
use Rattle.stream_registry.specs.contracts.shared.Shared as Shared
use Rattle.turn_gate.proofs.pass.Pass.TheSendSync as pass
use Rattle.turn_gate.specs.contracts.pass.Pass as Pass
use Rattle.unit_ring.proofs.window.Slotted.TheSendSync as slotted
use Rattle.unit_ring.specs.contracts.newest.Newest as Newest
use Rattle.unit_ring.specs.contracts.ring.Ring as Ring
use Rattle.unit_ring.specs.contracts.window.Window as Window

whole : (T : Declared) (D : Type 0) (c : Coded D) (view : (row T).Denot → D) (holds : (row T).Denot → Type 0) → FieldsHave IsSend T.parts → IsSend (View (row T) D c view holds)
whole T D c view holds s = view_send (row T) D c view holds (declared_send T s)

newest_send : IsSend Newest.the_row
newest_send = search (sendable, crosses) depth 40 fits 20000

window_send : IsSend Window.the_row
window_send = search (sendable, crosses, slotted.the_send) depth 40 fits 20000

newest_field : IsSend (as_row Newest.the_field)
newest_field = newest_send

window_field : IsSend (as_row Window.the_field)
window_field = window_send

ring_send : IsSend Ring.the_row
ring_send =
    let n = newest_field in
    let w = window_field in
    search (whole, sendable, crosses) depth 40 fits 20000

stream_send : IsSend Stream.the_row
stream_send =
    let r = ring_send in
    search (sendable, crosses, place.the_send) depth 40 fits 20000

desk_send : IsSend PlaceTable.the_row
desk_send =
    let s = stream_send in
    search (sendable, crosses) depth 40 fits 20000

pub port_send : IsSend (Shared.the_row PlaceTable.the_row Entry.the_row (Result.the_row Reply.the_row OutOfMemory.the_row) Site.the_row ghosts)
port_send =
    let d = desk_send in
    search (sendable, crosses, shared.the_send) depth 40 fits 20000

pub pass_send : IsSend (Pass.the_row PlaceTable.the_row Entry.the_row (Result.the_row Reply.the_row OutOfMemory.the_row) Site.the_row ghosts)
pass_send =
    let d = desk_send in
    search (sendable, crosses, pass.the_send) depth 40 fits 20000
