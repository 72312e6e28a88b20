-- A session may cross threads
use denote.RattleType.{RattleType}
use denote.Param.Send.{IsSend, sendable, view_send}
use base.Stored.{Coded}
use denote.Hole.{as_row}
use denote.Model.{View}
use denote.Struct.Declared.{Declared, row}
use denote.Param.SendFields.{FieldsHave, declared_send}
use Rattle.std.specs.contracts.option.Option as Option
use Rattle.std.proofs.Crossing.{crosses}
use Rattle.stream_registry.specs.declared.port.StreamPort.{Ghosts}
use Rattle.media_recorder.specs.contracts.flv.FlvMedium as Flv
use Rattle.media_recorder.specs.contracts.flv.FlvMediumMedium.TheImpl.{ghosts}
use Rattle.media_recorder.specs.contracts.recorder.Recorder as Recorder
use Rattle.media_recorder.specs.contracts.transport.TsMedium as Ts
use Rattle.media_recorder.specs.contracts.transport.TsMediumMedium.TheImpl.{ghosts as ts_ghosts}
use Rattle.avc_annexb.specs.contracts.avcc.Avcc as Avcc
use Rattle.ts_writer.specs.contracts.in_force.InForce as InForce
use Rattle.ts_writer.specs.contracts.multiplex.Multiplex as Multiplex
use Rattle.ts_writer.specs.contracts.writer.TsWriter as Writer
use Rattle.relay_session.specs.contracts.body.Body as Body
use Rattle.relay_session.specs.contracts.core_fields.Core.{the_row, the_type}
use Rattle.relay_session.specs.contracts.end.End as End
use Rattle.relay_session.specs.contracts.input.Input as Input
use Rattle.relay_session.specs.contracts.seat.Seat as Seat
use Rattle.relay_session.specs.contracts.session.Session as Session
use Rattle.std_heap.specs.contracts.Global as Heap
use Rattle.std_heap.specs.contracts.GlobalAllocator.TheImpl.{ghosts as heap}
use Rattle.relay_outside.specs.declared.door.Door.{Ghosts as DoorGhosts}
use Rattle.relay_outside.specs.declared.link.Link.{Ghosts as LinkGhosts}
use Rattle.relay_outside.specs.declared.sink.Sink.{Ghosts as SinkGhosts}
use Rattle.relay_worker.specs.contracts.bench.Seated as Seated
use Rattle.relay_worker.specs.contracts.bench.Terms as Terms
use Rattle.relay_worker.specs.contracts.bench.Bench as Bench
use Rattle.relay_worker.specs.contracts.telling.Request as Request
use Rattle.relay_worker.specs.contracts.worker.Worker as Worker
use Rattle.relay_worker.specs.contracts.recorder.Recorder as Rec
use Rattle.slab.specs.contracts.Slab as Slab

whole : (T : Declared) (D : Type 0) (c : Coded D) (view : (row T).Denot → D) (holds : (row T).Denot → Type 0) → FieldsHave IsSend T.parts → IsSend (View (row T) D c view holds)
whole T D c view holds s = view_send (row T) D c view holds (declared_send T s)

pub core_send : IsSend the_row
core_send = declared_send the_type (search (sendable, crosses) depth 40 fits 20000, (search (sendable, crosses) depth 40 fits 20000, (search (sendable, crosses) depth 40 fits 20000, (search (sendable, crosses) depth 40 fits 20000, (search (sendable, crosses) depth 40 fits 20000, (search (sendable, crosses) depth 40 fits 20000, (search (sendable, crosses) depth 40 fits 20000, (search (sendable, crosses) depth 40 fits 20000, (search (sendable, crosses) depth 40 fits 20000, (search (sendable, crosses) depth 40 fits 20000, (search (sendable, crosses) depth 40 fits 20000, (search (sendable, crosses) depth 40 fits 20000, (search (sendable, crosses) depth 40 fits 20000, (search (sendable, crosses) depth 40 fits 20000, (search (sendable, crosses) depth 40 fits 20000, (search (sendable, crosses) depth 40 fits 20000, tt))))))))))))))))

input_send : IsSend Input.the_row
input_send = search (sendable, crosses) depth 40 fits 20000

end_send : IsSend End.the_row
end_send = search (sendable, crosses) depth 40 fits 20000

module _ (P Q : RattleType) (port : Ghosts P.Denot Q.Denot) where
  seat_send : IsSend Q → IsSend (Seat.the_row P Q port)
  seat_send q = search (sendable, crosses) depth 40 fits 20000

  body_send : IsSend Q → IsSend (Body.the_row P Q port)
  body_send q =
      let a = core_send in
      let b = input_send in
      let c = seat_send q in
      declared_send (Body.the_type P Q port) (search (sendable, crosses) depth 40 fits 20000, (search (sendable, crosses) depth 40 fits 20000, (search (sendable, crosses) depth 40 fits 20000, tt)))

  body_field : IsSend Q → IsSend (as_row (Body.the_field P Q port))
  body_field q = body_send q

  end_field : IsSend (as_row (Option.the_field End.the_row))
  end_field = search (sendable, crosses) depth 40 fits 20000

  pub session_send : IsSend Q → IsSend (Session.the_row P Q port)
  session_send q =
      let b = body_field q in
      let e = end_field in
      search (whole, sendable) depth 40

pub flv_send : (P Q : RattleType) (port : Ghosts P.Denot Q.Denot) → IsSend Q → IsSend (Recorder.the_row P Flv.the_row Q port ghosts)
flv_send P Q port q = search (sendable, crosses) depth 40 fits 20000

avcc_send : IsSend Avcc.the_row
avcc_send = search (sendable, crosses) depth 40 fits 20000

in_force_send : IsSend InForce.the_row
in_force_send =
    let a = avcc_send in
    search (sendable, crosses) depth 40 fits 20000

multiplex_send : IsSend Multiplex.the_row
multiplex_send = search (sendable, crosses) depth 40 fits 20000

writer_send : IsSend Writer.the_row
writer_send =
    let i = in_force_send in
    let m = multiplex_send in
    search (whole, sendable, crosses) depth 40 fits 20000

writer_field : IsSend (as_row (Option.the_field Writer.the_row))
writer_field =
    let w = writer_send in
    search (sendable, crosses) depth 40 fits 20000

medium_send : IsSend Ts.the_row
medium_send =
    let w = writer_field in
    search (whole, sendable, crosses) depth 40 fits 20000

pub ts_send : (P Q : RattleType) (port : Ghosts P.Denot Q.Denot) → IsSend Q → IsSend (Recorder.the_row P Ts.the_row Q port ts_ghosts)
ts_send P Q port q =
    let m = medium_send in
    search (sendable, crosses) depth 40 fits 20000

slab_send : (S : RattleType) → IsSend S → IsSend (Slab.the_row S Heap.the_row heap)
slab_send S s = search (sendable, crosses) depth 40 fits 20000

request_send : IsSend Request.the_row
request_send = search (sendable, crosses) depth 40 fits 20000

request_field : IsSend (as_row (Option.the_field Request.the_row))
request_field =
    let r = request_send in
    search (sendable, crosses) depth 40 fits 20000

terms_send : IsSend Terms.the_row
terms_send = search (sendable, crosses) depth 40 fits 20000

module _ (P Q : RattleType) (port : Ghosts P.Denot Q.Denot) where
  session_field : IsSend Q → IsSend (as_row (Session.the_field P Q port))
  session_field q = session_send P Q port q

  flv_field : IsSend Q → IsSend (as_row (Recorder.the_field P Flv.the_row Q port ghosts))
  flv_field q = flv_send P Q port q

  ts_field : IsSend Q → IsSend (as_row (Recorder.the_field P Ts.the_row Q port ts_ghosts))
  ts_field q = ts_send P Q port q

  seated_send : (L : RattleType) → IsSend L → IsSend Q → IsSend (Seated.the_row P L Q port)
  seated_send L l q =
      let s = session_field q in
      let r = request_field in
      declared_send (Seated.the_type P L Q port) (search (sendable, crosses) depth 40 fits 20000, (search (sendable, crosses) depth 40 fits 20000, (search (sendable, crosses) depth 40 fits 20000, (search (sendable, crosses) depth 40 fits 20000, (search (sendable, crosses) depth 40 fits 20000, (search (sendable, crosses) depth 40 fits 20000, (search (sendable, crosses) depth 40 fits 20000, tt)))))))

  bench_send : (D L : RattleType) → IsSend P → IsSend D → IsSend L → IsSend Q → IsSend (Bench.the_row P D Q L port)
  bench_send D L p d l q =
      let s = slab_send (Seated.the_row P L Q port) (seated_send L l q) in
      search (sendable, crosses) depth 40 fits 20000

  rec_send : (K : RattleType) → IsSend K → IsSend Q → IsSend (Rec.the_row P K Q port)
  rec_send K k q =
      let f = flv_field q in
      let t = ts_field q in
      search (sendable, crosses) depth 40 fits 20000

  pub worker_send : (D R K L : RattleType) (door : DoorGhosts D.Denot L.Denot) (link : LinkGhosts L.Denot) (sink : SinkGhosts K.Denot) → IsSend P → IsSend D → IsSend R → IsSend K → IsSend Q → IsSend L
      → IsSend (Worker.the_row P D R K Q L port door link sink)
  worker_send D R K L door link sink p d r k q l =
      let b = bench_send D L p d l q in
      let t = terms_send in
      let c = rec_send K k q in
      search (whole, sendable, crosses) depth 40 fits 20000

  pub worker_field : (D R K L : RattleType) (door : DoorGhosts D.Denot L.Denot) (link : LinkGhosts L.Denot) (sink : SinkGhosts K.Denot) → IsSend P → IsSend D → IsSend R → IsSend K → IsSend Q → IsSend L
      → IsSend (as_row (Worker.the_field P D R K Q L port door link sink))
  worker_field D R K L door link sink p d r k q l = worker_send D R K L door link sink p d r k q l
