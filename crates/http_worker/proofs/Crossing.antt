-- A worker may cross threads
use denote.RattleType.{RattleType}
use denote.Param.Send.{IsSend, sendable, view_send}
use base.Stored.{Coded}
use denote.Hole.{as_row}
use denote.Model.{View}
use denote.Struct.Declared.{Declared, row}
use denote.Param.SendFields.{FieldsHave, declared_send}
use Rattle.std.specs.contracts.option.Option as Option
use Rattle.std.proofs.Crossing.{crosses}
use Rattle.stream_registry.specs.declared.port.StreamPort.{Ghosts}
use Rattle.relay_session.specs.contracts.seat.Seat as Seat
use Rattle.std_heap.specs.contracts.Global as Heap
use Rattle.std_heap.specs.contracts.GlobalAllocator.TheImpl.{ghosts as heap}
use Rattle.relay_outside.specs.declared.door.Door.{Ghosts as DoorGhosts}
use Rattle.relay_outside.specs.declared.link.Link.{Ghosts as LinkGhosts}
use Rattle.http_flv.specs.contracts.body.Body as Body
use Rattle.http_flv.specs.contracts.core_fields.Core.{the_row, the_type}
use Rattle.http_flv.specs.contracts.end.HttpEnd as End
use Rattle.http_flv.specs.contracts.player.HttpPlayer as Player
use Rattle.http_flv.specs.contracts.sending.Outbox as Outbox
use Rattle.http_worker.specs.contracts.bench.Seated as Seated
use Rattle.http_worker.specs.contracts.bench.Terms as Terms
use Rattle.http_worker.specs.contracts.bench.Bench as Bench
use Rattle.http_worker.specs.contracts.telling.Request as Request
use Rattle.http_worker.specs.contracts.worker.HttpWorker as Worker
use Rattle.slab.specs.contracts.Slab as Slab

whole : (T : Declared) (D : Type 0) (c : Coded D) (view : (row T).Denot → D) (holds : (row T).Denot → Type 0) → FieldsHave IsSend T.parts
    → IsSend (View (row T) D c view holds)
whole T D c view holds s = view_send (row T) D c view holds (declared_send T s)

outbox_send : IsSend Outbox.the_row
outbox_send = search (whole, sendable, crosses) depth 40 fits 20000

core_send : IsSend the_row
core_send =
    let o = outbox_send in
    declared_send the_type (
      search (sendable, crosses) depth 40 fits 20000,
      (
        search (sendable, crosses) depth 40 fits 20000,
        (
          search (sendable, crosses) depth 40 fits 20000,
          (
            search (sendable, crosses) depth 40 fits 20000,
            (
              search (sendable, crosses) depth 40 fits 20000,
              (
                search (sendable, crosses) depth 40 fits 20000,
                (
                  search (sendable, crosses) depth 40 fits 20000,
                  (
                    search (sendable, crosses) depth 40 fits 20000,
                    (
                      search (sendable, crosses) depth 40 fits 20000,
                      (
                        search (sendable, crosses) depth 40 fits 20000,
                        (search (sendable, crosses) depth 40 fits 20000, tt),
                      ),
                    ),
                  ),
                ),
              ),
            ),
          ),
        ),
      ),
    )

end_send : IsSend End.the_row
end_send = search (sendable, crosses) depth 40 fits 20000

slab_send : (S : RattleType) → IsSend S → IsSend (Slab.the_row S Heap.the_row heap)
slab_send S s = search (sendable, crosses) depth 40 fits 20000

request_send : IsSend Request.the_row
request_send = search (sendable, crosses) depth 40 fits 20000

request_field : IsSend (as_row (Option.the_field Request.the_row))
request_field =
    let r = request_send in
    search (sendable, crosses) depth 40 fits 20000

terms_send : IsSend Terms.the_row
terms_send = search (sendable, crosses) depth 40 fits 20000

module _ (P Q : RattleType) (port : Ghosts P.Denot Q.Denot) where
  seat_send : IsSend Q → IsSend (Seat.the_row P Q port)
  seat_send q = search (sendable, crosses) depth 40 fits 20000

  body_send : IsSend Q → IsSend (Body.the_row P Q port)
  body_send q =
      let a = core_send in
      let c = seat_send q in
      declared_send (Body.the_type P Q port) (search (sendable, crosses) depth 40 fits 20000, (search (sendable, crosses) depth 40 fits 20000, tt))

  body_field : IsSend Q → IsSend (as_row (Body.the_field P Q port))
  body_field q = body_send q

  end_field : IsSend (as_row (Option.the_field End.the_row))
  end_field = search (sendable, crosses) depth 40 fits 20000

  player_send : IsSend Q → IsSend (Player.the_row P Q port)
  player_send q =
      let b = body_field q in
      let e = end_field in
      search (whole, sendable) depth 40

  player_field : IsSend Q → IsSend (as_row (Player.the_field P Q port))
  player_field q = player_send q

  seated_send : (L : RattleType) → IsSend L → IsSend Q → IsSend (Seated.the_row P L Q port)
  seated_send L l q =
      let s = player_field q in
      let r = request_field in
      declared_send (Seated.the_type P L Q port) (
        search (sendable, crosses) depth 40 fits 20000,
        (
          search (sendable, crosses) depth 40 fits 20000,
          (
            search (sendable, crosses) depth 40 fits 20000,
            (
              search (sendable, crosses) depth 40 fits 20000,
              (
                search (sendable, crosses) depth 40 fits 20000,
                (search (sendable, crosses) depth 40 fits 20000, (search (sendable, crosses) depth 40 fits 20000, tt)),
              ),
            ),
          ),
        ),
      )

  bench_send : (D L : RattleType) → IsSend P → IsSend D → IsSend L → IsSend Q → IsSend (Bench.the_row P D Q L port)
  bench_send D L p d l q =
      let s = slab_send (Seated.the_row P L Q port) (seated_send L l q) in
      search (sendable, crosses) depth 40 fits 20000

  pub worker_send : (D R L : RattleType) (door : DoorGhosts D.Denot L.Denot) (link : LinkGhosts L.Denot) → IsSend P → IsSend D → IsSend R → IsSend Q
      → IsSend L → IsSend (Worker.the_row P D R Q L port door link)
  worker_send D R L door link p d r q l =
      let b = bench_send D L p d l q in
      let t = terms_send in
      search (whole, sendable, crosses) depth 40 fits 20000

  pub worker_field : (D R L : RattleType) (door : DoorGhosts D.Denot L.Denot) (link : LinkGhosts L.Denot) → IsSend P → IsSend D → IsSend R → IsSend Q
      → IsSend L → IsSend (as_row (Worker.the_field P D R Q L port door link))
  worker_field D R L door link p d r q l = worker_send D R L door link p d r q l
