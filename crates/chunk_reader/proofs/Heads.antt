-- What a byte of a header or a run of payload leaves, from what its steps left
use Rattle.std.proofs.Common.{◌≡◌, ℕ, ◌+◌, ◌-◌, ◌<◌, ◌≤◌, inr, List, length, Option, Result, Ok, Err, IfOk, IfErr, arith}
use Rattle.chunk_wire.specs.declared.message.Message.{Message}
use Rattle.chunk_wire.specs.State.{State}
use Rattle.chunk_reader.specs.declared.fields.Core.{Core}
use Rattle.chunk_reader.specs.declared.header.Opening.{Opening}
use Rattle.chunk_reader.specs.declared.fail.ReadCause.{ReadCause}
use Rattle.chunk_reader.specs.declared.fail.ReadCause.TheVariants.{NoHead, TooManyIds, TooLong, TooMuch, BadChunkSize, OutOfMemory, TooFar}
use Rattle.chunk_reader.specs.Reads.{part_limit}
use Rattle.chunk_reader.specs.Core.{the_state}
use Rattle.chunk_reader.specs.Steps.{HeadFails, HeadTaken, IsBadSize, IsFed, IsOpened, IsOpening, IsPassed, PayloadFails, slot_at, slot_message}

pub opens_ok : (old : Core) (r : List ℕ) (o : Opening) (mid : Core) (res : Result (Option Message) ReadCause) (new : Core) → IsOpening old.max (the_state old) r o → IsOpened old.max (the_state old) r mid → mid.held ≤ old.held
    → IfOk res (λ m. IsPassed mid m new) → IfOk res (λ m. HeadTaken old r m new)
opens_ok old r o mid (Ok m) new op is less p = inr (record { whole = op.whole; room = op.room; fits = op.fits; mid = mid; opens = is; less = less; passed = p })
opens_ok old r o mid (Err e) new op is less p = p

bad_head : (max held : ℕ) (s : State) (r : List ℕ) (o : Opening) (mid : Core) (e : ReadCause) → IsOpening max s r o → IsOpened max s r mid → mid.held ≤ held → mid.need ≡ 0 → IsBadSize (slot_message (slot_at mid)) e → HeadFails max held s r e
bad_head max held s r o mid (NoHead id) op is less z b = absurd b
bad_head max held s r o mid TooManyIds op is less z b = absurd b
bad_head max held s r o mid (TooLong n) op is less z b = absurd b
bad_head max held s r o mid TooMuch op is less z b = absurd b
bad_head max held s r o mid (BadChunkSize v) op is less z b = (op.whole, op.room, op.fits, (mid, (is, less, z, b)))
bad_head max held s r o mid OutOfMemory op is less z b = absurd b
bad_head max held s r o mid TooFar op is less z b = absurd b

pub opens_err : (max held : ℕ) (s : State) (r : List ℕ) (o : Opening) (mid : Core) (res : Result (Option Message) ReadCause) → IsOpening max s r o → IsOpened max s r mid → mid.held ≤ held
    → IfErr res (λ e. (mid.need ≡ 0) × IsBadSize (slot_message (slot_at mid)) e) → IfErr res (λ e. HeadFails max held s r e)
opens_err max held s r o mid (Ok m) op is less p = p
opens_err max held s r o mid (Err e) op is less p = bad_head max held s r o mid e op is less p.0 p.1

pub payload_err : (old : Core) (piece : List ℕ) (mid : Core) (e : ReadCause) → IsFed old piece mid → old.held + length piece ≤ part_limit old.max → 0 < length piece
    → (mid.need ≡ 0) × IsBadSize (slot_message (slot_at mid)) e → PayloadFails old piece e (length piece - 1)
payload_err old piece mid (NoHead id) f w some b = absurd b.1
payload_err old piece mid TooManyIds f w some b = absurd b.1
payload_err old piece mid (TooLong n) f w some b = absurd b.1
payload_err old piece mid TooMuch f w some b = absurd b.1
payload_err old piece mid (BadChunkSize v) f w some b = (mid, (f, w, b.0, b.1, omega arith))
payload_err old piece mid OutOfMemory f w some b = absurd b.1
payload_err old piece mid TooFar f w some b = absurd b.1
