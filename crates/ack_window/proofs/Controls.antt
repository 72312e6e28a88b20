-- A control that was written is read.
use Rattle.std.proofs.Common.{ℕ, ◌≡◌, List, ◌++◌, ◌∷◌, [], Some, Ok, arith}
use Rattle.std.proofs.lemmas.Bool.Decides.{nat_tests}
use Rattle.std.proofs.lemmas.List.{append-nil}
use Rattle.std.specs.Int.{bytes_high_first}
use Rattle.relay_base.proofs.ReadBack.{be16_of-bytes, be32_of-bytes}
use Rattle.ack_window.specs.declared.control.Control.{Control}
use Rattle.ack_window.specs.declared.control.Control.TheVariants.{ChunkSize, Abort, Acknowledgement, User, Window, Bandwidth}
use Rattle.ack_window.specs.Controls.{control_in, message_of, with_body, body_of, InRange}

pub read_back_longer : (control : Control) (rest : List ℕ) → InRange control → control_in (with_body control (body_of control ++ rest)) ≡ Ok (Some control)
unfolding control_in
read_back_longer (ChunkSize size) rest fits = let e = be32_of-bytes size rest fits in grind (arith, nat_tests)
read_back_longer (Abort id) rest fits = let e = be32_of-bytes id rest fits in grind (arith, nat_tests)
read_back_longer (Acknowledgement count) rest fits = let e = be32_of-bytes count rest fits in grind (arith, nat_tests)
read_back_longer (User event value) rest fits =
    let e = be16_of-bytes event (bytes_high_first 4 value ++ rest) fits.0 in
    let v = be32_of-bytes value rest fits.1 in
    grind (arith, nat_tests)
read_back_longer (Window size) rest fits = let e = be32_of-bytes size rest fits in grind (arith, nat_tests)
read_back_longer (Bandwidth size limit) rest fits = let e = be32_of-bytes size (limit ∷ rest) fits.0 in grind (arith, nat_tests)

pub read_back : (control : Control) → InRange control → control_in (message_of control) ≡ Ok (Some control)
read_back control fits = rw (append-nil (body_of control)) at (read_back_longer control [] fits)
