-- One turn more
use Rattle.std.proofs.Common.{◌≡◌, ◌+◌, ℕ, List, suc, subst, arith}
use Rattle.command_dialog.specs.declared.types.Ask.{Ask}
use Rattle.command_dialog.specs.declared.types.Grant.{Grant}
use Rattle.relay_outside.specs.Heard.{Came}
use Rattle.relay_outside.specs.declared.link.Said.{Said}
use Rattle.stream_model.specs.declared.calls.Entry.{Entry}
use Rattle.relay_session.specs.SeatState.{SeatState}
use Rattle.relay_session.specs.declared.seat_answers.Made.{Made}
use Rattle.server_tests.specs.Often.{Goes, OneMore, Turning}

module _ {P Q L : Type 0} (asks : P → SeatState Q → ℕ → Entry → Made → P → SeatState Q → Type 0) (desk : Ask → Grant) (hears : L → ℕ → Came → L → Type 0) (says : L → List ℕ → Said → L → Type 0) where
  pub goes_more : (k : ℕ) (v : Turning P Q L) (i : ℕ) (m : Turning P Q L) (n : ℕ) (w : Turning P Q L) → Goes asks desk hears says k v i m → OneMore asks desk hears says m i n w → Goes asks desk hears says (k + 1) v n w
  goes_more k v i m n w g o =
      let same : suc k ≡ k + 1 = omega arith in
      subst (λ (j : ℕ). Goes asks desk hears says j v n w) same (i, (m, (g, o)))
