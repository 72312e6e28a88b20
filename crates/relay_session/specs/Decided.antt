-- Why a session ended at a byte, by where it stood before that byte
use Rattle.std.specs.Prelude.{◌≡◌, ℕ, List}
use Rattle.chunk_wire.specs.declared.message.Message.{Message}
use Rattle.command_dialog.specs.declared.types.Ask.{Ask}
use Rattle.command_dialog.specs.declared.types.Grant.{Grant}
use Rattle.session_owed.specs.Talk.{Own, talk}
use Rattle.relay_session.specs.Feeding.{Decides, Heard}
use Rattle.relay_session.specs.Session.{session}
use Rattle.relay_session.specs.declared.end.End.{End}

-- a session of this name and window had read these messages, and its dialogue stood where they and its calls
-- had left it, as the byte behind n others of the input y DECIDED
pub record IsDecided (who window : ℕ) (desk : Ask → Grant) (ms : List (ℕ × Message)) (calls : List Own) (max : ℕ) (y : List ℕ) (n : ℕ) (e : End) : Type 0 where
  pub heard : Heard
  pub given : heard.given ≡ ms
  pub state : heard.state ≡ (talk (session who window desk) calls ms).state
  pub decides : Decides max heard y n e
