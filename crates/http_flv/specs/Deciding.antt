-- What is decided, as the code has it
use Rattle.std.specs.Prelude.{◌≡◌, ℕ, List}
use Rattle.command_dialog.specs.declared.types.Ask.{Ask}
use Rattle.command_dialog.specs.declared.types.Grant.{Grant}
use Rattle.http_request.specs.Heads.{IsRead, Verdict}
use Rattle.http_flv.specs.Out as out
use Rattle.http_flv.specs.declared.decision.Decision.{Decision}
use Rattle.http_flv.specs.declared.decision.Decision.TheVariants as decision

abbrev pub decided : Decision → out.Decision
decided decision.Later = out.Later
decided (decision.Tell r) = out.Tell r
decided (decision.Join place name) = out.JoinAt place name

-- it is what a verdict on the bytes makes before this desk
pub record IsDecided (desk : Ask → Grant) (x : List ℕ) (d : out.Decision) : Type 0 where
  pub verdict : Verdict
  pub read : IsRead x verdict
  pub is_it : d ≡ out.decide desk verdict
