-- A unit in hand is no longer than a message that the session takes
use Rattle.std.proofs.Common.{◌≡◌, ◌≤◌, ℕ, Option, ◌∙◌, sym, arith}
use Rattle.session_owed.specs.Chunks.{Hand}
use Rattle.relay_session.specs.Holding.{UnitFits, unit_bytes}

-- no longer one is in hand
pub fits_kept : (h h' : Option Hand) (longest longest' max max' : ℕ) → unit_bytes h' ≤ unit_bytes h → longest' ≡ longest → max' ≡ max → UnitFits h longest max → UnitFits h' longest' max'
fits_kept h h' longest longest' max max' le same most f = record {
  unit = omega (arith, le, same, f.unit);
  same = same ∙ f.same ∙ sym most;
}
