-- A new edge belongs to a port that has its place
use Rattle.std.proofs.Common.{◌≡◌, ◌<◌, ℕ, [], None, refl, sym, ap, subst}
use Rattle.relay_session.specs.SeatState.{SeatState}
use Rattle.relay_session.specs.declared.seat_answers.Active.TheVariants as active
use Rattle.origin_pull.specs.Keeping.{IsAt, granted_by}
use Rattle.origin_pull.specs.declared.core_fields.Core.{Core}

pub new_at : {Q : Type 0} (fits : ℕ → Q → Type 0) (count : ℕ) (c : Core) (s : SeatState Q)
    → s ≡ record { spot = None; active = active.Nothing; visits = [] } → c.calls ≡ [] → c.place < count
    → IsAt fits count c s
new_at {Q} fits count c s seat calls there = subst (λ (x : SeatState Q). IsAt fits count c x) (sym seat) (record {
  fit = tt;
  there = there;
  here = refl;
  calls = calls;
  places = tt;
  granted = sym (ap (granted_by active.Nothing) calls);
})
