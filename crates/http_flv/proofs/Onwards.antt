-- A turn leaves all that stands at the port
use Rattle.std.proofs.Common.{ℕ, List, refl, ◌∙◌, arith, Option}
use Rattle.relay_outside.specs.Heard.{Came}
use Rattle.relay_outside.specs.declared.link.Said.{Said}
use Rattle.command_dialog.specs.declared.types.Ask.{Ask}
use Rattle.command_dialog.specs.declared.types.Grant.{Grant}
use Rattle.stream_model.specs.declared.calls.Entry.{Entry}
use Rattle.stream_registry.specs.Names.{PortRules}
use Rattle.stream_registry.specs.Told.{Step, Histories}
use Rattle.relay_session.specs.Onward.{GoesOn}
use Rattle.relay_session.specs.Places.{Asked}
use Rattle.relay_session.specs.SeatState.{SeatState, known}
use Rattle.relay_session.specs.declared.seat_answers.Made.{Made}
use Rattle.relay_session.proofs.SeatStanding.{go_on_same, go_on_trans}
use Rattle.http_flv.specs.Turns.{KeptOn, Life}
use Rattle.http_flv.specs.declared.turn.HttpTurn.{HttpTurn}
use Rattle.http_flv.proofs.Moving.{moves_kept}

module _ {P Q : Type 0} (fits : P → ℕ → Q → Type 0) (rules : P → PortRules) (root : P → Histories) (seen : Q → List Step) (count : Q → ℕ)
    (wants : Entry → Type 0) (busies : P → ℕ) (Asks : P → SeatState Q → ℕ → Entry → Made → P → SeatState Q → Type 0)
    (tells : (p : P) (s : SeatState Q) (place : ℕ) (e : Entry) (r : Made) (q : P) (t : SeatState Q)
    → Asks p s place e r q t → Asked fits rules root seen count wants busies p s place e r q t) where
  abbrev On : P → SeatState Q → P → SeatState Q → Type 0
  On = GoesOn fits rules root seen busies

  on_stays : (x : P) (s : SeatState Q) → On x s x s
  on_stays x s = record {
    knows = go_on_same (known root seen x s) (known root seen x s) (λ q. refl);
    stands = λ h. h;
    roots = go_on_same (root x) (root x) (λ q. refl);
    fixed = refl;
    later = omega arith;
    passes = λ q p f. f;
  }

  on_chain : (x : P) (s : SeatState Q) (y : P) (t : SeatState Q) (z : P) (u : SeatState Q) → On x s y t → On y t z u → On x s z u
  on_chain x s y t z u a b = record {
    knows = go_on_trans (known root seen x s) (known root seen y t) (known root seen z u) a.knows b.knows;
    stands = λ h. b.stands (a.stands h);
    roots = go_on_trans (root x) (root y) (root z) a.roots b.roots;
    fixed = b.fixed ∙ a.fixed;
    later = omega (arith, a.later, b.later);
    passes = λ q p f. b.passes q p (a.passes q p f);
  }

  on_asked : (x : P) (s : SeatState Q) (place : ℕ) (e : Entry) (r : Made) (y : P) (t : SeatState Q) → Asks x s place e r y t → On x s y t
  on_asked x s place e r y t a =
      let k = tells x s place e r y t a in
      record { knows = k.knows; stands = k.stands; roots = k.roots; fixed = k.fixed; later = k.later; passes = k.passes }

  pub on_kept : (desk : Ask → Grant) {L : Type 0} (hears : L → ℕ → Came → L → Type 0) (says : L → List ℕ → Said → L → Type 0) (o : Option Entry)
      (v : Life P (SeatState Q)) (l : L) (a : HttpTurn) (w : Life P (SeatState Q)) (m : L) → KeptOn Asks desk hears says o v l a w m
      → On v.port v.seat w.port w.seat
  on_kept desk hears says o v l a w m t = moves_kept On on_stays on_chain Asks on_asked desk hears says o v l a w m t
