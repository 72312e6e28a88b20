-- Doors that are shut, and what is left of workers
use Rattle.std.proofs.Common.{◌≡◌, ◌+◌, ℕ, List, [], ◌∷◌, ◌++◌, Bool, true, false, not, ◌||◌, ◌&&◌, Option, Some, refl, sym, ap, subst, ◌∙◌, arith}
use Rattle.std.specs.List.{flat_map, range_with_len}
use Rattle.std.proofs.lemmas.List.{append-nil, map-id}
use Rattle.std.proofs.lemmas.List.Concat.{flat_map-append}
use Rattle.std.proofs.lemmas.List.FromFn.{map-range_with_len_more}
use Rattle.relay_config.specs.declared.config.Config.{Config}
use Rattle.relay_outside.specs.Doors.{DoorTold}
use Rattle.relay_outside.specs.Houses.{Asked, Shut, asked_door, shut_door}
use Rattle.config_desk.specs.Grants.{granted_from}
use Rattle.relay_session.specs.SeatState.{GoOn}
use Rattle.relay_worker.proofs.Booking.{settled_later}
use Rattle.relay_worker.specs.Books.{Settled}
use Rattle.relay_worker.specs.Running.{Label}
use Rattle.relay_worker.specs.declared.bench.Terms.{Terms}
use Rattle.relay_worker.specs.declared.recorder.Recorder.{Recorder}
use Rattle.stream_model.specs.declared.calls.Shape.{Shape}
use Rattle.stream_registry.specs.Names.{PortRules}
use Rattle.stream_registry.specs.Pasts.{Attempt}
use Rattle.stream_registry.specs.Roots.{Later}
use Rattle.stream_registry.specs.SharedState.{Streams}
use Rattle.stream_registry.specs.Told.{Histories}
use Rattle.stream_registry.specs.declared.place_table.Site.{Site}
use Rattle.turn_gate.specs.Known.{PassKnown}
use Rattle.relay_serve.specs.Recordings.{recordings_of, recordings_upto}
use Rattle.relay_serve.specs.Settling.{AsksFor, IsBalanced, IsLeft, IsShut, asked_of}

pub goes_on : (h k : Histories) → Later h k → GoOn h k
goes_on h k l = record { at_each = l.at }

module _ (config : Config) (streams : ℕ → Shape) (h k : Histories) where
  -- in histories that went on
  pub balanced_later : Later h k → (worn : Bool) (worker : ℕ) (door : DoorTold) → IsBalanced config streams h worn worker door → IsBalanced config streams k worn worker door
  balanced_later l worn worker door b = record {
    terms = b.terms;
    number = b.number;
    limited = b.limited;
    links_are = b.links_are;
    settled = settled_later (granted_from 0 config.places config.opens) b.terms streams h k door false worn (goes_on h k l) b.settled;
  }

  -- from what a worker tells at its end
  pub balanced_from : (streams' : ℕ → Shape) (t : Terms) (worker : ℕ) (door : DoorTold) (refused worn : Bool)
      → Settled (granted_from 0 config.places config.opens) t streams' h door refused worn → refused ≡ false → streams' ≡ streams → Later h k → t.number ≡ worker
      → t.limits ≡ config.limits → t.links ≡ config.links → IsBalanced config streams k worn worker door
  balanced_from streams' t worker door refused worn s r same l n m links =
      let desk = granted_from 0 config.places config.opens in
      record {
        terms = t;
        number = n;
        limited = m;
        links_are = links;
        settled = settled_later desk t streams h k door false worn (goes_on h k l)
            (subst (λ (f : ℕ → Shape). Settled desk t f h door false worn) same (subst (λ (b : Bool). Settled desk t streams' h door b worn) r s));
      }

-- where more is said of full histories
pub balanced_worn : (config : Config) (streams : ℕ → Shape) (h : Histories) (worn more : Bool) → (more ≡ false → worn ≡ false) → (worker : ℕ) (door : DoorTold) → IsBalanced config streams h worn worker door → IsBalanced config streams h more worker door
balanced_worn config streams h worn more less worker door b =
    let s = b.settled in
    record {
      terms = b.terms;
      number = b.number;
      limited = b.limited;
      links_are = b.links_are;
      settled = record {
        accounts = s.accounts;
        back_is = s.back_is;
        telling = s.telling;
        accounted = s.accounted;
        named = s.named;
        apart = s.apart;
        counted = s.counted;
        few = s.few;
        spared = s.spared;
        unworn = λ m. s.unworn (less m);
      };
    }

pub balanced_as : (config : Config) (q q' : PortRules) (h : Histories) (worn : Bool) (n m : ℕ) (door : DoorTold) → q ≡ q' → m ≡ n → IsBalanced config q.limits h worn m door
    → IsBalanced config q'.limits h worn n door
balanced_as config q q' h worn n m door e f b =
    subst (λ (r : PortRules). IsBalanced config r.limits h worn n door) e (subst (λ (i : ℕ). IsBalanced config q.limits h worn i door) f b)

-- what a house tells of such a door
pub shut_is : (config : Config) (streams : ℕ → Shape) (h : Histories) (worn : Bool) (worker number : ℕ) (door : DoorTold) → number ≡ worker
    → IsBalanced config streams h worn number door → (s : Shut) → shut_door number door ≡ Some s → IsShut config streams h worn worker s
shut_is config streams h worn worker number door e b s t = record {
  door = door;
  told = subst (λ (n : ℕ). shut_door n door ≡ Some s) e t;
  balanced = subst (λ (n : ℕ). IsBalanced config streams h worn n door) e b;
}

pub left_as : (config : Config) {K : Type 0} (holds : K → Option (List ℕ)) (faults : K → ℕ) (q q' : PortRules) (n m : ℕ) (door : DoorTold)
    (recorders : List (Recorder Streams K (PassKnown Site Attempt))) → q ≡ q' → m ≡ n → IsLeft config holds faults q m door recorders → IsLeft config holds faults q' n door recorders
left_as config holds faults q q' n m door recorders e f l =
    subst (λ (r : PortRules). IsLeft config holds faults r n door recorders) e (subst (λ (i : ℕ). IsLeft config holds faults q i door recorders) f l)

-- one number more
pub range_more : (n : ℕ) → range_with_len 0 n ++ n ∷ [] ≡ range_with_len 0 (n + 1)
range_more n =
    let m = map-range_with_len_more (λ (i : ℕ). i) 0 n n (omega arith) in
    sym (sym (map-id (range_with_len 0 (n + 1))) ∙ (m ∙ ap (λ (l : List ℕ). l ++ n ∷ []) (map-id (range_with_len 0 n))))

-- the recordings of one worker more
pub recordings_more : (config : Config) (n : ℕ) → recordings_upto config n ++ recordings_of config n ≡ recordings_upto config (n + 1)
recordings_more config n =
    sym (ap (flat_map (recordings_of config)) (sym (range_more n)) ∙ (flat_map-append (recordings_of config) (range_with_len 0 n) (n ∷ [])
    ∙ ap (λ (l : List Label). recordings_upto config n ++ l) (append-nil (recordings_of config n))))

pub or_false : (a b : Bool) → (a || b) ≡ false → (a ≡ false) × (b ≡ false)
or_false false b e = (refl, e)
or_false true b e = absurd (let f : true ≡ false = e in cc)

pub or_false_first : (a b : Bool) → (a || b) ≡ false → a ≡ false
or_false_first a b e = (or_false a b e).0

pub or_false_last : (a b : Bool) → (a || b) ≡ false → b ≡ false
or_false_last a b e = (or_false a b e).1

-- one of two, where the first isn't
pub told_or : (told worn : Bool) → (told || not worn) ≡ true → worn ≡ true → told ≡ true
told_or true worn e w = refl
told_or false true e w = e
told_or false false e w = absurd (let f : false ≡ true = w in cc)

pub and_true : (a b : Bool) → (a && b) ≡ true → (a ≡ true) × (b ≡ true)
and_true true b e = (refl, e)
and_true false b e = absurd (let f : false ≡ true = e in cc)

pub not_true : (b : Bool) → not b ≡ true → b ≡ false
not_true false e = refl
not_true true e = absurd (let f : false ≡ true = e in cc)

-- a door that was asked for so
pub asks_for : (config : Config) (n worker : ℕ) → worker ≡ n → (asked : Asked) → asked_door worker config.listen config.accept ≡ Some asked → AsksFor config n asked
asks_for config n worker e asked f =
    let same : asked ≡ asked_of config worker = let h : Some asked ≡ Some (asked_of config worker) = sym f in cc in
    same ∙ ap (asked_of config) e
