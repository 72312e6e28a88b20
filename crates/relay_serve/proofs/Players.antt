-- The worker of HTTP players, and its door
use Rattle.std.proofs.Common.{◌≡◌, ℕ, List, [], Bool, true, false, if◌then◌else◌, Option, None, Some, is_some, refl, sym, ap, subst, ◌∙◌}
use Rattle.std.specs.Prelude.{IfSome}
use Rattle.command_dialog.specs.declared.types.Ask.{Ask}
use Rattle.command_dialog.specs.declared.types.Grant.{Grant}
use Rattle.relay_config.specs.Sum.{http_room, http_workers}
use Rattle.relay_config.specs.declared.config.Config.{Config}
use Rattle.relay_outside.specs.Doors.{DoorTold, with_one}
use Rattle.relay_outside.specs.Houses.{Asked, Shut, asked_door, shut_door}
use Rattle.relay_outside.specs.Told.{LinkCounts, LinkTold}
use Rattle.config_desk.specs.Grants.{granted_from}
use Rattle.http_worker.proofs.Booking.{settled_later}
use Rattle.http_worker.specs.Benches.{WorkerState}
use Rattle.relay_serve.specs.Beside.{RunsIf}
use Rattle.http_worker.specs.Books.{HasBooks, Settled}
use Rattle.http_worker.specs.Running.{HasRun}
use Rattle.http_worker.specs.declared.bench.Terms.{Terms}
use Rattle.stream_model.specs.declared.calls.Shape.{Shape}
use Rattle.stream_registry.specs.Gates.{told, told_at}
use Rattle.stream_registry.specs.Names.{PortRules}
use Rattle.stream_registry.specs.Pasts.{Attempt}
use Rattle.stream_registry.specs.Roots.{Later}
use Rattle.stream_registry.specs.SharedState.{Streams, shared_rules}
use Rattle.stream_registry.specs.Told.{Histories}
use Rattle.stream_registry.specs.declared.place_table.Site.{Site}
use Rattle.turn_gate.specs.Known.{PassKnown}
use Rattle.relay_serve.specs.Http.{AsksForHttp, IsBalancedHttp, IsServingHttp, IsShutHttp, LeftHttp, doors_at, http_doors}
use Rattle.relay_serve.specs.Settling.{TellsMore}
use Rattle.relay_serve.specs.Starts.{HasRules}
use Rattle.relay_serve.proofs.Settling.{goes_on}
use Rattle.relay_serve.proofs.Telling.{none_more, one_more}

-- ---- whether there is one

pub workers_none : (config : Config) → is_some config.http ≡ false → http_workers config ≡ 0
workers_none config e = ap (λ (b : Bool). if b then 1 else 0) e

pub workers_one : (config : Config) → is_some config.http ≡ true → http_workers config ≡ 1
workers_one config e = ap (λ (b : Bool). if b then 1 else 0) e

pub some_weaker : {X : Type 0} (A B : X → Type 0) → ((x : X) → A x → B x) → (o : Option X) → IfSome o A → IfSome o B
some_weaker A B w None i = tt
some_weaker A B w (Some x) i = w x i

-- ---- after it has run, where there is one

module _ {D L : Type 0} (fits : Streams → ℕ → PassKnown Site Attempt → Type 0) (links : L → Option LinkTold) (counts : L → LinkCounts) (doors : D → DoorTold)
    (desk : Ask → Grant) where
  abbrev Ran : Option (WorkerState Streams D (PassKnown Site Attempt) L) → Option (WorkerState Streams D (PassKnown Site Attempt) L) → Type 0
  Ran = RunsIf fits shared_rules (λ (s : Streams). told_at s.roots) (λ (p : PassKnown Site Attempt). told p.seen) links counts doors desk

  pub ran_there : (o o' : Option (WorkerState Streams D (PassKnown Site Attempt) L)) → Ran o o' → is_some o' ≡ is_some o
  ran_there None None r = refl
  ran_there (Some w) (Some w') r = refl
  ran_there None (Some w) r = absurd r
  ran_there (Some w) None r = absurd r

  pub ran_done : (o o' : Option (WorkerState Streams D (PassKnown Site Attempt) L)) → Ran o o' → IfSome o' (HasRun doors)
  ran_done None None r = tt
  ran_done (Some w) (Some w') r = r.run
  ran_done None (Some w) r = absurd r
  ran_done (Some w) None r = absurd r

  pub ran_rules : (rules : PortRules) (o o' : Option (WorkerState Streams D (PassKnown Site Attempt) L)) → Ran o o' → IfSome o (λ w. HasRules rules w.bench.port) → IfSome o' (λ w. HasRules rules w.bench.port)
  ran_rules rules None None r h = tt
  ran_rules rules (Some w) (Some w') r h = r.keeps.port.fixed ∙ h
  ran_rules rules None (Some w) r h = absurd r
  ran_rules rules (Some w) None r h = absurd r

module _ {D L : Type 0} (fits : Streams → ℕ → PassKnown Site Attempt → Type 0) (links : L → Option LinkTold) (counts : L → LinkCounts) (doors : D → DoorTold)
    (config : Config) where
  abbrev BooksOf : WorkerState Streams D (PassKnown Site Attempt) L → (Ask → Grant) → Type 0
  BooksOf w desk = HasBooks shared_rules (λ (s : Streams). told_at s.roots) (λ (p : PassKnown Site Attempt). told p.seen) links counts doors desk w

  pub ran_serving : (desk : Ask → Grant) → desk ≡ granted_from 0 config.places config.opens → (o o' : Option (WorkerState Streams D (PassKnown Site Attempt) L))
      → Ran fits links counts doors desk o o' → IfSome o (IsServingHttp config links counts doors) → IfSome o' (IsServingHttp config links counts doors)
  ran_serving desk e None None r s = tt
  ran_serving desk e (Some w) (Some w') r s = record {
    limited = ap (λ (t : Terms). t.limits) r.keeps.terms ∙ s.limited;
    links_are = ap (λ (t : Terms). t.links) r.keeps.terms ∙ s.links_are;
    books = subst (BooksOf w') e (r.books (subst (BooksOf w) (sym e) s.books));
  }
  ran_serving desk e None (Some w) r s = absurd r
  ran_serving desk e (Some w) None r s = absurd r

-- ---- what is left of it

module _ (config : Config) (streams : ℕ → Shape) (h k : Histories) where
  -- from what the worker tells at its end
  pub balanced_from : (streams' : ℕ → Shape) (t : Terms) (door : DoorTold) (refused worn : Bool)
      → Settled (granted_from 0 config.places config.opens) t streams' h door refused worn → refused ≡ false → streams' ≡ streams → Later h k
      → t.limits ≡ config.limits → t.links ≡ http_room config → IsBalancedHttp config streams k worn door
  balanced_from streams' t door refused worn s r same l m links =
      let desk = granted_from 0 config.places config.opens in
      record {
        terms = t;
        limited = m;
        links_are = links;
        settled = settled_later desk t streams h k door false worn (goes_on h k l)
            (subst (λ (f : ℕ → Shape). Settled desk t f h door false worn) same (subst (λ (b : Bool). Settled desk t streams' h door b worn) r s));
      }

-- what is left, by whether there is an address
pub left_none : (config : Config) (streams : ℕ → Shape) (h : Histories) (worn : Bool) (at : Option (List ℕ)) → is_some at ≡ false → LeftHttp config streams h worn at None
left_none config streams h worn None e = tt
left_none config streams h worn (Some at) e = absurd (let f : true ≡ false = e in cc)

pub left_some : (config : Config) (streams : ℕ → Shape) (h : Histories) (worn : Bool) (at : Option (List ℕ)) (door : DoorTold) → is_some at ≡ true
    → IsBalancedHttp config streams h worn door → LeftHttp config streams h worn at (Some door)
left_some config streams h worn None door e b = absurd (let f : false ≡ true = e in cc)
left_some config streams h worn (Some at) door e b = b

-- where more is said of full histories
pub balanced_worn : (config : Config) (streams : ℕ → Shape) (h : Histories) (worn more : Bool) → (more ≡ false → worn ≡ false) → (door : DoorTold)
    → IsBalancedHttp config streams h worn door → IsBalancedHttp config streams h more door
balanced_worn config streams h worn more less door b =
    let s = b.settled in
    record {
      terms = b.terms;
      limited = b.limited;
      links_are = b.links_are;
      settled = record {
        accounts = s.accounts;
        back_is = s.back_is;
        accounted = s.accounted;
        named = s.named;
        apart = s.apart;
        counted = s.counted;
        few = s.few;
        spared = s.spared;
        unworn = λ m. s.unworn (less m);
      };
    }

pub left_worn : (config : Config) (streams : ℕ → Shape) (h : Histories) (worn more : Bool) → (more ≡ false → worn ≡ false) → (at : Option (List ℕ))
    (door : Option DoorTold) → LeftHttp config streams h worn at door → LeftHttp config streams h more at door
left_worn config streams h worn more less None None b = b
left_worn config streams h worn more less (Some at) (Some door) b = balanced_worn config streams h worn more less door b
left_worn config streams h worn more less None (Some door) b = absurd b
left_worn config streams h worn more less (Some at) None b = absurd b

-- ---- what a house tells of its door

no_doors : (config : Config) → is_some config.http ≡ false → http_doors config ≡ []
no_doors config e = none_of config.http e
  where
    none_of : (o : Option (List ℕ)) → is_some o ≡ false → doors_at o ≡ []
    none_of None e = refl
    none_of (Some at) e = absurd (let f : true ≡ false = e in cc)

-- it was asked for
pub asked_at : (config : Config) (at : List ℕ) (before now : Option (List Asked)) → config.http ≡ Some at
    → now ≡ with_one before (asked_door config.workers at config.accept) → TellsMore (AsksForHttp config) (http_doors config) before now
asked_at config at before now is e =
    subst (λ (l : List (List ℕ)). TellsMore (AsksForHttp config) l before now) (sym (ap doors_at is))
    (one_more (AsksForHttp config) at before now (asked_door config.workers at config.accept) e
    (λ asked f. let g : Some asked ≡ Some (record { worker = config.workers; listen = at; accept = config.accept }) = sym f in cc))

pub asked_none : (config : Config) (before now : Option (List Asked)) → is_some config.http ≡ false → now ≡ before
    → TellsMore (AsksForHttp config) (http_doors config) before now
asked_none config before now is e =
    subst (λ (l : List (List ℕ)). TellsMore (AsksForHttp config) l before now) (sym (no_doors config is))
    (subst (λ (o : Option (List Asked)). TellsMore (AsksForHttp config) [] before o) (sym e) (none_more (AsksForHttp config) before))

-- it was shut
module _ (config : Config) (streams : ℕ → Shape) (h : Histories) (worn : Bool) where
  shut_by : (at : Option (List ℕ)) (door : DoorTold) (before now : Option (List Shut)) → LeftHttp config streams h worn at (Some door)
      → now ≡ with_one before (shut_door config.workers door) → TellsMore (IsShutHttp config streams h worn) (doors_at at) before now
  shut_by None door before now b e = absurd b
  shut_by (Some at) door before now b e =
      one_more (IsShutHttp config streams h worn) at before now (shut_door config.workers door) e (λ s f. record { door = door; told = f; balanced = b })

  none_by : (at : Option (List ℕ)) (before now : Option (List Shut)) → LeftHttp config streams h worn at None → now ≡ before
      → TellsMore (IsShutHttp config streams h worn) (doors_at at) before now
  none_by None before now b e =
      subst (λ (o : Option (List Shut)). TellsMore (IsShutHttp config streams h worn) [] before o) (sym e) (none_more (IsShutHttp config streams h worn) before)
  none_by (Some at) before now b e = absurd b

  pub shut_one : (door : DoorTold) (before now : Option (List Shut)) → LeftHttp config streams h worn config.http (Some door)
      → now ≡ with_one before (shut_door config.workers door) → TellsMore (IsShutHttp config streams h worn) (http_doors config) before now
  shut_one door before now b e = shut_by config.http door before now b e

  pub shut_none : (before now : Option (List Shut)) → LeftHttp config streams h worn config.http None → now ≡ before
      → TellsMore (IsShutHttp config streams h worn) (http_doors config) before now
  shut_none before now b e = none_by config.http before now b e
