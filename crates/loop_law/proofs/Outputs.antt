-- Two commands on one film
use Rattle.std.proofs.Common.{inl, inr, ◌⊎◌, ◌≡◌, ◌≢◌, ◌≤◌, ◌++◌, ℕ, List, [], length, Option, Some, None, refl, sym, ap, ◌∙◌, subst}
use Rattle.std.proofs.Common.{arith, append-nil, append_assoc, length-append}
use Rattle.std.specs.Io.KnownBytes.{IsAtEnd, append_known, prepend_known}
use Rattle.std.specs.Option.{unwrap_or}
use Rattle.relay_base.specs.declared.limits.Status.{Status}
use Rattle.file_commands.specs.Outcome.{Seen}
use Rattle.flv_tags.specs.declared.fail.FlvFail.{FlvFail}
use Rattle.flv_tags.specs.declared.fail.FlvFail.TheVariants as flv
use Rattle.flv_tags.specs.declared.tag.Tag.{Tag}
use Rattle.flv_tags.specs.Reads.{IsFile}
use Rattle.flv_tags.specs.Stops.{Ends as EndsShort}
use Rattle.flv_tags.proofs.Back.{file_unrefused, file_whole}
use Rattle.flv_tags.proofs.Once.{one_reading}
use Rattle.flv_tags.proofs.Reading.{file_stands, in_tags_long}
use Rattle.client_command.specs.Film.{IsRefusedAt}
use Rattle.client_command.proofs.Writing.{append_known_nil}
use Rattle.loop_command.specs.Films.{IsLong, IsRefused, WasWhole, most_bytes}
use Rattle.loop_command.specs.Outcome.{BySink, BySource, ByFilm, ByMemory, ByRounds, Ends, How, Outcome, Whole, status_at, status_of}
use Rattle.loop_law.specs.Ends.{Back, ComesTo, Coming, Not, SameEnd, SameOutput, Skipped, WasDecided}
use Rattle.loop_law.proofs.Courses.{ends_same}

-- ---- a film that is read whole isn't refused

ends_not : (b : List ℕ) (ts us : List Tag) (e : FlvFail) → IsFile b ts → EndsShort b us e → ⊥
ends_not b ts us (flv.BadHeader at) f d = omega (arith, d.0, in_tags_long b ts [] (file_stands b ts f))
ends_not b ts us (flv.BadTag at) f (inl d) = omega (arith, d.1, in_tags_long b ts [] (file_stands b ts f))
ends_not b ts us (flv.BadTag at) f (inr d) = omega (arith, d.2, ap length (file_whole b ts us d.0 f (inr d.1)).1)
ends_not b ts us (flv.BadBack at stored real) f d = absurd d
ends_not b ts us flv.OutOfMemory f d = absurd d

module _ (film : List ℕ) (tags : List Tag) (file : IsFile film tags) (short : length film ≤ most_bytes) (read xs : List ℕ) (all : film ≡ read ++ xs) where
  not_at : (at : ℕ) (us : List Tag) → IsRefusedAt read at us (Some xs) → ⊥
  not_at at us (inl (inl s)) =
      let parts : film ≡ s.front ++ (s.behind ++ xs) = all ∙ (ap (λ (l : List ℕ). l ++ xs) s.parts ∙ append_assoc s.front s.behind xs) in
      file_unrefused s.front (s.behind ++ xs) s.count tags us s.cause (subst (λ (l : List ℕ). IsFile l tags) parts file) s.stops
  not_at at us (inl (inr s)) =
      omega (arith, short, ap length all, length-append read xs, ap length s.parts, length-append s.front s.behind, s.full)
  not_at at us (inr s) =
      let same : film ≡ read = all ∙ (ap (λ (l : List ℕ). read ++ l) s.0 ∙ append-nil read) in
      ends_not read tags us s.1.cause (subst (λ (l : List ℕ). IsFile l tags) same file) s.1.ends

  not_refused : (at : ℕ) → IsRefused read at (Some xs) → ⊥
  not_refused at (inl r) = not_at at r.1 r.2
  not_refused at (inr r) = by_tags r.1 r.2
    where
      by_tags : (us : List Tag) → IsLong read us ⊎ ((place : ℕ) × (most_bytes ≤ place) × IsRefusedAt read place us (Some xs)) → ⊥
      by_tags us (inl l) = omega (arith, short, ap length all, length-append read xs, ap length l.parts, length-append l.front l.behind, l.long)
      by_tags us (inr p) = not_at p.0 us p.2

-- ---- what a command came to

abbrev how_by : Coming → How
how_by Back = Whole
how_by Skipped = ByRounds
how_by Not = ByRounds

-- it ran the film
record Ran (film : List ℕ) (old new : Seen) (status : Status) : Type 0 where
  pub back : Coming
  pub tags : List Tag
  pub text : List ℕ
  pub file : IsFile film tags
  pub short : length film ≤ most_bytes
  pub comes : ComesTo tags (length film) back text
  pub held : new.held ≡ append_known old.held text
  pub status_is : status ≡ status_of (how_by back)

-- or it refused it
record HasRefused (film : List ℕ) (old new : Seen) (status : Status) : Type 0 where
  pub at : ℕ
  pub status_is : status ≡ status_at 4 at
  pub read : List ℕ
  pub rest : List ℕ
  pub all : film ≡ read ++ rest
  pub refused : IsRefused read at (Some rest)
  pub held : new.held ≡ old.held

some_of : (film read : List ℕ) (left : Option (List ℕ)) → Some film ≡ prepend_known read left → (xs : List ℕ) × (left ≡ Some xs) × (film ≡ read ++ xs)
some_of film read None e = (let t : Some film ≡ None = e in absurd (cc))
some_of film read (Some xs) e = (xs, refl, ap (λ (o : Option (List ℕ)). unwrap_or o []) e)

read_all : (film read : List ℕ) (left : Option (List ℕ)) → Some film ≡ prepend_known read left → IsAtEnd left → read ≡ film
read_all film read None e a = (let t : Some film ≡ None = e in absurd (cc))
read_all film read (Some xs) e a =
    let all : film ≡ read ++ xs = ap (λ (o : Option (List ℕ)). unwrap_or o []) e in
    sym (append-nil read) ∙ (ap (λ (l : List ℕ). read ++ l) (sym a) ∙ sym all)

abbrev Comes : List ℕ → Seen → Seen → Status → Type 0
Comes film old new status = Ran film old new status ⊎ HasRefused film old new status

module _ (film : List ℕ) (old new : Seen) (status : Status) (e : old.left ≡ Some film) where
  abbrev Came : Type 0
  Came = Comes film old new status

  ran_so : (back : Coming) (tags : List Tag) (text : List ℕ) (w : WasWhole tags old new) → ComesTo tags (length w.read) back text
      → new.held ≡ append_known old.held text → status ≡ status_of (how_by back) → Came
  ran_so back tags text w c h s =
      let is : w.read ≡ film = read_all film w.read new.left (sym e ∙ w.was_read) w.whole.at_end in
      inl (record {
        back = back;
        tags = tags;
        text = text;
        file = subst (λ (l : List ℕ). IsFile l tags) is w.whole.file;
        short = subst (λ (l : List ℕ). length l ≤ most_bytes) is w.short;
        comes = subst (λ (l : List ℕ). ComesTo tags (length l) back text) is c;
        held = h;
        status_is = s;
      })

  other_code : (n place : ℕ) → status ≡ status_at n place → WasDecided status → n ≢ 0 → n ≢ 4 → n ≢ 9 → ⊥
  other_code n place s (inl z) f g h = f (sym (ap (λ (x : Status). x.code) s) ∙ z)
  other_code n place s (inr (inl z)) f g h = g (sym (ap (λ (x : Status). x.code) s) ∙ z)
  other_code n place s (inr (inr z)) f g h = h (sym (ap (λ (x : Status). x.code) s) ∙ z)

  came_by : (how : How) → status ≡ status_of how → Ends how old new → WasDecided status → Came
  came_by Whole s x d = ran_so Back x.tags x.text x.film (x.back, x.unskipped) x.held s
  came_by ByRounds s (inl x) d = ran_so Not x.tags x.text x.film x.back x.held s
  came_by ByRounds s (inr x) d = ran_so Skipped x.tags x.text x.film (x.back, x.skipped) x.held s
  came_by (ByFilm at) s x d =
      let some = some_of film x.0.read new.left (sym e ∙ x.0.was_read) in
      inr (record {
        at = at;
        status_is = s;
        read = x.0.read;
        rest = some.0;
        all = some.2;
        refused = subst (λ (o : Option (List ℕ)). IsRefused x.0.read at o) some.1 x.0.refused;
        held = x.1.held;
      })
  came_by BySource s x d = absurd (other_code 3 0 s d (λ z. omega (arith, z)) (λ z. omega (arith, z)) (λ z. omega (arith, z)))
  came_by BySink s x d = absurd (other_code 5 0 s d (λ z. omega (arith, z)) (λ z. omega (arith, z)) (λ z. omega (arith, z)))
  came_by ByMemory s x d = absurd (other_code 6 0 s d (λ z. omega (arith, z)) (λ z. omega (arith, z)) (λ z. omega (arith, z)))

  came : Outcome old new status → WasDecided status → Came
  came o d = came_by o.how o.status_is o.ends d

apart : (film : List ℕ) (old new old' new' : Seen) (status status' : Status) → Ran film old new status → HasRefused film old' new' status' → ⊥
apart film old new old' new' status status' a b = not_refused film a.tags a.file a.short b.read b.rest b.all b.at b.refused

abbrev code_of : Status → ℕ
code_of s = s.code

module _ (film : List ℕ) (old new old' new' : Seen) (status status' : Status) where
  ran_both : Ran film old new status → Ran film old' new' status' → SameOutput old new status old' new' status'
  ran_both a b =
      let tags : b.tags ≡ a.tags =
      sym (one_reading film a.tags b.tags [] [] (inr (file_stands film a.tags a.file)) (inr (file_stands film b.tags b.file))).tags_same in
      let same : SameEnd a.back a.text b.back b.text =
      ends_same a.tags (length film) a.short a.back b.back a.text b.text a.comes
      (subst (λ (l : List Tag). ComesTo l (length film) b.back b.text) tags b.comes) in
      let is : status' ≡ status = b.status_is ∙ (ap (λ (x : Coming). status_of (how_by x)) same.back_same ∙ sym a.status_is) in
      record {
        code_same = ap code_of is;
        place_same = λ n. ap (λ (x : Status). x.place) is;
        text = a.text;
        first = a.held;
        second = b.held ∙ ap (λ (l : List ℕ). append_known old'.held l) same.text_same;
      }

  refused_both : HasRefused film old new status → HasRefused film old' new' status' → SameOutput old new status old' new' status'
  refused_both a b = record {
    code_same = ap code_of b.status_is ∙ sym (ap code_of a.status_is);
    place_same = λ n. absurd (n (ap code_of a.status_is));
    text = [];
    first = a.held ∙ sym (append_known_nil old.held);
    second = b.held ∙ sym (append_known_nil old'.held);
  }

  both : Comes film old new status → Comes film old' new' status' → SameOutput old new status old' new' status'
  both (inl a) (inl b) = ran_both a b
  both (inr a) (inr b) = refused_both a b
  both (inl a) (inr b) = absurd (apart film old new old' new' status status' a b)
  both (inr a) (inl b) = absurd (apart film old' new' old new status' status b a)

pub same_output : (film : List ℕ) (old new old' new' : Seen) (status status' : Status) → old.left ≡ Some film → old'.left ≡ Some film → Outcome old new status
    → Outcome old' new' status' → WasDecided status → WasDecided status' → SameOutput old new status old' new' status'
same_output film old new old' new' status status' e e' o o' d d' =
    both film old new old' new' status status' (came film old new status e o d) (came film old' new' status' e' o' d')
