-- How the command ends, by what its steps came to
use Rattle.std.proofs.Common.{◌≡◌, ◌⊎◌, ◌∙◌, ℕ, ◌≤◌, true, false, List, length, Option, Result, Ok, Err, inl, inr, refl, sym, ap, subst, arith}
use Rattle.std.specs.Prelude.{IfErr, OnOk}
use Rattle.file_commands.specs.Outcome.{seen}
use Rattle.flv_tags.specs.declared.tag.Tag.{Tag}
use Rattle.loop_command.specs.Course.{CameBack, CameNot, CamePart, IsFirst, has_skipped, rounds_of, text_of}
use Rattle.loop_command.specs.Films.{WasWhole, most_bytes}
use Rattle.loop_command.specs.Looped.{IsLooped}
use Rattle.loop_command.specs.Outcome.{Ends, HasCome, HasPart, HasSkipped}
use Rattle.loop_command.specs.Rounds.{EndsWith, FinishFails, Goes, HasSettled, IsRun, IsUnsettled, PartBy, ReadStops, ReadsWhole, RunsBy, RunsPart}
use Rattle.loop_command.specs.Rounds.{SinkCause, how_of}
use Rattle.loop_command.specs.declared.film.Reading.{Reading}
use Rattle.loop_command.specs.declared.rounds.Run.{Run}
use Rattle.loop_command.specs.declared.stop.Stop.{Stop}
use Rattle.loop_command.specs.declared.stop.Stop.TheVariants.{Refused, Source, Sink, Memory, Unfinished}
use Rattle.loop_command.proofs.Parts.{all_written}
use Rattle.loop_command.proofs.Running.{run_text}

whole : (r : Reading) (left left' held held' : Option (List ℕ)) (n n' f f' : ℕ) → ReadsWhole r left left' n n'
    → WasWhole r.tags.items (seen left held n f) (seen left' held' n' f')
whole r left left' held held' n n' f f' h = record { read = h.read; was_read = h.was_read; whole = h.whole; short = h.short; faults = h.faults }

-- the film is refused, or can't be read
pub film_ends : (stop : Stop) (left left' held : Option (List ℕ)) (n n' f : ℕ) → ReadStops stop left left' n n'
    → Ends (how_of (Err stop)) (seen left held n f) (seen left' held n' f)
film_ends (Refused at) left left' held n n' f h = (
  record { read = h.0.0; was_read = h.0.1; refused = h.0.2; faults = h.1 },
  record { held = refl; faults = refl },
)
film_ends Source left left' held n n' f h = (h, record { held = refl; faults = refl })
film_ends Sink left left' held n n' f h = absurd h
film_ends Memory left left' held n n' f h = (h, refl, inl refl)
film_ends Unfinished left left' held n n' f h = absurd h

-- memory is refused
pub memory_ends : (stop : Stop) (r : Reading) (left left' held held' : Option (List ℕ)) (n n' f f' : ℕ) → stop ≡ Memory → ReadsWhole r left left' n n'
    → f' ≡ f
    → (held' ≡ held)
    ⊎ (HasPart CamePart (seen left held n f) (seen left' held' n' f') ⊎ HasPart CameBack (seen left held n f) (seen left' held' n' f'))
    → Ends (how_of (Err stop)) (seen left held n f) (seen left' held' n' f')
memory_ends stop r left left' held held' n n' f f' e h s d = subst (λ (x : Stop). Ends (how_of (Err x)) (seen left held n f) (seen left' held' n' f'))
    (sym e) (h.faults, s, d)

-- a first part of what had come is written
part_of : (r : Reading) (left left' held held' : Option (List ℕ)) (n n' f f' : ℕ) (first : Run) → ReadsWhole r left left' n n' → IsFirst r.tags.items first
    → RunsPart first (rounds_of r.bytes) held held' → HasPart CamePart (seen left held n f) (seen left' held' n' f')
unfolding whole
part_of r left left' held held' n n' f f' first h fresh p = record {
  tags = r.tags.items;
  film = whole r left left' held held' n n' f f' h;
  text = text_of p.last;
  came = record {
    first = first;
    fresh = fresh;
    states = p.states;
    before = p.before;
    course = p.course;
    within = omega (arith, p.within, h.count);
    last = p.last;
    begun = p.begun;
    text_is = refl;
  };
  part = p.part;
}

not_back : (r : Reading) (left left' held now : Option (List ℕ)) (n n' : ℕ) (first last : Run) (h : ReadsWhole r left left' n n')
    → IsFirst r.tags.items first → IsUnsettled first last (rounds_of r.bytes) held now → CameNot r.tags.items (length h.read) (text_of last)
not_back r left left' held now n n' first last h fresh e = record {
  first = first;
  fresh = fresh;
  states = e.states;
  last = last;
  course = e.course;
  count = e.count ∙ ap rounds_of h.count;
  text_is = refl;
}

-- the run doesn't come to its end
pub run_ends : (stop : Stop) (r : Reading) (left left' held held' : Option (List ℕ)) (n n' f f' : ℕ) (first last : Run) → ReadsWhole r left left' n n'
    → IsFirst r.tags.items first → RunsBy (Err stop) r.tags.items first last (rounds_of r.bytes) held held'
    → PartBy stop first (rounds_of r.bytes) held held' → SinkCause stop f f'
    → Ends (how_of (Err stop)) (seen left held n f) (seen left' held' n' f')
unfolding whole
run_ends (Refused at) r left left' held held' n n' f f' first last h fresh e p s = absurd s
run_ends Source r left left' held held' n n' f f' first last h fresh e p s = absurd s
run_ends Sink r left left' held held' n n' f f' first last h fresh e p s = (part_of r left left' held held' n n' f f' first h fresh p, s)
run_ends Memory r left left' held held' n n' f f' first last h fresh e p s =
    (h.faults, s, inr (inl (part_of r left left' held held' n n' f f' first h fresh p)))
run_ends Unfinished r left left' held held' n n' f f' first last h fresh e p s = inl (record {
  tags = r.tags.items;
  film = whole r left left' held held' n n' f f' h;
  text = text_of last;
  back = not_back r left left' held held' n n' first last h fresh e;
  held = e.written;
  faults = s;
})

-- the film came back
came_back : (r : Reading) (left left' held held' : Option (List ℕ)) (n n' : ℕ) (first last : Run) (h : ReadsWhole r left left' n n')
    → IsFirst r.tags.items first → Goes r.tags.items last held held' (HasSettled first last (rounds_of r.bytes))
    → CameBack r.tags.items (length h.read) (text_of last)
came_back r left left' held held' n n' first last h fresh g =
    let m = g.made in
    record {
      first = first;
      fresh = fresh;
      states = m.states;
      before = m.before;
      course = m.course;
      within = omega (arith, m.within, h.count);
      last = last;
      round = m.round;
      settled = m.settled;
      text_is = refl;
    }

back_ends : (r : Reading) (left left' held held' : Option (List ℕ)) (n n' f f' : ℕ) (first last : Run) → ReadsWhole r left left' n n'
    → IsFirst r.tags.items first → Goes r.tags.items last held held' (HasSettled first last (rounds_of r.bytes)) → f' ≡ f
    → has_skipped last ≡ false → IsLooped r.tags.items (text_of last) → HasCome (seen left held n f) (seen left' held' n' f')
unfolding whole came_back
back_ends r left left' held held' n n' f f' first last h fresh g s none looped = record {
  tags = r.tags.items;
  film = whole r left left' held held' n n' f f' h;
  text = text_of last;
  back = came_back r left left' held held' n n' first last h fresh g;
  unskipped = none;
  looped = looped;
  held = run_text r.tags.items last held held' g.is_run;
  faults = s;
}

-- but the player missed items of it
skip_ends : (r : Reading) (left left' held held' : Option (List ℕ)) (n n' f f' : ℕ) (first last : Run) → ReadsWhole r left left' n n'
    → IsFirst r.tags.items first → Goes r.tags.items last held held' (HasSettled first last (rounds_of r.bytes)) → f' ≡ f
    → has_skipped last ≡ true → HasSkipped (seen left held n f) (seen left' held' n' f')
unfolding whole came_back
skip_ends r left left' held held' n n' f f' first last h fresh g s skipped = record {
  tags = r.tags.items;
  film = whole r left left' held held' n n' f f' h;
  text = text_of last;
  back = came_back r left left' held held' n n' first last h fresh g;
  skipped = skipped;
  held = run_text r.tags.items last held held' g.is_run;
  faults = s;
}

-- all of it is written
back_part : (r : Reading) (left left' held held' : Option (List ℕ)) (n n' f f' : ℕ) (first last : Run) → ReadsWhole r left left' n n'
    → IsFirst r.tags.items first → Goes r.tags.items last held held' (HasSettled first last (rounds_of r.bytes))
    → HasPart CameBack (seen left held n f) (seen left' held' n' f')
unfolding whole
back_part r left left' held held' n n' f f' first last h fresh g = record {
  tags = r.tags.items;
  film = whole r left left' held held' n n' f f' h;
  text = text_of last;
  came = came_back r left left' held held' n n' first last h fresh g;
  part = all_written (text_of last) held held' (run_text r.tags.items last held held' g.is_run);
}

pub finish_ends : (v : Result (Unit {0}) Stop) (r : Reading) (left left' held held' : Option (List ℕ)) (n n' f f' : ℕ) (first last : Run)
    → ReadsWhole r left left' n n' → IsFirst r.tags.items first
    → Goes r.tags.items last held held' (HasSettled first last (rounds_of r.bytes)) → f' ≡ f → OnOk v (IsLooped r.tags.items (text_of last))
    → OnOk v (has_skipped last ≡ false) → IfErr v (λ stop. FinishFails stop last) → Ends (how_of v) (seen left held n f) (seen left' held' n' f')
finish_ends (Ok x) r left left' held held' n n' f f' first last h fresh g s looped none e =
    back_ends r left left' held held' n n' f f' first last h fresh g s none looped
finish_ends (Err stop) r left left' held held' n n' f f' first last h fresh g s looped none (inl e) =
    memory_ends stop r left left' held held' n n' f f' e h s (inr (inr (back_part r left left' held held' n n' f f' first last h fresh g)))
finish_ends (Err stop) r left left' held held' n n' f f' first last h fresh g s looped none (inr e) =
    subst (λ (x : Stop). Ends (how_of (Err x)) (seen left held n f) (seen left' held' n' f')) (sym e.0)
    (inr (skip_ends r left left' held held' n n' f f' first last h fresh g s e.1))

-- ---- a run, by what its rounds came to

pub whole_stops : (stop : Stop) (first last : Run) (rounds : ℕ) (held before now : Option (List ℕ)) (f f' : ℕ)
    → ((file : List Tag) → IsRun file first held before → RunsBy (Err stop) file first last rounds held now)
    → ((file : List Tag) → IsRun file first held before → PartBy stop first rounds held now) → SinkCause stop f f'
    → EndsWith (Err stop) first rounds held before now f f'
whole_stops stop first last rounds held before now f f' goes part s = λ r left left' n n' h e fresh is.
    run_ends stop r left left' held now n n' f f' first last h fresh
    (subst (λ (k : ℕ). RunsBy (Err stop) r.tags.items first last k held now) e (goes r.tags.items is))
    (subst (λ (k : ℕ). PartBy stop first k held now) e (part r.tags.items is)) s

pub whole_ends : (v : Result (Unit {0}) Stop) (first last : Run) (rounds : ℕ) (held before now : Option (List ℕ)) (f f' : ℕ)
    → ((file : List Tag) → IsRun file first held before → Goes file last held now (HasSettled first last rounds)) → f' ≡ f
    → ((file : List Tag) → IsRun file last held now → OnOk v (IsLooped file (text_of last))) → OnOk v (has_skipped last ≡ false)
    → IfErr v (λ stop. FinishFails stop last) → EndsWith v first rounds held before now f f'
whole_ends v first last rounds held before now f f' goes s looped none err = λ r left left' n n' h e fresh is.
    let g = subst (λ (k : ℕ). Goes r.tags.items last held now (HasSettled first last k)) e (goes r.tags.items is) in
    finish_ends v r left left' held now n n' f f' first last h fresh g s (looped r.tags.items g.is_run) none err

pub is_short : (r : Reading) (left left' : Option (List ℕ)) (n n' : ℕ) → ReadsWhole r left left' n n' → r.bytes ≤ most_bytes
is_short r left left' n n' h = omega (arith, h.count, h.short)
