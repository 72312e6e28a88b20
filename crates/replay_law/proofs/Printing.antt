-- What is printed of two runs that are alike
use Rattle.std.proofs.Common.{◌≡◌, ℕ, zero, suc, ◌+◌, List, [], ◌∷◌, ◌++◌, length, reverse, Option, refl, ap, ◌∙◌}
use Rattle.std.specs.List.{AllZip}
use Rattle.command_dialog.specs.declared.types.Ask.{Ask}
use Rattle.command_dialog.specs.declared.types.Grant.{Grant}
use Rattle.media_recorder.specs.declared.turn.RecEnd.{RecEnd}
use Rattle.relay_base.specs.declared.limits.Limits.{Limits}
use Rattle.relay_config.specs.Sum.{names_of, total_of}
use Rattle.relay_config.specs.declared.config.OpenRule.{OpenRule}
use Rattle.relay_config.specs.declared.config.PlaceRule.{PlaceRule}
use Rattle.relay_session.specs.declared.end.End.{End}
use Rattle.stream_model.specs.Shape.{shape_held}
use Rattle.stream_model.specs.declared.calls.Shape.{Shape}
use Rattle.stream_registry.specs.Books.{SoleState, journal_at, sole_rules}
use Rattle.stream_registry.specs.Names.{PortRules}
use Rattle.stream_registry.specs.Told.{Step}
use Rattle.turn_law.specs.Twins.{SamePort}
use Rattle.relay_outside.specs.MemLinks.{MemLinkState}
use Rattle.relay_replay.specs.Cast.{CastState, RecState}
use Rattle.relay_replay.specs.Files.{FileState}
use Rattle.relay_replay.specs.Plays.{link_of}
use Rattle.relay_replay.specs.Prints.{Prints, end_text, end_words, held_at, held_line, most_of, open_line, opens_text, recorder_lines, recorders_text}
use Rattle.relay_replay.specs.Prints.{session_lines, sessions_text, stream_line, streams_text, text_of}
use Rattle.relay_replay.specs.Scenes.{SceneState, desk_of}
use Rattle.relay_replay.specs.Stand.{Stand}
use Rattle.relay_replay.specs.declared.guest.Guest.{Guest}
use Rattle.relay_replay.specs.declared.guest.Guest.TheVariants as guest
use Rattle.replay_law.specs.Outputs.{DifferInTotal, HasRoomIf}
use Rattle.replay_law.proofs.Alike.{AreAlike, SameCast, SameGuest, SameRec, SameScene}
use Rattle.replay_law.proofs.Casts.{zip_length}
use Rattle.replay_law.proofs.Lines.{open_alike, open_room}

module _ (desk : Ask → Grant) where
  session_line_same : (n : ℕ) (g h : Guest) → SameGuest desk g h
      → session_lines n (link_of h).sent (end_words h) ≡ session_lines n (link_of g).sent (end_words g)
  session_line_same n (guest.Session c) (guest.Session d) s =
      ap (λ (l : MemLinkState). session_lines n l.sent (end_text d.ended)) s.link ∙ ap (λ (o : Option End). session_lines n c.link.sent (end_text o)) s.ended
  session_line_same n (guest.Session c) (guest.Player d) s = absurd s
  session_line_same n (guest.Session c) (guest.Edge d) s = absurd s
  session_line_same n (guest.Player c) h s = absurd s
  session_line_same n (guest.Edge c) h s = absurd s

  sessions_same : (n : ℕ) (gs hs : List Guest) → AllZip (SameGuest desk) gs hs → sessions_text n hs ≡ sessions_text n gs
  sessions_same n [] [] a = refl
  sessions_same n [] (h ∷ hs) a = absurd a
  sessions_same n (g ∷ gs) [] a = absurd a
  sessions_same n (g ∷ gs) (h ∷ hs) a =
      ap (λ (l : List ℕ). l ++ sessions_text (n + 1) hs) (session_line_same n g h a.0)
      ∙ ap (λ (l : List ℕ). session_lines n (link_of g).sent (end_words g) ++ l) (sessions_same (n + 1) gs hs a.1)

recorders_same : (n : ℕ) (rs qs : List RecState) → AllZip SameRec rs qs → recorders_text n qs ≡ recorders_text n rs
recorders_same n [] [] a = refl
recorders_same n [] (q ∷ qs) a = absurd a
recorders_same n (r ∷ rs) [] a = absurd a
recorders_same n (r ∷ rs) (q ∷ qs) a =
    let line : recorder_lines n q.file.bytes q.ended ≡ recorder_lines n r.file.bytes r.ended =
    ap (λ (f : FileState). recorder_lines n f.bytes q.ended) a.0.file ∙ ap (λ (o : Option RecEnd). recorder_lines n r.file.bytes o) a.0.ended in
    ap (λ (l : List ℕ). l ++ recorders_text (n + 1) qs) line
    ∙ ap (λ (l : List ℕ). recorder_lines n r.file.bytes r.ended ++ l) (recorders_same (n + 1) rs qs a.1)

abbrev limits_at : SoleState → ℕ → Shape
limits_at p n = (sole_rules p.rules).limits n

module _ (p q : SoleState) (s : SamePort p q) where
  held_same : (n : ℕ) → held_at q n ≡ held_at p n
  held_same n =
      ap (λ (r : PortRules). shape_held (r.limits n) (reverse (journal_at q.books n))) s.rules
      ∙ ap (λ (h : List Step). shape_held (limits_at p n) (reverse h)) (s.journals n)

  streams_same : (n : ℕ) → streams_text q n ≡ streams_text p n
  streams_same zero = refl
  streams_same (suc n) =
      ap (λ (l : List ℕ). l ++ stream_line n (held_at q n)) (streams_same n) ∙ ap (λ (k : ℕ). streams_text p n ++ stream_line n k) (held_same n)

  opens_same : (k n : ℕ) → opens_text q k n ≡ opens_text p k n
  opens_same k zero = refl
  opens_same k (suc n) =
      ap (λ (l : List ℕ). l ++ open_line n (held_at q (k + n))) (opens_same k n)
      ∙ ap (λ (m : ℕ). opens_text p k n ++ open_line n m) (held_same (k + n))

abbrev parts : List ℕ → List ℕ → List ℕ → List ℕ → List ℕ
parts sessions recorders streams opens = (sessions ++ recorders) ++ streams ++ opens

-- all lines but the last
abbrev lines_of : List PlaceRule → List OpenRule → CastState → List ℕ
lines_of streams opens c =
    parts (sessions_text 0 c.sessions) (recorders_text 0 c.recorders) (streams_text c.port (length streams))
    (opens_text c.port (length streams) (length opens))

lines_same : (desk : Ask → Grant) (streams : List PlaceRule) (opens : List OpenRule) (c d : CastState) → SameCast desk c d
    → lines_of streams opens d ≡ lines_of streams opens c
lines_same desk streams opens c d h =
    let n : ℕ = length streams in
    let k : ℕ = length opens in
    ap (λ (l : List ℕ). parts l (recorders_text 0 d.recorders) (streams_text d.port n) (opens_text d.port n k))
    (sessions_same desk 0 c.sessions d.sessions h.sessions)
    ∙ (ap (λ (l : List ℕ). parts (sessions_text 0 c.sessions) l (streams_text d.port n) (opens_text d.port n k))
    (recorders_same 0 c.recorders d.recorders h.recorders)
    ∙ (ap (λ (l : List ℕ). parts (sessions_text 0 c.sessions) (recorders_text 0 c.recorders) l (opens_text d.port n k)) (streams_same c.port d.port h.port n)
    ∙ ap (λ (l : List ℕ). parts (sessions_text 0 c.sessions) (recorders_text 0 c.recorders) (streams_text c.port n) l)
    (opens_same c.port d.port h.port n k)))

most_same : (desk : Ask → Grant) (limits : Limits) (streams : List PlaceRule) (opens : List OpenRule) (c d : CastState) → SameCast desk c d
    → most_of limits streams opens d ≡ most_of limits streams opens c
most_same desk limits streams opens c d h =
    ap (λ (i : ℕ). total_of limits (length streams) (names_of opens) i (length d.recorders)) (zip_length (SameGuest desk) c.sessions d.sessions h.sessions)
    ∙ ap (λ (i : ℕ). total_of limits (length streams) (names_of opens) (length c.sessions) i) (zip_length SameRec c.recorders d.recorders h.recorders)

-- all but the total
text_same : (desk : Ask → Grant) (limits : Limits) (streams : List PlaceRule) (opens : List OpenRule) (c d : CastState) (total : ℕ) → SameCast desk c d
    → text_of limits streams opens d total ≡ lines_of streams opens c ++ held_line total (most_of limits streams opens c)
text_same desk limits streams opens c d total h =
    ap (λ (l : List ℕ). l ++ held_line total (most_of limits streams opens d)) (lines_same desk streams opens c d h)
    ∙ ap (λ (i : ℕ). lines_of streams opens c ++ held_line total i) (most_same desk limits streams opens c d h)

-- WHAT TWO RUNS PRINT
pub prints_same : (s s' : SceneState) (text text' : List ℕ) → SameScene s s' → HasRoomIf s.cast → HasRoomIf s'.cast → Prints s text → Prints s' text'
    → DifferInTotal text text'
prints_same s s' text text' h room room' p p' =
    let alike : AreAlike (desk_of s) p.cast p'.cast = open_alike (desk_of s) s s' s.cast s'.cast p.cast p'.cast h.stand h.casts p.opened p'.opened in
    let cast : SameCast (desk_of s) p.cast p'.cast =
    alike.same (open_room s s.cast p.cast p.opened room) (open_room s' s'.cast p'.cast p'.opened room') in
    let total' : ℕ = p'.report.total in
    record {
      before = lines_of s.places s.opens p.cast;
      sum = most_of s.limits s.places s.opens p.cast;
      total = p.report.total;
      total' = total';
      first = p.report.text_is;
      second = p'.report.text_is ∙ (ap (λ (z : Stand). text_of z.limits z.places z.opens p'.cast total') h.stand
          ∙ text_same (desk_of s) s.limits s.places s.opens p.cast p'.cast total' cast);
    }
