-- What a run comes to: how many units the first stream was given, what each player was sent of it, and what all hold.
use Rattle.std.specs.Prelude.{◌≡◌, ◌≤◌, ℕ, ◌+◌, ◌==◌, ◌&&◌, Bool, true, false, List, [], ◌∷◌, ◌++◌, length, drop, count_by, codes}
use Rattle.std.specs.Fmt.{decimal}
use Rattle.relay_base.specs.declared.limits.Limits.{Limits}
use Rattle.relay_config.specs.declared.config.OpenRule.{OpenRule}
use Rattle.relay_config.specs.declared.config.PlaceRule.{PlaceRule}
use Rattle.stream_model.specs.Counts.{is_pushed, is_skip}
use Rattle.stream_model.specs.declared.replies.Reply.{Reply}
use Rattle.stream_model.specs.declared.replies.Reply.TheVariants.{Sent}
use Rattle.stream_registry.specs.Books.{journal_at}
use Rattle.stream_registry.specs.Told.{Step}
use Rattle.relay_replay.specs.declared.guest.Guest.{Guest}
use Rattle.relay_replay.specs.Plays.{link_of}
use Rattle.relay_replay.specs.Cast.{CastState}
use Rattle.relay_replay.specs.Prints.{IsTotal, held_line, most_of}
use Rattle.relay_replay.specs.Scenes.{SceneState, IsOpen}

abbrev pub is_sent : Reply → Bool
is_sent (Sent from n item) = true
is_sent _ = false

-- how many of these calls were answered Pushed
abbrev pub pushes : List Step → ℕ
pushes calls = count_by (λ s. is_pushed s.1) calls

-- how many of that caller's were sent an item
abbrev pub items_to : ℕ → List Step → ℕ
items_to who calls = count_by (λ s. (s.0.who == who) && is_sent s.1) calls

-- and how many went on past what the window had passed
abbrev pub skips_to : ℕ → List Step → ℕ
skips_to who calls = count_by (λ s. (s.0.who == who) && is_skip s.1) calls

abbrev pub pushed_line : List Step → List ℕ
pushed_line calls = codes "pushed " ++ decimal (pushes calls) ++ codes "\n"

-- of the session with that number, to which these bytes were sent
abbrev pub player_line : ℕ → List Step → List ℕ → List ℕ
player_line n calls sent =
    codes "player " ++ decimal n ++ codes " items " ++ decimal (items_to n calls) ++ codes " skips " ++ decimal (skips_to n calls)
    ++ codes " bytes " ++ decimal (length sent) ++ codes "\n"

-- of the sessions from number n on
abbrev pub players_text : ℕ → List Step → List Guest → List ℕ
players_text n calls [] = []
players_text n calls (g ∷ gs) = player_line n calls (link_of g).sent ++ players_text (n + 1) calls gs

-- of all sessions but the first, with that total
abbrev pub summary_of : Limits → List PlaceRule → List OpenRule → CastState → ℕ → List ℕ
summary_of limits streams opens c total =
    (pushed_line (journal_at c.port.books 0) ++ players_text 1 (journal_at c.port.books 0) (drop 1 c.sessions))
    ++ held_line total (most_of limits streams opens c)

-- TOTAL IS AT MOST SUM
pub record IsSummary (limits : Limits) (streams : List PlaceRule) (opens : List OpenRule) (c : CastState) (text : List ℕ) : Type 0 where
  pub total : ℕ
  pub sum : IsTotal (length streams) (length opens) c total
  pub within : total ≤ most_of limits streams opens c
  pub text_is : text ≡ summary_of limits streams opens c total

-- WHAT A RUN COMES TO: of the state that the lines led to, or of an empty one where none has acted
pub record Sums (s : SceneState) (text : List ℕ) : Type 0 where
  pub cast : CastState
  pub opened : IsOpen s.cast s cast
  pub summary : IsSummary s.limits s.places s.opens cast text
