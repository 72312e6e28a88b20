-- Sums of numbers that are each within a bound
use Rattle.std.proofs.Common.{◌≡◌, ℕ, ◌+◌, ◌*◌, ◌≤◌, List, [], ◌∷◌, length, sum, sum_by, All, mul_assoc, ap, sym, subst, ◌∙◌, arith, Option, Some, None}
use Rattle.std.specs.Option.{unwrap_or}
use Rattle.std.proofs.lemmas.List.Sums.{sum_by-cons, sum_by-le}
use Rattle.std.proofs.Math.Nat.{add-mul}
use Rattle.std.proofs.lemmas.Nat.{mul-le}
use Rattle.http_flv.specs.PlayerState.{most_held as most_played}
use Rattle.relay_config.specs.Sum.{configured_sum, http_room, http_workers, name_bytes, names_of, player_bytes, players_of, recorder_bytes, recorders_of}
use Rattle.relay_config.specs.Sum.{session_bytes, sessions_by, sessions_of, stream_bytes}
use Rattle.relay_base.specs.declared.limits.Limits.{Limits}
use Rattle.relay_config.specs.declared.config.Config.{Config}
use Rattle.relay_config.specs.declared.config.OpenRule.{OpenRule}
use Rattle.media_recorder.specs.Mediums.{most_held as most_recorded}
use Rattle.relay_session.specs.Holding.{most_held}
use Rattle.held_law.specs.Holders.{AreTables, AreWithin, most_streamed}

-- so many numbers, none above the bound
within : {X : Type 0} (f : X → ℕ) (most count : ℕ) (xs : List X) → length xs ≤ count → All (λ x. f x ≤ most) xs → sum_by f xs ≤ count * most
within f most count xs few each = omega (arith, sum_by-le f most xs each, mul-le (length xs) most count most few (omega arith))

tables_are : (limits : Limits) (opens : List OpenRule) (tables : List ℕ) → AreTables limits.ring_bytes opens tables → sum_by (λ k. k) tables ≤ names_of opens * name_bytes limits
tables_are limits opens [] a = omega arith
tables_are limits [] (n ∷ tables) a = absurd a
tables_are limits (o ∷ opens) (n ∷ tables) a =
    let one = a.0 in
    omega (arith, one, sum_by-cons (λ (k : ℕ). k) n tables, tables_are limits opens tables a.1, add-mul o.names (names_of opens) (name_bytes limits))

-- the links of some workers and of some more
links_are : (workers more links bytes : ℕ) → workers * (links * bytes) + more * links * bytes ≡ (workers + more) * links * bytes
links_are workers more links bytes =
    ap (λ (n : ℕ). n + more * links * bytes) (sym (mul_assoc workers links bytes))
    ∙ (sym (add-mul (workers * links) (more * links) bytes) ∙ ap (λ (n : ℕ). n * bytes) (sym (add-mul workers more links)))

-- what the links of workers and those of HTTP players hold, however the latter are reckoned
links_within : (own : Option ℕ) (workers http links session player c d : ℕ) → c ≤ workers * (links * session)
    → d ≤ http * unwrap_or own links * player → player ≤ session
    → c + d ≤ sessions_by workers http links own * session + http * unwrap_or own 0 * player
links_within None workers http links session player c d few most less =
    subst (λ (n : ℕ). c + d ≤ n + http * 0 * player) (links_are workers http links session)
    (omega (arith, few, most, mul-le (http * links) player (http * links) session (omega arith) less))
links_within (Some own) workers http links session player c d few most less =
    subst (λ (n : ℕ). c + d ≤ n + http * own * player) (sym (mul_assoc workers links session)) (omega (arith, few, most))

-- five sums, each within its own bound, but two together
together : (a b c d e ma mb mc md me : ℕ) → a ≤ ma → b ≤ mb → c + d ≤ mc + md → e ≤ me → a + b + c + d + e ≤ ma + mb + mc + me + md
together a b c d e ma mb mc md me p q r s = omega (arith, p, q, r, s)

module _ (config : Config) (streams tables : List ℕ) (workers : List (List ℕ)) (players recorders : List ℕ)
    (h : AreWithin config streams tables workers players recorders) where
  abbrev m : ℕ
  m = config.limits.max_message

  streams_are : sum_by (λ n. n) streams ≤ length config.places * most_streamed config.limits.ring_bytes
  streams_are = within (λ n. n) (most_streamed config.limits.ring_bytes) (length config.places) streams h.few_streams h.each_stream

  session_is : most_held m m ≤ session_bytes config.limits
  session_is = omega arith

  sessions_are : sum_by sum workers ≤ config.workers * (config.links * session_bytes config.limits)
  sessions_are = within sum (config.links * session_bytes config.limits) config.workers workers h.few_workers
      (λ k d lt. omega (
        arith,
        within (λ n. n) (most_held m m) config.links _ (h.few_sessions k d lt) (h.each_session k d lt),
        mul-le config.links (most_held m m) config.links (session_bytes config.limits) (omega arith) session_is,
      ))

  player_is : player_bytes config.limits ≤ session_bytes config.limits
  player_is = omega arith

  players_are : sum_by (λ n. n) players ≤ http_workers config * http_room config * player_bytes config.limits
  players_are = within (λ n. n) (most_played m) (http_workers config * http_room config) players h.few_players h.each_player

  links_all : sum_by sum workers + sum players ≤ sessions_of config * session_bytes config.limits + players_of config * player_bytes config.limits
  links_all =
      links_within config.http_links config.workers (http_workers config) config.links (session_bytes config.limits) (player_bytes config.limits) _ _
      sessions_are players_are player_is

  recorders_are : sum_by (λ n. n) recorders ≤ recorders_of config.places * most_recorded m
  recorders_are = within (λ n. n) (most_recorded m) (recorders_of config.places) recorders h.few_recorders h.each_recorder

  pub all_are : sum streams + sum tables + sum_by sum workers + sum players + sum recorders ≤ configured_sum config
  all_are =
      together (sum streams) (sum tables) (sum_by sum workers) (sum players) (sum recorders) _ _ _ _ _ streams_are
      (tables_are config.limits config.opens tables h.each_table) links_all recorders_are
