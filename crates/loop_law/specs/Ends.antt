-- WHAT A RUN OF A FILM COMES TO
use Rattle.std.specs.Prelude.{◌≡◌, ◌≢◌, ◌⊎◌, ℕ, Bool, true, false, List}
use Rattle.std.specs.Io.KnownBytes.{append_known}
use Rattle.relay_base.specs.declared.limits.Status.{Status}
use Rattle.file_commands.specs.Outcome.{Seen}
use Rattle.flv_tags.specs.declared.tag.Tag.{Tag}
use Rattle.loop_command.specs.Course.{CameBack, CameNot, has_skipped}

-- the film has come back within its rounds, it has but the player missed items of it, or it hasn't
pub data Coming : Type 0 where
  Back : Coming
  Skipped : Coming
  Not : Coming

-- it has come back, and whether the player missed items is known
abbrev pub BackSo : Bool → List Tag → ℕ → List ℕ → Type 0
BackSo skipped tags bytes text = (b : CameBack tags bytes text) × (has_skipped b.last ≡ skipped)

-- a run of the film of these tags, which has so many bytes: whether it has come back, and the text that came
abbrev pub ComesTo : List Tag → ℕ → Coming → List ℕ → Type 0
ComesTo tags bytes Back text = BackSo false tags bytes text
ComesTo tags bytes Skipped text = BackSo true tags bytes text
ComesTo tags bytes Not text = CameNot tags bytes text

-- TWO RUNS CAME TO THE SAME
pub record SameEnd (back : Coming) (text : List ℕ) (back' : Coming) (text' : List ℕ) : Type 0 where
  pub back_same : back' ≡ back
  pub text_same : text' ≡ text

-- by its code neither want of memory nor its source or sink ended it: the film has come back, it is refused,
-- or it hasn't come back
abbrev pub WasDecided : Status → Type 0
WasDecided s = (s.code ≡ 0) ⊎ ((s.code ≡ 4) ⊎ (s.code ≡ 9))

-- TWO COMMANDS ENDED WITH THE SAME CODE, and wrote the same text; at the same place, unless the film is refused
pub record SameOutput (old new : Seen) (status : Status) (old' new' : Seen) (status' : Status) : Type 0 where
  pub code_same : status'.code ≡ status.code
  pub place_same : status.code ≢ 4 → status'.place ≡ status.place
  pub text : List ℕ
  pub first : new.held ≡ append_known old.held text
  pub second : new'.held ≡ append_known old'.held text
