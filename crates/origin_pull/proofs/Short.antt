-- A tag that a client is told of is no longer than its longest message
use Rattle.std.proofs.Common.{◌≡◌, ◌≤◌, ℕ, Bool, true, false, if◌then◌else◌, ◌==◌, ◌&&◌, List, [], ◌∷◌, ◌++◌, length, drop, Option, Some, None, Result, Ok, Err}
use Rattle.std.proofs.Common.{sym, ap, ◌∙◌, subst, arith}
use Rattle.std.specs.Prelude.{codes}
use Rattle.rtmp_command.specs.declared.command.CommandFail.{CommandFail}
use Rattle.chunk_wire.specs.declared.message.Message.{Message}
use Rattle.chunk_wire.specs.State.{State}
use Rattle.chunk_reader.specs.Laws.{AreShort}
use Rattle.chunk_reader.specs.Reads.{Reads}
use Rattle.chunk_reader.specs.Sound.{IsRead}
use Rattle.flv_tags.specs.Layout.{is_kind}
use Rattle.session_owed.specs.Talk.{hand_bytes}
use Rattle.client_owed.specs.Client.{does}
use Rattle.client_owed.specs.News.{is_text, news_in}
use Rattle.client_owed.specs.Pulled.{gift_for, gift_in, pulled, pulled_from, tag_of, tag_on, told_in}
use Rattle.client_owed.specs.Standing.{listed}
use Rattle.client_owed.specs.declared.types.Asked.{Asked}
use Rattle.client_owed.specs.declared.types.Gift.{Gift}
use Rattle.client_owed.specs.declared.types.Gift.TheVariants as gift
use Rattle.client_owed.specs.declared.types.News.{News}
use Rattle.client_owed.specs.declared.types.News.TheVariants.{Done, Refused, Status, Other}
use Rattle.client_owed.specs.declared.types.Phase.{Phase}
use Rattle.client_owed.specs.declared.types.Phase.TheVariants.{Connecting, Creating, Asking, Started}
use Rattle.client_owed.specs.declared.types.Wish.{Wish}
use Rattle.client_owed.specs.declared.types.Wish.TheVariants as wish
use Rattle.rtmp_client.specs.Bounds.{gift_bytes}
use Rattle.rtmp_client.specs.ClientState.{ClientState, StandsBy, StandsFor}
use Rattle.rtmp_client.specs.declared.core_fields.Core.{Core}
use Rattle.rtmp_client.specs.declared.end.ClientEnd.{ClientEnd}

-- no message that is read is longer than the longest
abbrev pub ShortMessages : Type 0
ShortMessages = (max : ℕ) (b : List ℕ) (ms : List (ℕ × Message)) (s : State) (r : List ℕ) → Reads max b ms s r → AreShort max ms

abbrev AllShort : ℕ → List Gift → Type 0
AllShort max [] = Unit {0}
AllShort max (g ∷ gs) = (gift_bytes (Some g) ≤ max) × AllShort max gs

all_join : (max : ℕ) (a b : List Gift) → AllShort max a → AllShort max b → AllShort max (a ++ b)
all_join max [] b s t = t
all_join max (g ∷ a) b s t = (s.0, all_join max a b s.1 t)

all_last : (max : ℕ) (a : List Gift) (g : Gift) → AllShort max (a ++ g ∷ []) → gift_bytes (Some g) ≤ max
all_last max [] g s = s.0
all_last max (x ∷ a) g s = all_last max a g s.1

-- ---- what one message tells

code_short : (max : ℕ) (a b : Bool) → AllShort max (if a then gift.Published ∷ [] else (if b then gift.Unpublished ∷ [] else []))
code_short max true b = (omega arith, tt)
code_short max false true = (omega arith, tt)
code_short max false false = tt

told_short : (max : ℕ) (r : Result News CommandFail) → AllShort max (told_in r)
told_short max (Ok (Status code)) = code_short max (is_text code (codes "NetStream.Play.PublishNotify")) (is_text code (codes "NetStream.Play.UnpublishNotify"))
told_short max (Ok (Done n v)) = tt
told_short max (Ok (Refused code description)) = tt
told_short max (Ok Other) = tt
told_short max (Err e) = tt

tag_by : (max : ℕ) (b : Bool) (m : Message) → length m.body ≤ max → AllShort max (if b then gift.Tag (tag_of m) ∷ [] else [])
tag_by max true m s = (s, tt)
tag_by max false m s = tt

media_by : (max id : ℕ) (b : Bool) (m : Message) → length m.body ≤ max → AllShort max (if b then told_in (news_in m.body) else tag_on id m)
media_by max id true m s = told_short max (news_in m.body)
media_by max id false m s = tag_by max (is_kind m.kind && (m.stream == id)) m s

in_short : (max : ℕ) (p : Phase) (m : Message) → length m.body ≤ max → AllShort max (gift_in p m)
unfolding gift_in
in_short max (Started id) m s = media_by max id (m.kind == 20) m s
in_short max Connecting m s = tt
in_short max Creating m s = tt
in_short max (Asking id) m s = tt

for_short : (max : ℕ) (w : Wish) (p : Phase) (m : Message) → length m.body ≤ max → AllShort max (gift_for w p m)
for_short max wish.Push p m s = tt
for_short max wish.Pull p m s = in_short max p m s

pulled_short : (max : ℕ) (k : Asked) (p : Phase) (ms : List (ℕ × Message)) → AreShort max ms → AllShort max (pulled_from k p ms)
unfolding pulled_from
pulled_short max k p [] s = tt
pulled_short max k p (m ∷ ms) s =
    all_join max (gift_for k.wish p m.1) (pulled_from k (does k p m.1).phase ms) (for_short max k.wish p m.1 s.0)
    (pulled_short max k (does k p m.1).phase ms s.1)

-- ---- what a client was told

-- the bytes that it was fed read so, and what it took and what waits is what they tell
pub record IsTold (c : Core) : Type 0 where
  pub ms : List (ℕ × Message)
  pub read : IsRead c.reader.max (drop hand_bytes c.y) ms
  pub told : c.taken ++ listed c.gift ≡ pulled c.asked ms

told_here : (o : Option ClientEnd) (c : Core) → StandsBy o c → IsTold c
told_here None c s = record { ms = c.reader.given; read = s.read; told = s.stands.told }
told_here (Some e) c s = record { ms = s.over.ms; read = s.over.read; told = s.over.told }

pub is_told : (k : ClientState) → StandsFor k → IsTold k.parts
is_told k s = told_here k.ended k.parts s

pub gift_short : ShortMessages → (k : ClientState) → StandsFor k → (g : Gift) → k.parts.gift ≡ Some g → gift_bytes (Some g) ≤ k.parts.reader.max
gift_short law k s g e =
    let t = is_told k s in
    let c = k.parts in
    let max = c.reader.max in
    let all : AllShort max (pulled c.asked t.ms) = pulled_short max c.asked Connecting t.ms
    (law max (drop hand_bytes c.y) t.ms t.read.s t.read.r t.read.reads) in
    all_last max c.taken g (subst (AllShort max) (sym (ap (λ (o : Option Gift). c.taken ++ listed o) (sym e) ∙ t.told)) all)
