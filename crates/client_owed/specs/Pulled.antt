-- WHAT A CLIENT THAT PLAYS IS TOLD of its stream: each change of it and each tag, from the status by which it
-- has started on.
use Rattle.std.specs.Prelude.{ℕ, List, [], ◌∷◌, ◌++◌, codes, ◌==◌, ◌&&◌, if◌then◌else◌, Result, Ok}
use Rattle.rtmp_command.specs.declared.command.CommandFail.{CommandFail}
use Rattle.chunk_wire.specs.declared.message.Message.{Message}
use Rattle.flv_tags.specs.declared.tag.Tag.{Tag}
use Rattle.flv_tags.specs.Layout.{is_kind}
use Rattle.client_owed.specs.declared.types.Gift.{Gift}
use Rattle.client_owed.specs.declared.types.Gift.TheVariants as gift
use Rattle.client_owed.specs.declared.types.Asked.{Asked}
use Rattle.client_owed.specs.declared.types.News.{News}
use Rattle.client_owed.specs.declared.types.News.TheVariants.{Status}
use Rattle.client_owed.specs.declared.types.Phase.{Phase}
use Rattle.client_owed.specs.declared.types.Phase.TheVariants.{Connecting, Creating, Asking, Started}
use Rattle.client_owed.specs.declared.types.Wish.{Wish}
use Rattle.client_owed.specs.declared.types.Wish.TheVariants as wish
use Rattle.client_owed.specs.News.{is_text, news_in}
use Rattle.client_owed.specs.Client.{does}

-- the statuses that tell a player of its stream (7.2.2.1)
abbrev pub told_by : List ℕ → List Gift
told_by code =
    if is_text code (codes "NetStream.Play.PublishNotify") then gift.Published ∷ []
    else (if is_text code (codes "NetStream.Play.UnpublishNotify") then gift.Unpublished ∷ [] else [])

abbrev pub told_in : Result News CommandFail → List Gift
told_in (Ok (Status code)) = told_by code
told_in _ = []

-- a message of audio, video or data (7.1.2, 7.1.4 and 7.1.5) as a tag
abbrev pub tag_of : Message → Tag
tag_of m = record { kind = m.kind; time = m.time; body = m.body }

abbrev pub tag_on : ℕ → Message → List Gift
tag_on id m = if is_kind m.kind && (m.stream == id) then gift.Tag (tag_of m) ∷ [] else []

-- what a message tells in a phase
unfoldable pub gift_in : Phase → Message → List Gift
gift_in (Started id) m = if m.kind == 20 then told_in (news_in m.body) else tag_on id m
gift_in Connecting m = []
gift_in Creating m = []
gift_in (Asking id) m = []

-- a client that publishes is told nothing
abbrev pub gift_for : Wish → Phase → Message → List Gift
gift_for wish.Push p m = []
gift_for wish.Pull p m = gift_in p m

-- WHAT THE MESSAGES TELL, each in the phase that those before it left
unfoldable pub pulled_from : Asked → Phase → List (ℕ × Message) → List Gift
pulled_from k p [] = []
pulled_from k p (m ∷ ms) = gift_for k.wish p m.1 ++ pulled_from k (does k p m.1).phase ms

abbrev pub pulled : Asked → List (ℕ × Message) → List Gift
pulled k ms = pulled_from k Connecting ms
