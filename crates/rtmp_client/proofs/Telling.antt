-- What a message tells
use Rattle.std.proofs.Common.{◌≡◌, ◌⊎◌, inl, inr, ℕ, ◌+◌, ◌≤◌, Bool, true, false, ◌==◌, ◌&&◌, if◌then◌else◌, List, [], ◌∷◌, length, Option, Some, None, Result, Ok, Err, refl, sym, ap, ◌∙◌, arith}
use Rattle.std.proofs.lemmas.Bool.{eqb-true}
use Rattle.chunk_wire.specs.declared.message.Message.{Message}
use Rattle.rtmp_command.specs.declared.command.CommandFail.{CommandFail}
use Rattle.ack_window.specs.Controls.{control_in, ping_answer_of, read_by, row_of}
use Rattle.ack_window.specs.declared.control.Control.{Control}
use Rattle.ack_window.specs.declared.control.BadControl.{BadControl}
use Rattle.session_owed.specs.Acks.{window_by, windowed_by}
use Rattle.flv_tags.specs.Layout.{is_kind}
use Rattle.client_owed.specs.declared.types.Asked.{Asked}
use Rattle.client_owed.specs.declared.types.Gift.{Gift}
use Rattle.client_owed.specs.declared.types.Gift.TheVariants as gift
use Rattle.client_owed.specs.declared.types.News.{News}
use Rattle.client_owed.specs.declared.types.News.TheVariants.{Done, Refused, Status, Other}
use Rattle.client_owed.specs.declared.types.Phase.{Phase}
use Rattle.client_owed.specs.declared.types.Phase.TheVariants.{Connecting, Creating, Asking, Started}
use Rattle.client_owed.specs.declared.types.Wish.{Wish}
use Rattle.client_owed.specs.declared.types.Wish.TheVariants as wish
use Rattle.client_owed.specs.News.{is_text, news_in}
use Rattle.client_owed.specs.Client.{does, does_by, learns, learns_by, pongs, stays}
use Rattle.client_owed.specs.Pulled.{gift_for, gift_in, tag_of, tag_on, told_in}
use Rattle.client_owed.specs.Standing.{listed}
use Rattle.rtmp_client.specs.Bounds.{gift_bytes}
use Rattle.rtmp_client.specs.Refusing.{ended_by, refused, refused_by}
use Rattle.rtmp_client.specs.Telling.{media_for, told_for}
use Rattle.rtmp_client.specs.declared.end.ClientEnd.{ClientEnd}
use Rattle.rtmp_client.specs.declared.end.ClientEnd.TheVariants as end

-- ---- a command is no control

pub command_control : (m : Message) → (m.kind == 20) ≡ true → control_in m ≡ Ok None
unfolding control_in
command_control m e = ap (λ (k : ℕ). read_by (row_of k) m) (eqb-true m.kind 20 e)

by_kind : (k : Asked) (p : Phase) (b : Bool) (r : Result News CommandFail) → b ≡ true → (if b then learns_by k p r else stays p) ≡ learns_by k p r
by_kind k p b r e = ap (λ (t : Bool). if t then learns_by k p r else stays p) e

pub command_does : (k : Asked) (p : Phase) (m : Message) (n : News) → (m.kind == 20) ≡ true → news_in m.body ≡ Ok n → does k p m ≡ learns k p n
unfolding does
command_does k p m n e is = ap (does_by k p m) (command_control m e) ∙ by_kind k p (m.kind == 20) (news_in m.body) e ∙ ap (learns_by k p) is

pub command_window : (w : ℕ) (m : Message) → (m.kind == 20) ≡ true → window_by w m ≡ w
unfolding window_by
command_window w m e = ap (windowed_by w) (command_control m e)

refused_is : (last : ℕ) (m : Message) → (m.kind == 20) ≡ true → refused last m ≡ ended_by last (news_in m.body)
unfolding refused
refused_is last m e = ap (refused_by last m) (command_control m e) ∙ ap (λ (t : Bool). if t then ended_by last (news_in m.body) else None) e

pub command_passed : (last : ℕ) (m : Message) (n : News) → (m.kind == 20) ≡ true → news_in m.body ≡ Ok n → ended_by last (Ok n) ≡ None → refused last m ≡ None
command_passed last m n e is h = refused_is last m e ∙ ap (ended_by last) is ∙ h

pub command_refused : (last : ℕ) (m : Message) (f : ClientEnd) → (m.kind == 20) ≡ true → (f ≡ end.OutOfMemory) ⊎ (ended_by last (news_in m.body) ≡ Some f) → (f ≡ end.OutOfMemory) ⊎ (refused last m ≡ Some f)
command_refused last m f e (inl o) = inl o
command_refused last m f e (inr i) = inr (refused_is last m e ∙ i)

pub command_told : (w : Wish) (p : Phase) (m : Message) (n : News) → (m.kind == 20) ≡ true → news_in m.body ≡ Ok n → told_for w p (Ok n) ≡ gift_for w p m
unfolding gift_in
command_told wish.Push p m n e is = refl
command_told wish.Pull Connecting m n e is = refl
command_told wish.Pull Creating m n e is = refl
command_told wish.Pull (Asking id) m n e is = refl
command_told wish.Pull (Started id) m n e is = ap told_in (sym is) ∙ sym (ap (λ (t : Bool). if t then told_in (news_in m.body) else tag_on id m) e)

-- ---- a message that is no command

pub other_told : (w : Wish) (p : Phase) (m : Message) → (m.kind == 20) ≡ false → media_for w p m ≡ gift_for w p m
unfolding gift_in
other_told wish.Push p m e = refl
other_told wish.Pull Connecting m e = refl
other_told wish.Pull Creating m e = refl
other_told wish.Pull (Asking id) m e = refl
other_told wish.Pull (Started id) m e = sym (ap (λ (t : Bool). if t then told_in (news_in m.body) else tag_on id m) e)

pub other_none : (k : Asked) (p : Phase) (m : Message) → (m.kind == 20) ≡ false → control_in m ≡ Ok None → does k p m ≡ stays p
unfolding does
other_none k p m e is = ap (does_by k p m) is ∙ ap (λ (t : Bool). if t then learns_by k p (news_in m.body) else stays p) e

pub other_control : (k : Asked) (p : Phase) (m : Message) (c : Control) → control_in m ≡ Ok (Some c) → does k p m ≡ record { phase = p; says = pongs (ping_answer_of c) }
unfolding does
other_control k p m c is = ap (does_by k p m) is

pub none_passed : (last : ℕ) (m : Message) → (m.kind == 20) ≡ false → control_in m ≡ Ok None → refused last m ≡ None
unfolding refused
none_passed last m e is = ap (refused_by last m) is ∙ ap (λ (t : Bool). if t then ended_by last (news_in m.body) else None) e

pub control_passed : (last : ℕ) (m : Message) (c : Control) → control_in m ≡ Ok (Some c) → refused last m ≡ None
unfolding refused
control_passed last m c is = ap (refused_by last m) is

pub bad_refused : (last : ℕ) (m : Message) (b : BadControl) → control_in m ≡ Err b → refused last m ≡ Some (end.BadControl last)
unfolding refused
bad_refused last m b is = ap (refused_by last m) is

pub none_window : (w : ℕ) (m : Message) → control_in m ≡ Ok None → window_by w m ≡ w
unfolding window_by
none_window w m is = ap (windowed_by w) is

pub control_window : (w : ℕ) (m : Message) (c : Control) → control_in m ≡ Ok (Some c) → window_by w m ≡ Rattle.session_owed.specs.Acks.windowed w c
unfolding window_by
control_window w m c is = ap (windowed_by w) is

-- ---- a gift is no longer than its message

abbrev list_bytes : List Gift → ℕ
list_bytes [] = 0
list_bytes (g ∷ l) = gift_bytes (Some g) + list_bytes l

listed_bytes : (g : Option Gift) → list_bytes (listed g) ≡ gift_bytes g
listed_bytes None = refl
listed_bytes (Some g) = omega arith

told_case : (a b : Bool) (n : ℕ) → list_bytes (if a then gift.Published ∷ [] else (if b then gift.Unpublished ∷ [] else [])) ≤ n
told_case true b n = omega arith
told_case false true n = omega arith
told_case false false n = omega arith

told_most : (r : Result News CommandFail) (n : ℕ) → list_bytes (told_in r) ≤ n
told_most (Ok (Status code)) n = told_case (is_text code (Rattle.std.specs.Prelude.codes "NetStream.Play.PublishNotify")) (is_text code (Rattle.std.specs.Prelude.codes "NetStream.Play.UnpublishNotify")) n
told_most (Ok (Done t v)) n = omega arith
told_most (Ok (Refused code description)) n = omega arith
told_most (Ok Other) n = omega arith
told_most (Err e) n = omega arith

tag_case : (b : Bool) (m : Message) → list_bytes (if b then gift.Tag (tag_of m) ∷ [] else []) ≤ length m.body
tag_case true m = omega arith
tag_case false m = omega arith

started_case : (b : Bool) (id : ℕ) (m : Message) → list_bytes (if b then told_in (news_in m.body) else tag_on id m) ≤ length m.body
started_case true id m = told_most (news_in m.body) (length m.body)
started_case false id m = tag_case (is_kind m.kind && (m.stream == id)) m

gift_most : (w : Wish) (p : Phase) (m : Message) → list_bytes (gift_for w p m) ≤ length m.body
unfolding gift_in
gift_most wish.Push p m = omega arith
gift_most wish.Pull Connecting m = omega arith
gift_most wish.Pull Creating m = omega arith
gift_most wish.Pull (Asking id) m = omega arith
gift_most wish.Pull (Started id) m = started_case (m.kind == 20) id m

pub gift_short : (w : Wish) (p : Phase) (m : Message) (g : Option Gift) (max : ℕ) → listed g ≡ gift_for w p m → length m.body ≤ max → gift_bytes g ≤ max
gift_short w p m g max e le = omega (arith, listed_bytes g, ap list_bytes e, gift_most w p m, le)

-- one that publishes is told nothing
pub push_none : (w : Wish) (p : Phase) (m : Message) (g : Option Gift) → w ≡ wish.Push → listed g ≡ gift_for w p m → g ≡ None
push_none w p m None we e = refl
push_none w p m (Some x) we e = absurd (let h : x ∷ [] ≡ [] = e ∙ ap (λ (v : Wish). gift_for v p m) we in cc)
