-- What the messages of an item tell a client that plays
use Rattle.std.proofs.Common.{◌≡◌, ℕ, true, false, ◌==◌, ◌&&◌, if◌then◌else◌, List, [], ◌∷◌, ◌++◌, Ok, refl, ap, ◌∙◌, arith}
use Rattle.std.specs.Prelude.{codes}
use Rattle.std.proofs.lemmas.Bool.{eq-eqb}
use Rattle.av_unit.specs.Media.{Media}
use Rattle.av_unit.specs.Classes.{message_type}
use Rattle.av_unit.specs.declared.item.Item.{Item}
use Rattle.av_unit.specs.declared.item.Item.TheVariants as item
use Rattle.av_unit.specs.declared.unit.Kind.{Kind}
use Rattle.av_unit.specs.declared.unit.Kind.TheVariants as kind
use Rattle.rtmp_command.specs.declared.answer.Answer.TheVariants as answer
use Rattle.rtmp_command.specs.Answers.{body_of}
use Rattle.flv_tags.specs.Layout.{is_kind}
use Rattle.command_dialog.specs.Dialog.{answers, shown, unit_message}
use Rattle.client_owed.specs.declared.types.Gift.{Gift}
use Rattle.client_owed.specs.declared.types.Gift.TheVariants as gift
use Rattle.client_owed.specs.declared.types.News.TheVariants.{Status}
use Rattle.client_owed.specs.declared.types.Phase.TheVariants.{Started}
use Rattle.client_owed.specs.News.{news_in}
use Rattle.client_owed.specs.Pulled.{gift_in, tag_of, tag_on, told_in}
use Rattle.client_law.specs.Pull.{gift_of, gifts_in}
use Rattle.client_law.proofs.Starts.{status_read}

is_media : (x : Kind) → is_kind (message_type x) ≡ true
is_media kind.Meta = refl
is_media kind.VConfig = refl
is_media kind.AConfig = refl
is_media kind.Key = refl
is_media kind.Inter = refl
is_media kind.Spare = refl
is_media kind.Audio = refl
is_media kind.Data = refl

no_command : (x : Kind) → (message_type x == 20) ≡ false
no_command kind.Meta = refl
no_command kind.VConfig = refl
no_command kind.AConfig = refl
no_command kind.Key = refl
no_command kind.Inter = refl
no_command kind.Spare = refl
no_command kind.Audio = refl
no_command kind.Data = refl

unit_told : (id : ℕ) (u : Media) → gift_in (Started id) (unit_message id u) ≡ gift_of (item.Unit u) ∷ []
unfolding gift_in
unit_told id u =
    ap (λ b. if b then told_in (news_in u.body) else tag_on id (unit_message id u)) (no_command u.kind)
    ∙ ap (λ b. if b && (id == id) then gift.Tag (tag_of (unit_message id u)) ∷ [] else []) (is_media u.kind)
    ∙ ap (λ b. if b then gift.Tag (tag_of (unit_message id u)) ∷ [] else []) (eq-eqb id id refl)

status_told : (id : ℕ) (body code : List ℕ) (l : List Gift) → news_in body ≡ Ok (Status code) → told_in (Ok (Status code)) ≡ l → gift_in (Started id) (record { kind = 20; stream = id; time = 0; body = body }) ≡ l
unfolding gift_in
status_told id body code l e h = ap told_in e ∙ h

begin_told : (id : ℕ) → gift_in (Started id) (answers id answer.PublishNotify) ≡ gift.Published ∷ []
unfolding body_of
begin_told id =
    status_told id (body_of answer.PublishNotify) (codes "NetStream.Play.PublishNotify") (gift.Published ∷ []) (status_read (codes "status") (codes "NetStream.Play.PublishNotify") (codes "Published.") (omega arith) (omega arith) (omega arith)) refl

end_told : (id : ℕ) → gift_in (Started id) (answers id answer.UnpublishNotify) ≡ gift.Unpublished ∷ []
unfolding body_of
end_told id =
    status_told id (body_of answer.UnpublishNotify) (codes "NetStream.Play.UnpublishNotify") (gift.Unpublished ∷ [])
    (status_read (codes "status") (codes "NetStream.Play.UnpublishNotify") (codes "Unpublished.") (omega arith) (omega arith) (omega arith)) refl

-- THE MESSAGES OF AN ITEM tell this item, and nothing else
pub item_told : (id : ℕ) (i : Item) → gifts_in id (shown id i) ≡ gift_of i ∷ []
unfolding gifts_in gift_in
item_told id item.Begin = ap (λ l. l ++ []) (begin_told id)
item_told id (item.Unit u) = ap (λ l. l ++ []) (unit_told id u)
item_told id item.End = ap (λ l. l ++ []) (end_told id)
