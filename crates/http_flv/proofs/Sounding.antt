-- What a player keeps stays sound when a head is read
use Rattle.std.proofs.Common.{◌≡◌, ◌≤◌, ◌<◌, ℕ, ◌+◌, nat_le, Bool, true, false, if◌then◌else◌, List, [], ◌++◌, length, length-append, refl, sym, ap, ◌∙◌, subst, arith, Option, Some, None}
use Rattle.av_unit.specs.declared.item.Item.{Item}
use Rattle.av_unit.specs.declared.item.Item.TheVariants.{Begin, Unit as AUnit, End}
use Rattle.av_unit.specs.Classes.{message_type}
use Rattle.command_dialog.specs.declared.types.Ask.{Ask}
use Rattle.command_dialog.specs.declared.types.Grant.{Grant}
use Rattle.command_dialog.specs.declared.types.Grant.TheVariants as grant
use Rattle.flv_tags.specs.Text.{item_bytes}
use Rattle.flv_tags.specs.Written.{back_bytes, head_bytes}
use Rattle.http_request.specs.Heads.{Asks, IsRead, Refused, Unfinished, Verdict}
use Rattle.http_request.specs.Targets.{Target, is_get_method, target_of}
use Rattle.stream_model.specs.Held.{body_of}
use Rattle.stream_model.specs.declared.calls.Call.{Call}
use Rattle.stream_model.specs.declared.calls.Call.TheVariants as call
use Rattle.stream_model.specs.declared.calls.Entry.{Entry}
use Rattle.session_owed.specs.Talk.{Own, is_take}
use Rattle.http_flv.specs.Deciding.{IsDecided}
use Rattle.http_flv.specs.Keeping.{CallsBy, HasEnded, HeadBy, IsSound, KeptBy, join_entry, stage_by}
use Rattle.http_flv.specs.Out.{Decision, JoinAt, Later, Tell, by_grant, by_method, by_target, decide}
use Rattle.http_flv.specs.PlayerState.{IsLiving}
use Rattle.http_flv.specs.Sending.{size_of}
use Rattle.http_flv.specs.Turns.{IsDone, LeavesHead}
use Rattle.http_flv.specs.declared.core_fields.Core.{Core}
use Rattle.http_flv.specs.declared.end.HttpEnd.{HttpEnd}
use Rattle.http_flv.specs.declared.stage.Stage.{Stage}
use Rattle.http_flv.specs.declared.stage.Stage.TheVariants as stage

-- an entry that waits is no Take
abbrev pub NoTake : Option Entry → Type 0
NoTake None = Unit {0}
NoTake (Some e) = is_take e.call ≡ false

either_takes : (b : Bool) (x y : Call) → is_take x ≡ false → is_take y ≡ false → is_take (if b then x else y) ≡ false
either_takes true x y e f = e
either_takes false x y e f = f

-- a Join of a broadcast is none
pub join_takes : (who at : ℕ) (name : List ℕ) → NoTake (Some (join_entry who at name))
join_takes who at name = either_takes (nat_le (length name) 64) (call.JoinAs name) call.Join refl refl

-- ---- the tag of an item

head_length : (kind time size : ℕ) → length (head_bytes kind time size) ≡ 11
unfolding head_bytes
head_length kind time size = refl

back_length : (size : ℕ) → length (back_bytes size) ≡ 4
unfolding back_bytes
back_length size = refl

pub item_length : (x : Item) → length (item_bytes x) ≤ body_of x + 15
item_length Begin = omega arith
item_length End = omega arith
item_length (AUnit u) =
    let head = head_bytes (message_type u.kind) u.time (length u.body) in
    let back = back_bytes (length u.body) in
    omega (arith, length-append head (u.body ++ back), length-append u.body back, head_length (message_type u.kind) u.time (length u.body), back_length (length u.body))

-- ---- what it holds

pub living_ended : (o : Option HttpEnd) (c : Core) → IsLiving o c → HasEnded c
living_ended None c s = s.ended
living_ended (Some e) c s = s

-- ---- nothing is decided only while the head isn't whole

grant_decides : (name : List ℕ) (g : Grant) → by_grant name g ≡ Later → ⊥
grant_decides name grant.NoName e = absurd (cc)
grant_decides name grant.Refused e = absurd (cc)
grant_decides name (grant.Place p) e = absurd (cc)

target_decides : (desk : Ask → Grant) (o : Option Target) → by_target desk o ≡ Later → ⊥
target_decides desk None e = absurd (cc)
target_decides desk (Some t) e = grant_decides _ _ e

method_decides : (desk : Ask → Grant) (b : Bool) (t : List ℕ) → by_method desk b t ≡ Later → ⊥
method_decides desk false t e = absurd (cc)
method_decides desk true t e = target_decides desk (target_of t) e

verdict_short : (desk : Ask → Grant) (x : List ℕ) (v : Verdict) → IsRead x v → decide desk v ≡ Later → length x < 4096
verdict_short desk x Unfinished r e = r.short
verdict_short desk x Refused r e = absurd (cc)
verdict_short desk x (Asks m t) r e = absurd (method_decides desk (is_get_method m) t e)

pub later_short : (desk : Ask → Grant) (x : List ℕ) (dec : Decision) → IsDecided desk x dec → dec ≡ Later → length x < 4096
later_short desk x dec i e = verdict_short desk x i.verdict i.read (sym i.is_it ∙ e)

-- ---- what the decision leaves

done_stage : (dec : Decision) (c d : Core) → c.stage ≡ stage.Reading → IsDone dec c d → d.stage ≡ stage_by dec []
done_stage Later c d e t = t.0 ∙ e
done_stage (Tell r) c d e t = t.0
done_stage (JoinAt p name) c d e t = t.0

head_at : (dec : Decision) (h x k : List ℕ) → LeavesHead dec h k → h ≡ x → (dec ≡ Later → length x < 4096) → HeadBy (stage_by dec []) k x
head_at Later h x k l e f = (l ∙ e, f refl)
head_at (Tell r) h x k l e f = l
head_at (JoinAt p name) h x k l e f = l

head_short : (dec : Decision) (h k : List ℕ) → LeavesHead dec h k → (dec ≡ Later → length h < 4096) → length k < 4096
head_short Later h k l f = omega (arith, f refl, ap length l)
head_short (Tell r) h k l f = omega (arith, ap length l)
head_short (JoinAt p name) h k l f = omega (arith, ap length l)

kept_at : (dec : Decision) (c d : Core) → IsDone dec c d → c.kept ≡ None → KeptBy (stage_by dec []) c.who (length d.x) d.kept
kept_at Later c d t e = t.1 ∙ e
kept_at (Tell r) c d t e = t.1 ∙ e
kept_at (JoinAt p name) c d t e = (name, t.1)

calls_at : (dec : Decision) (calls : List Own) → calls ≡ [] → CallsBy (stage_by dec []) calls
calls_at Later calls e = e
calls_at (Tell r) calls e = tt
calls_at (JoinAt p name) calls e = e

-- with bytes of a head more
abbrev pub grown : Core → List ℕ → Core
grown c b = record c { head = c.head ++ b; fed = c.fed + length b; x = c.x ++ b }

pub heard_sound : (desk : Ask → Grant) (c d : Core) (b : List ℕ) (dec : Decision) → IsSound c → c.stage ≡ stage.Reading → length b ≤ 4096 → IsDecided desk (c.head ++ b) dec → IsDone dec (grown c b) d
    → LeavesHead dec (c.head ++ b) d.head → d ≡ record (grown c b) { head = d.head; stage = d.stage; kept = d.kept; out = d.out } → size_of d.out ≤ c.longest + 256 → IsSound d
heard_sound desk c d b dec s es few i done l e light =
    let whole : HeadBy stage.Reading c.head c.x = subst (λ (t : Stage). HeadBy t c.head c.x) es s.head in
    let none : KeptBy stage.Reading c.who (length c.x) c.kept = subst (λ (t : Stage). KeptBy t c.who (length c.x) c.kept) es s.kept in
    let quiet : CallsBy stage.Reading c.calls = subst (λ (t : Stage). CallsBy t c.calls) es s.calls in
    let same : c.head ++ b ≡ c.x ++ b = ap (λ (k : List ℕ). k ++ b) whole.0 in
    let x : d.x ≡ c.x ++ b = ap (λ (k : Core). k.x) e in
    let st : d.stage ≡ stage_by dec [] = done_stage dec (grown c b) d es done in
    let short : dec ≡ Later → length (c.head ++ b) < 4096 = later_short desk (c.head ++ b) dec i in
    record {
      ended = record {
        counted = ap (λ (k : Core). k.fed) e ∙ omega (arith, s.ended.counted, length-append c.x b) ∙ sym (ap length x);
        head = head_short dec (c.head ++ b) d.head l short;
        light = omega (arith, light, ap (λ (k : Core). k.longest) e);
        short = omega (arith, s.ended.short, ap (λ (k : Core). k.longest) e);
      };
      far = omega (arith, whole.1, few, ap length x, length-append c.x b);
      head = subst (λ (t : Stage). HeadBy t d.head d.x) (sym st) (head_at dec (c.head ++ b) d.x d.head l (same ∙ sym x) (λ f. let h = short f in omega (arith, h, ap length same, ap length x)));
      kept = subst (λ (t : Stage). KeptBy t d.who (length d.x) d.kept) (sym st) (subst (λ (w : ℕ). KeptBy (stage_by dec []) w (length d.x) d.kept) (sym (ap (λ (k : Core). k.who) e)) (kept_at dec (grown c b) d done none));
      calls = subst (λ (t : Stage). CallsBy t d.calls) (sym st) (calls_at dec d.calls (ap (λ (k : Core). k.calls) e ∙ quiet));
    }

-- ---- a player that lives

pub living_sound : (o : Option HttpEnd) (c : Core) → o ≡ None → IsLiving o c → IsSound c
living_sound o c e i = subst (λ (x : Option HttpEnd). IsLiving x c) e i

-- the call that waits, if there is one, is a Join
pub kept_no_take : (c : Core) → IsSound c → NoTake c.kept
kept_no_take c s = by_stage c.stage s.kept
  where
    by_stage : (st : Stage) → KeptBy st c.who (length c.x) c.kept → NoTake c.kept
    by_stage stage.Reading k = subst NoTake (sym k) tt
    by_stage (stage.Joining place) k = subst NoTake (sym k.1) (join_takes c.who (length c.x) k.0)
    by_stage (stage.Telling r) k = subst NoTake (sym k) tt
    by_stage (stage.Playing place player) k = subst NoTake (sym k) tt
