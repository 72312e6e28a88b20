use Rattle.std.proofs.Common.{◌≡◌, ◌≤◌, ◌++◌, ◌+◌, List, ℕ, length, ap, ◌∙◌, subst, sym}
use Rattle.http_flv.specs.Deciding.{IsDecided, decided}
use Rattle.http_flv.specs.Turns.{IsDone, LeavesHead}
use Rattle.http_flv.specs.Sending.{size_of}
use Rattle.http_flv.specs.declared.core_fields.Core.{Core}
use Rattle.http_flv.proofs.Sounding.{grown, heard_sound}
use Rattle.http_flv.proofs.steps.note_bytes.Goals as goal

pub returns-in-Ok-carry_out-clause-sound : goal.returns-in-Ok-carry_out-clause-sound
returns-in-Ok-carry_out-clause-sound g c =
    let desk = g.D.Desk.grants c.args.desk.now in
    let b = c.args.bytes.now in
    let old = c.args.core.now in
    let in_head = c.take_in.new.core in
    let m = c.count.new.core in
    let d = c.carry_out.new.core in
    let dec = decided c.in-Ok-decide.decision in
    let first : in_head ≡ record old { head = old.head ++ b } = c.in-Ok.ensures.ok in
    let same : m ≡ grown old b = c.count.ensures ∙ ap (λ (k : Core). record k { fed = k.fed + length b; x = k.x ++ b }) first in
    let e = c.in-Ok-carry_out.ensures in
    let head : in_head.head ≡ old.head ++ b = ap (λ (k : Core). k.head) first in
    let read : IsDecided desk (old.head ++ b) dec = subst (λ (l : List ℕ). IsDecided desk l dec) (c.as_slice.ensures ∙ head) c.in-Ok-decide.ensures in
    let done : IsDone dec (grown old b) d = subst (λ (k : Core). IsDone dec k d) same e.done in
    let leaves : LeavesHead dec (old.head ++ b) d.head = subst (λ (k : Core). LeavesHead dec k.head d.head) same e.head in
    let rest : d ≡ record (grown old b) { head = d.head; stage = d.stage; kept = d.kept; out = d.out } = subst (λ (k : Core). d ≡ record k { head = d.head; stage = d.stage; kept = d.kept; out = d.out }) same e.rest in
    heard_sound desk old d b dec c.requires.sound c.requires.reading c.requires.few read done leaves rest
    (e.light old.longest (subst (λ (k : Core). size_of k.out ≤ old.longest + 256) (sym same) c.requires.sound.ended.light))
