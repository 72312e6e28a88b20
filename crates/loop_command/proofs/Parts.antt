-- What is written where a run ends in the midst of a round, or behind its last
use Rattle.std.proofs.Common.{◌≡◌, ◌∙◌, ℕ, ◌<◌, false, List, [], ◌∷◌, ◌++◌, append-nil, Option, Result, Ok, Err, inl, inr, refl, sym, ap, subst, arith, length}
use Rattle.std.specs.Io.KnownBytes.{append_known}
use Rattle.std.specs.Prelude.{IfErr, Some}
use Rattle.flv_tags.specs.declared.tag.Tag.{Tag}
use Rattle.client_owed.specs.declared.types.Gift.{Gift}
use Rattle.client_owed.specs.Standing.{listed}
use Rattle.client_command.specs.Gifts.{pull_text}
use Rattle.loop_command.specs.Course.{IsCourse, Plays, Pulled, TakesGift, text_of}
use Rattle.loop_command.specs.Rounds.{Goes, IsRun, PartBy, RunsOn, RunsPart, WritesGift, WritesWithin}
use Rattle.loop_command.specs.declared.rounds.Run.{Run}
use Rattle.loop_command.specs.declared.stop.Stop.{Stop}
use Rattle.loop_command.specs.declared.stop.Stop.TheVariants.{Refused, Source, Sink, Memory, Unfinished}
use Rattle.put_text.specs.Written.{WritesPart}
use Rattle.loop_command.proofs.Running.{run_text, some_gift, with_gift}

-- all of it
pub all_written : (text : List ℕ) (old now : Option (List ℕ)) → now ≡ append_known old text → WritesPart text old now
all_written text old now e = ([], record { wrote = text; parts = append-nil text; grown = e })

pub if_err : (q : Result (Unit {0}) Stop) (A : Type 0) → A → IfErr q (λ stop. A)
if_err (Ok x) A a = tt
if_err (Err stop) A a = a

pub gift_part : (old now : Option (List ℕ)) (r : Run) (g : Gift) → r.over ≡ false → r.pull.client.parts.gift ≡ Some g
    → WritesPart (pull_text (r.pull.client.parts.taken ++ g ∷ [])) old now → WritesGift r old now
gift_part old now r g over some part = record {
  told = with_gift r g;
  gift = some_gift r g over some;
  part = subst (λ (l : List Gift). WritesPart (pull_text l) old now) (ap (λ (o : Option Gift). r.pull.client.parts.taken ++ listed o) (sym some)) part;
}

-- before the turn of the client
pub before_part : (file : List Tag) (r : Run) (old now : Option (List ℕ)) → IsRun file r old now → WritesWithin r old now
before_part file r old now h = record { last = r; begun = inl refl; part = all_written (text_of r) old now (run_text file r old now h) }

-- at its gift
pub told_part : (r pulled : Run) (old now : Option (List ℕ)) → Pulled r pulled → WritesGift pulled old now → WritesWithin r old now
told_part r pulled old now p w = record { last = w.told; begun = inr (pulled, p, w.gift); part = w.part }

-- behind it
pub behind_part : (file : List Tag) (r pulled told : Run) (old now : Option (List ℕ)) → Pulled r pulled
    → TakesGift pulled.over pulled.pull.client.parts.gift pulled told → IsRun file told old now → WritesWithin r old now
behind_part file r pulled told old now p g h =
    record { last = told; begun = inr (pulled, p, g); part = all_written (text_of told) old now (run_text file told old now h) }

-- behind the turn of its session
pub served_part : (file : List Tag) (r between : Run) (old now : Option (List ℕ)) → Plays r between → IsRun file between old now → WritesWithin r old now
served_part file r between old now p h = record {
  last = p.told;
  begun = inr (p.pulled, p.client, p.gift);
  part = all_written (text_of p.told) old now
      (run_text file between old now h ∙ ap (λ c. append_known old (pull_text c.parts.taken)) p.session.turned.client);
}

pub runs_part : (stop : Stop) (file : List Tag) (first r : Run) (rounds left : ℕ) (old held now : Option (List ℕ)) → RunsOn file first r rounds left old held
    → 0 < left → WritesWithin r old now → PartBy stop first rounds old now
runs_part stop file first r rounds left old held now o e w = part_by stop
    (record { states = o.states; before = r; course = o.course; within = omega (arith, e, o.count); last = w.last; begun = w.begun; part = w.part })
  where
    part_by : (stop : Stop) → RunsPart first rounds old now → PartBy stop first rounds old now
    part_by Unfinished p = tt
    part_by (Refused at) p = p
    part_by Source p = p
    part_by Sink p = p
    part_by Memory p = p
