-- A reply line is one line.
use Rattle.std.proofs.Common.{◌≡◌, ℕ, ◌+◌, ◌%◌, ◌<◌, ◌==◌, Bool, true, false, not, cond, List, [], ◌∷◌, ◌++◌, Option, None, Some, length, refl, arith}
use Rattle.std.specs.Prelude.{codes}
use Rattle.std.proofs.lemmas.Bool.Decides.{nat_tests}
use Rattle.std.proofs.lemmas.Fmt.{decimal_by_steps}
use Rattle.std.specs.Fmt.{decimal}
use Rattle.av_unit.specs.declared.unit.Kind.{Kind}
use Rattle.av_unit.specs.declared.unit.Kind.TheVariants.{Meta, VConfig, AConfig, Key, Inter, Spare, Audio, Data}
use Rattle.av_unit.specs.declared.item.Item.{Item}
use Rattle.av_unit.specs.declared.item.Item.TheVariants as item
use Rattle.stream_model.specs.declared.replies.Reply.{Reply}
use Rattle.stream_model.specs.declared.replies.Reply.TheVariants.{Began, InUse, Pushed, NotPublisher, Ended, Joined, Full, NotPlayer, Sent, Skip, NotYet}
use Rattle.stream_model.specs.declared.replies.Reply.TheVariants.{Left, Counts, NoSlot}
use Rattle.relay_script.specs.Texts.{line_of, held_text, item_text, kind_text, live_text}
use Rattle.relay_script.specs.OneLine.{IsOneLine, IsU64, IsLive, IsItem, IsReply}
use Rattle.relay_script.specs.Script.{NoLineFeed}

record Clean (text : List ℕ) : Type 0 where
  clean : NoLineFeed text

pub both : (xs ys : List ℕ) → NoLineFeed xs → NoLineFeed ys → NoLineFeed (xs ++ ys)
both [] ys p q = q
both (x ∷ xs) ys p q = (p.0, both xs ys p.1 q)

and : {xs ys : List ℕ} → Clean xs → Clean ys → Clean (xs ++ ys)
and {xs = xs} {ys = ys} p q = record { clean = both xs ys p.clean q.clean }

low_digit : (n : ℕ) → n < 10 → ((48 + n) == 10) ≡ false
low_digit n h = grind (arith, nat_tests)

last_digit : (n : ℕ) → ((48 + n % 10) == 10) ≡ false
last_digit n = grind (arith, nat_tests)

num : (n : ℕ) → IsU64 n → Clean (decimal n)
num n h = decimal_by_steps (λ m ds. Clean ds) (λ m small. record { clean = (low_digit m small, tt) })
    (λ m ds big p. record { clean = both ds ((48 + m % 10) ∷ []) p.clean (last_digit m, tt) }) n h

abbrev is_clean : List ℕ → Bool
is_clean [] = true
is_clean (c ∷ cs) = cond (not (c == 10)) (is_clean cs) false

clean_cases : (b : Bool) (c : ℕ) (cs : List ℕ) → (c == 10) ≡ b → cond (not b) (is_clean cs) false ≡ true → (is_clean cs ≡ true → NoLineFeed cs)
    → NoLineFeed (c ∷ cs)
clean_cases true c cs e h more = absurd (cc)
clean_cases false c cs e h more = (e, more h)

by_test : (text : List ℕ) → is_clean text ≡ true → NoLineFeed text
by_test [] e = tt
by_test (c ∷ cs) e = clean_cases (c == 10) c cs refl e (by_test cs)

fixed : (text : List ℕ) → is_clean text ≡ true → Clean text
fixed text e = record { clean = by_test text e }

space : Clean (codes " ")
space = fixed (codes " ") refl

ended : {text : List ℕ} → Clean text → IsOneLine (text ++ codes "\n")
ended {text = text} p = record { line = text; ends = refl; clean = p.clean }

live : (by : Option ℕ) → IsLive by → Clean (live_text by)
live None h = fixed (codes "-") refl
live (Some n) h = num n h

kind : (k : Kind) → Clean (kind_text k)
kind Meta = fixed (codes "meta") refl
kind VConfig = fixed (codes "vconfig") refl
kind AConfig = fixed (codes "aconfig") refl
kind Key = fixed (codes "key") refl
kind Inter = fixed (codes "inter") refl
kind Spare = fixed (codes "spare") refl
kind Audio = fixed (codes "audio") refl
kind Data = fixed (codes "data") refl

shown : (x : Item) → IsItem x → Clean (item_text x)
shown item.Begin h = fixed (codes "begin") refl
shown item.End h = fixed (codes "end") refl
shown (item.Unit u) h = and (and (and (and (kind u.kind) space) (num u.time h.0)) space) (num (length u.body) h.1)

pub one_line : (r : Reply) → IsReply r → IsOneLine (line_of r)
one_line (Began n) h = ended (and (fixed (codes "began ") refl) (num n h))
one_line (InUse by) h = ended (and (fixed (codes "inuse ") refl) (num by h))
one_line (Pushed n) h = ended (and (fixed (codes "pushed ") refl) (num n h))
one_line (NotPublisher by) h = ended (and (fixed (codes "notpublisher ") refl) (live by h))
one_line (Ended n) h = ended (and (fixed (codes "ended ") refl) (num n h))
one_line (Joined player from) h = ended (and (and (and (fixed (codes "joined ") refl) (num player h.0)) space) (num from h.1))
one_line Full h = ended (fixed (codes "full") refl)
one_line NotPlayer h = ended (fixed (codes "notplayer") refl)
one_line (Sent from n x) h = ended (and (and (and (and (and (fixed (codes "item ") refl) (num from h.0)) space) (num n h.1)) space) (shown x h.2))
one_line (Skip from to) h = ended (and (and (and (fixed (codes "skip ") refl) (num from h.0)) space) (num to h.1))
one_line (NotYet end) h = ended (and (fixed (codes "notyet ") refl) (num end h))
one_line (Left player) h = ended (and (fixed (codes "left ") refl) (num player h))
one_line (Counts began pushed ended_ joined skips) h =
    ended (and (and (and (and (and (and (and (and (and (fixed (codes "counts ") refl) (num began h.0)) space) (num pushed h.1)) space) (num ended_ h.2))
    space) (num joined h.3)) space) (num skips h.4))
one_line (NoSlot slots) h = ended (and (fixed (codes "noslot ") refl) (num slots h))

pub held_line : (bytes : ℕ) → IsU64 bytes → IsOneLine (held_text bytes)
held_line bytes h = ended (and (fixed (codes "held ") refl) (num bytes h))
