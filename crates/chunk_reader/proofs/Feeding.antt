-- A feed, from its steps
use Rattle.std.proofs.Common.{◌≡◌, ℕ, ◌+◌, ◌-◌, ◌≤◌, ◌⊎◌, true, false, List, ◌++◌, length, take, drop, Option, Some, None, is_some, refl, sym, ap, ◌∙◌, subst, arith, append_assoc, append-nil, length-drop}
use Rattle.std.proofs.lemmas.List.{take-append-drop, take_all}
use Rattle.std.proofs.Math.Seq.{take-add}
use Rattle.chunk_wire.specs.declared.message.Message.{Message}
use Rattle.chunk_reader.specs.declared.fail.ReadFail.{ReadFail}
use Rattle.chunk_reader.specs.declared.fail.ReadCause.TheVariants.{OutOfMemory}
use Rattle.chunk_reader.specs.ReaderKnown.{ReaderKnown}
use Rattle.chunk_reader.specs.Stops.{Stops}
use Rattle.chunk_reader.specs.Feeds.{IsFedTo, IsRefused, IsTakenTo, after_bytes}

-- a reader after so many bytes that end no message
abbrev pub fed_to : ReaderKnown → List ℕ → ℕ → ReaderKnown
fed_to old piece used = record { max = old.max; fed = old.fed ++ take used piece; given = old.given; failed = None }

pub rest_is : (piece : List ℕ) (used : ℕ) → take (length piece - used) (drop used piece) ≡ drop used piece
rest_is piece used = take_all (length piece - used) (drop used piece) (omega (arith, length-drop used piece))

pub feed_more : (old mid new : ReaderKnown) (piece : List ℕ) (used more : ℕ) (m : Option Message) → mid ≡ fed_to old piece used → IsTakenTo mid (drop used piece) more m new → new ≡ after_bytes old piece (used + more) m
feed_more old mid new piece used more m e t =
    let P : ReaderKnown → Type 0 = λ k. new ≡ after_bytes k (drop used piece) more m in
    let n : new ≡ after_bytes (fed_to old piece used) (drop used piece) more m = subst P e t.now in
    let f : (old.fed ++ take used piece) ++ take more (drop used piece) ≡ old.fed ++ take (used + more) piece = append_assoc old.fed (take used piece) (take more (drop used piece)) ∙ ap (λ (t : List ℕ). old.fed ++ t) (sym (take-add used more piece)) in
    n ∙ (rw f refl)

pub feed_none : (old : ReaderKnown) (piece : List ℕ) (used : ℕ) → after_bytes old piece used None ≡ fed_to old piece used
feed_none old piece used = rw append-nil refl

pub feed_refused : (old mid new : ReaderKnown) (piece : List ℕ) (used : ℕ) (e : ReadFail) → used ≤ length piece → mid ≡ fed_to old piece used → IsRefused mid (drop used piece) e new → IsRefused old piece e new
feed_refused old mid new piece used e within m r =
    let P : ReaderKnown → Type 0 = λ k. new ≡ record { max = k.max; fed = k.fed ++ take r.after (drop used piece); given = k.given; failed = Some e } in
    let n = subst P m r.now in
    let f : (old.fed ++ take used piece) ++ take r.after (drop used piece) ≡ old.fed ++ take (used + r.after) piece = append_assoc old.fed (take used piece) (take r.after (drop used piece)) ∙ ap (λ (t : List ℕ). old.fed ++ t) (sym (take-add used r.after piece)) in
    let all : (old.fed ++ take used piece) ++ drop used piece ≡ old.fed ++ piece = append_assoc old.fed (take used piece) (drop used piece) ∙ ap (λ (t : List ℕ). old.fed ++ t) (take-append-drop used piece) in
    let Q : ReaderKnown → Type 0 = λ k. (e.cause ≡ OutOfMemory) ⊎ Stops k.max (k.fed ++ drop used piece) e.cause e.at in
    let c = subst Q m r.cause in
    let R : List ℕ → Type 0 = λ b. (e.cause ≡ OutOfMemory) ⊎ Stops old.max b e.cause e.at in
    record {
      after = used + r.after;
      within = omega (arith, r.within, length-drop used piece);
      now = n ∙ (rw f refl);
      at = r.at;
      read = r.read;
      cause = subst R all c;
    }

pub feed_goes : (old mid new : ReaderKnown) (piece : List ℕ) (used more : ℕ) (m : Option Message) → mid ≡ fed_to old piece used → IsTakenTo mid (drop used piece) more m new → is_some m ≡ false → new ≡ fed_to old piece (used + more)
feed_goes old mid new piece used more None e t n = feed_more old mid new piece used more None e t ∙ feed_none old piece (used + more)
feed_goes old mid new piece used more (Some x) e t n = absurd (cc)

pub feed_ends : (old mid new : ReaderKnown) (piece : List ℕ) (used more : ℕ) (m : Option Message) → used ≤ length piece → mid ≡ fed_to old piece used → IsTakenTo mid (drop used piece) more m new → is_some m ≡ true → IsFedTo old piece (used + more) m new
feed_ends old mid new piece used more m within e t n = record {
  within = omega (arith, t.within, length-drop used piece);
  some = λ _. omega (arith, t.some);
  all = λ f. absurd (cc);
  now = feed_more old mid new piece used more m e t;
  read = t.read;
  at_end = t.at_end;
}
