use Rattle.std.proofs.Common.{◌≡◌, ◌<◌, ◌≤◌, [], None, inl, inr, ◌++◌, ◌∙◌, ◌+◌, ◌-◌, ap, sym, List, ℕ, length, take, min, arith, length-append}
use Rattle.std.proofs.lemmas.List.{length-take}
use Rattle.std.proofs.lemmas.Bool.{cases_lt}
use Rattle.rtmp_handshake.specs.Answer.{answered}
use Rattle.rtmp_handshake.specs.Feeds.{read_of, out_of}
use Rattle.rtmp_handshake.specs.Echo.{kept_of}
use Rattle.rtmp_handshake.proofs.Kept.{kept_more, kept_most}
use Rattle.rtmp_handshake.proofs.Outs.{out_is, out_sum, version_stays}
use Rattle.rtmp_handshake.proofs.hand.Hand.feed.Goals as goal

-- what is taken of the piece
taken : (c : goal.After-add_all) → c.first-taken.result.now ≡ read_of c.self.inside.fed c.args.piece.now
taken c = c.first-taken.ensures ∙ ap (λ (n : ℕ). take (3073 - n) c.args.piece.now) c.self.invariant.counted

put : (c : goal.After-add_all) → c.in-Ok.out ≡ out_of c.self.inside.fed c.args.piece.now
put c =
    out_is c.self.inside.fed c.args.piece.now c.self.inside.kept c.read.new.kept c.first-taken.result.now c.in-Ok.out c.self.inside.count
    c.self.invariant.counted (taken c) (λ lt. c.self.invariant.kept_is c.in_default.is (omega (arith, c.self.invariant.counted)))
    c.in-Ok.ensures.late c.in-Ok.ensures.early c.in-Ok.ensures.now

pub invariant_of-self-2 : goal.invariant_of-self-2
invariant_of-self-2 c =
    let counted = c.self.invariant.counted in
    let most = c.self.invariant.most in
    let sum : length c.add_all.new.self ≡ length c.self.inside.fed + length c.first-taken.result.now =
    ap length c.add_all.ensures ∙ length-append c.self.inside.fed c.first-taken.result.now in
    let part : length c.first-taken.result.now ≡ min (3073 - c.self.inside.count) (length c.args.piece.now) =
    ap length c.first-taken.ensures ∙ length-take (3073 - c.self.inside.count) c.args.piece.now in
    let kept_now : c.self.inside.failed ≡ None → length c.add_all.new.self < 1537 → c.read.new.kept ≡ kept_of 0 c.add_all.new.self =
    λ live few.
    let early = c.in-Ok.ensures.early (omega arith) in
    early.1
    ∙ rw (c.self.invariant.kept_is live (omega arith), counted) (sym (kept_more c.self.inside.fed c.first-taken.result.now))
    ∙ ap (kept_of 0) (sym c.add_all.ensures) in
    let gone : 1537 ≤ length c.add_all.new.self → c.read.new.kept ≡ [] =
    λ enough.
    elim (cases_lt c.self.inside.count 1537) [
      | inl lt ↦ c.in-Ok.ensures.let_go lt (omega arith)
      | inr le ↦ c.in-Ok.ensures.still le ∙ c.self.invariant.let_go (omega arith)
    ] in
    record {
      counted = omega arith;
      most = omega arith;
      version = rw (c.add_all.ensures, taken c)
          (version_stays c.self.inside.fed c.args.piece.now c.self.invariant.version
          (λ none. sym (c.in_default-other_version.ensures.first (omega arith))));
      kept_is = kept_now;
      kept_most = elim (cases_lt (length c.add_all.new.self) 1537) [
        | inl lt ↦ rw (kept_now c.in_default.is lt) (kept_most c.add_all.new.self)
        | inr le ↦ rw (gone le) (omega arith)
      ];
      let_go = gone;
      dropped = λ failed. absurd (failed c.in_default.is);
    }

pub returns-clause-out : goal.returns-clause-out
returns-clause-out c = rw (← c.self.view_is) (put c)

pub returns-clause-sum : goal.returns-clause-sum
returns-clause-sum c =
    let new : c.add_all.new.self ≡ c.self.inside.fed ++ read_of c.self.inside.fed c.args.piece.now =
    c.add_all.ensures ∙ ap (λ (t : List ℕ). c.self.inside.fed ++ t) (taken c) in
    rw (← c.self.view_is)
    (ap (λ (t : List ℕ). answered c.self.inside.fed ++ t) (put c)
    ∙ out_sum c.self.inside.fed c.args.piece.now
    ∙ ap answered (sym new))
