use Rattle.std.proofs.Common.{◌≡◌, ◌<◌, ◌+◌, ◌∷◌, ◌++◌, [], ℕ, List, take, sym, ap, ◌∙◌, length, append_assoc}
use Rattle.std.proofs.lemmas.List.{take_more, append-nil}
use Rattle.avc_annexb.specs.AnnexB.{started, annexb}
use Rattle.avc_annexb.proofs.Streams.{annexb_append}
use Rattle.avc_annexb.proofs.annexb.to_annexb.Goals as goal

pub loop-unit-preserved : goal.loop-unit-preserved
loop-unit-preserved c =
    let units : List (List ℕ) = c.as_slice-units.result.now in
    let i : ℕ = c.loop-unit.unit-index in
    let u : List ℕ = c.unit-item.result in
    let lt : i < length units = c.loop-unit-test.true in
    let more : take (i + 1) units ≡ take i units ++ u ∷ [] = take_more units i u lt ∙ ap (λ (x : List ℕ). take i units ++ x ∷ []) (sym c.unit-item.is) in
    let text : annexb (take (i + 1) units) ≡ annexb (take i units) ++ started u =
    ap annexb more ∙ annexb_append (take i units) (u ∷ []) ∙ ap (λ (t : List ℕ). annexb (take i units) ++ t) (append-nil (started u)) in
    c.in_ok-put_started.ensures.ok
    ∙ ap (λ (t : List ℕ). c.loop-unit.out ++ started t) c.as_slice.ensures
    ∙ ap (λ (t : List ℕ). t ++ started u) c.loop-unit.invariant
    ∙ append_assoc c.args.out.now (annexb (take i units)) (started u)
    ∙ ap (λ (t : List ℕ). c.args.out.now ++ t) (sym text)
