use Rattle.std.proofs.Common.{◌≡◌, refl, sym, inl, inr, arith, length}
use Rattle.std.proofs.lemmas.Result.{err_from_is_err_and}
use Rattle.avc_annexb.proofs.Sets.{size_stops, sps_stop, pps_none, pps_stop, whole}
use Rattle.avc_annexb.proofs.avcc.read_record.Goals as goal

pub returns-in_err-size : goal.returns-in_err-size
returns-in_err-size c =
    let p = err_from_is_err_and c.from_residual.result c.from_residual.ensures.1 in
    let h = c.in_err-size.ensures.value in
    rw (p.1, p.2) (inr (size_stops c.args.body.now c.in_err-size.field-0.0 (sym h)))

pub returns-in_err-sps : goal.returns-in_err-sps
returns-in_err-sps c =
    let p = err_from_is_err_and c.from_residual-in_err-sps.result c.from_residual-in_err-sps.ensures.1 in
    rw (p.1, p.2) (elim c.in_err-sps.ensures.exact [
      | inl o ↦ inl o
      | inr s ↦ inr (sps_stop c.args.body.now c.after.result.now c.in_ok-size.size _ c.in_err-sps.field-0.0 (sym c.in_ok-size.ensures.value) refl c.after.ensures s)
    ])

pub returns-in_default : goal.returns-in_default
returns-in_default c =
    inr (pps_none c.args.body.now c.after.result.now c.in_ok-sps.rest.now c.in_ok-size.size _ c.in_ok-sps.sps (sym c.in_ok-size.ensures.value) refl c.after.ensures
    c.in_ok-sps.ensures.exact (omega arith))

pub returns-in_err-pps : goal.returns-in_err-pps
returns-in_err-pps c =
    let p = err_from_is_err_and c.from_residual-in_err-pps.result c.from_residual-in_err-pps.ensures.1 in
    let many : c.len.result ≡ length c.in_ok-sps.sps = c.len.ensures in
    rw (p.1, p.2) (elim (rw many at c.in_err-pps.ensures.exact) [
      | inl o ↦ inl o
      | inr s ↦ inr (pps_stop c.args.body.now c.after.result.now c.in_ok-sps.rest.now c.after-2.result.now c.in_ok-size.size _ c.in_ok-sps.sps c.in_err-pps.field-0.0
          (sym c.in_ok-size.ensures.value) refl c.after.ensures c.in_ok-sps.ensures.exact c.in-len1-up.len_at_least c.after-2.ensures s)
    ])

pub returns : goal.returns
returns c =
    let many : c.len.result ≡ length c.in_ok-sps.sps = c.len.ensures in
    whole c.args.body.now c.after.result.now c.in_ok-sps.rest.now c.after-2.result.now c.in_ok-pps.field-0-1.now c.in_ok-size.size _ c.in_ok-sps.sps c.in_ok-pps.pps
    (sym c.in_ok-size.ensures.value) refl c.after.ensures c.in_ok-sps.ensures.exact c.in-len1-up.len_at_least c.after-2.ensures (rw many at c.in_ok-pps.ensures.exact)
