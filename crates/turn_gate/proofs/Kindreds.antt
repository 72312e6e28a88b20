-- What splits and joins keep
use Rattle.std.proofs.Common.{◌≡◌, ℕ, ◌+◌, List, ◌++◌, ap, arith}
use Rattle.turn_gate.specs.declared.view.Branch.{Branch}
use Rattle.turn_gate.specs.Branches.{trunk, cut_off, offshoot, at_depth, cut_at, IsWhole, Kindred}
use Rattle.turn_gate.proofs.Branching.{depth_cut, shoot_first, shoot_uncut, trunk_deep, trunk_uncut, cut_counted, depth_both, cut_both}

pub kindred_same : (a b : List Branch) → b ≡ a → Kindred a b
kindred_same a b e = record {
  first = ap (at_depth 0) e;
  each = λ d. let x = ap (at_depth (d + 1)) e in let y = ap (cut_at d) e in omega arith;
}

pub kindred_then : (a b c : List Branch) → Kindred a b → Kindred b c → Kindred a c
kindred_then a b c x y = record {
  first = let f = x.first in let g = y.first in omega arith;
  each = λ d. let f = x.each d in let g = y.each d in omega arith;
}

pub kindred_both : (a b c d : List Branch) → Kindred a b → Kindred c d → Kindred (a ++ c) (b ++ d)
kindred_both a b c d x y = record {
  first = let f = x.first in let g = y.first in let h = depth_both 0 a c in let k = depth_both 0 b d in omega arith;
  each = λ n. let f = x.each n in let g = y.each n in
      let h = depth_both (n + 1) a c in let k = depth_both (n + 1) b d in let s = cut_both n a c in let t = cut_both n b d in omega arith;
}

pub kindred_swap : (a b : List Branch) → Kindred (a ++ b) (b ++ a)
kindred_swap a b = record {
  first = let h = depth_both 0 a b in let k = depth_both 0 b a in omega arith;
  each = λ n. let h = depth_both (n + 1) a b in let k = depth_both (n + 1) b a in let s = cut_both n a b in let t = cut_both n b a in omega arith;
}

-- one pass is split off
pub kindred_split : (a : List Branch) → Kindred a (cut_off a ++ offshoot a)
kindred_split a = record {
  first = let h = depth_both 0 (cut_off a) (offshoot a) in let c = depth_cut 0 a in let s = shoot_first a in omega arith;
  each = λ d. let h = depth_both (d + 1) (cut_off a) (offshoot a) in let c = depth_cut (d + 1) a in let k = cut_both d (cut_off a) (offshoot a) in
      let u = shoot_uncut d a in let n = cut_counted d a in omega arith;
}

-- one pass is split off, and another takes it in
pub kindred_handed : (a b : List Branch) → Kindred (a ++ b) (cut_off a ++ (b ++ offshoot a))
kindred_handed a b = record {
  first = let h = depth_both 0 (cut_off a) (b ++ offshoot a) in let m = depth_both 0 b (offshoot a) in let l = depth_both 0 a b in let c = depth_cut 0 a in let s = shoot_first a in omega arith;
  each = λ d. let h = depth_both (d + 1) (cut_off a) (b ++ offshoot a) in let m = depth_both (d + 1) b (offshoot a) in let l = depth_both (d + 1) a b in let c = depth_cut (d + 1) a in
      let k = cut_both d (cut_off a) (b ++ offshoot a) in let j = cut_both d b (offshoot a) in let i = cut_both d a b in
      let u = shoot_uncut d a in let n = cut_counted d a in omega arith;
}

-- what the first pass of a gate has become is all of it
pub whole_of : (kin : List Branch) → Kindred trunk kin → IsWhole kin
whole_of kin k = record {
  first = let f = k.first in omega arith;
  each = λ d. let f = k.each d in let t = trunk_deep d in let u = trunk_uncut d in omega arith;
}
