use Rattle.std.proofs.Common.{◌≡◌, ◌+◌, ◌/◌, ◌%◌, ◌-◌, Some, None, refl, sym, ◌∙◌, ap, subst, arith, length, length-drop, drop}
use Rattle.aac_adts.specs.Config.{Config, IsConfig}
use Rattle.aac_adts.specs.Reading.{bad_byte, adts_of, config_in}
use Rattle.aac_adts.proofs.Heads.{Passed, passed, config_fits, most, whole_frame, only, read, refused}
use Rattle.aac_adts.proofs.frame.read_adts.Goals as goal

at_refusal : (c : goal.In-Some) → bad_byte c.args.bytes.now ≡ Some c.in-Some.at
at_refusal c = sym c.bad_place.ensures ∙ c.in-Some.is

pub returns-in-Some-clause-exact : goal.returns-in-Some-clause-exact
returns-in-Some-clause-exact c = sym (refused c.args.bytes.now c.in-Some.at (at_refusal c))

pub returns-in-Some-clause-only : goal.returns-in-Some-clause-only
returns-in-Some-clause-only c a raw fits some e = sym (refused c.args.bytes.now c.in-Some.at (at_refusal c)) ∙ ap adts_of e ∙ only a raw fits some

none : (c : goal.After-channels_in) → bad_byte c.args.bytes.now ≡ None
none c = sym c.bad_place.ensures ∙ c.in_default.is

pass : (c : goal.After-channels_in) → Passed c.args.bytes.now
pass c = passed c.args.bytes.now (none c)

-- the configuration that was read
config_is : (c : goal.After-channels_in) → ◌≡◌ {A = Config} (record { object = c.byte.result / 64 + 1; index = c.byte-2.result / 4 % 16; channels = c.channels_in.result }) (config_in c.args.bytes.now)
config_is c = rw (c.byte.ensures, c.byte-2.ensures, c.channels_in.ensures) refl

pub overflow_sub-result : goal.overflow_sub-result
overflow_sub-result c = let p = pass c in omega (arith, p.long)

fits : (c : goal.After-channels_in) → IsConfig (config_in c.args.bytes.now)
fits c = config_fits c.args.bytes.now (λ i. omega (arith, c.type_inv.bytes i)) (pass c)

pub invariant_of-asc : goal.invariant_of-asc
invariant_of-asc c = subst IsConfig (sym (config_is c)) (fits c)

pub returns-clause-exact : goal.returns-clause-exact
returns-clause-exact c = rw (config_is c) (sym (read c.args.bytes.now (none c)))

pub returns-clause-found : goal.returns-clause-found
returns-clause-found c =
    let p = pass c in
    let n : length (drop 7 c.args.bytes.now) ≡ length c.args.bytes.now - 7 = length-drop 7 c.args.bytes.now in
    let few = most c.args.bytes.now (λ i. omega (arith, c.type_inv.bytes i)) p in
    rw (config_is c) (fits c, (omega (arith, p.long), omega arith), sym n, whole_frame c.args.bytes.now (λ i. omega (arith, c.type_inv.bytes i)) p)

pub returns-clause-only : goal.returns-clause-only
returns-clause-only c a raw some_fits some e = rw (config_is c) (sym (read c.args.bytes.now (none c))) ∙ ap adts_of e ∙ only a raw some_fits some
