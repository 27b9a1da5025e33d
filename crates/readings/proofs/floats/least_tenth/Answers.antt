-- `readings::floats::least_tenth` meets its contract: each return is `least` of the float by the fields of its bits. Assumes nothing.
use mathlib.Core.Path.{◌≡◌, sym, ap, ◌∙◌}
use Prim.Native.Nat.{◌+◌, ◌-◌, ◌*◌, ◌^◌, ◌≤◌}
use native.Mathlib.Omega.{arith}
use lib.Ieee.{binary32, to_bits}
use lib.Pow.{pow_pos}
use Rattle.std.proofs.lemmas.Nat.{one_shl}
use Rattle.readings.specs.Value.{least, tenths_per_unit}
use Rattle.readings.specs.Readings.{tenths}
use Rattle.common.proofs.Bools.{holds}
use Rattle.readings.proofs.Ceiling as ceilings
use Rattle.readings.proofs.Least.{least_top}
use Rattle.readings.proofs.Bits.{exponent, fraction, least_nothing, least_tiny, least_normal, exponent_top}
use Rattle.readings.proofs.floats.least_tenth.Goals as goal

-- what the call returns; that the format holds the float is what owning an `f32` tells
is_least : (c : goal.After-div_ceil) → c.div_ceil.result ≡ least c.args.x
is_least c =
    let bits = to_bits binary32 c.args.x in
    let d = 150 - exponent bits in
    rw (c.from.ensures, one_shl d 32 (omega arith)) at c.div_ceil.ensures
    ∙ ceilings.by_parts (tenths_per_unit * (0x80_0000 + fraction bits)) (2 ^ d) (pow_pos d)
    ∙ sym (least_normal c.args.x (holds c.well_formed.0.1) (holds c.requires) (omega arith))

pub returns-then-magnitude-eq0 : goal.returns-then-magnitude-eq0
returns-then-magnitude-eq0 c = ap tenths (sym (least_nothing c.args.x (holds c.well_formed.0.1) (holds c.requires) c.if-magnitude-eq0.true))

pub returns-else-magnitude-eq0 : goal.returns-else-magnitude-eq0
returns-else-magnitude-eq0 c =
    ap tenths
    (sym
    (least_tiny c.args.x (holds c.well_formed.0.1) (holds c.requires) c.if-magnitude-lt-BITS_OF_A_128TH.true c.if-magnitude-eq0.false))

pub overflow_sub-exponent : goal.overflow_sub-exponent
overflow_sub-exponent c = omega (arith, exponent_top c.args.x (holds c.well_formed.0.1) (holds c.requires) (omega arith))

pub overflow_cast-result : goal.overflow_cast-result
overflow_cast-result c =
    let b : least c.args.x ≤ tenths_per_unit * 1000 = least_top c.args.x (holds c.requires) in
    omega (arith, is_least c)

pub returns : goal.returns
returns c = ap tenths (is_least c)
