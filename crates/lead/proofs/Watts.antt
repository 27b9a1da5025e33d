-- Amperes times volts, and back. Assumes nothing.
use mathlib.Core.Bool.{Bool, true, false}
use mathlib.Core.Path.{◌≡◌, refl, sym, ◌∙◌}
use Prim.Native.Nat.{ℕ, zero, suc, ◌*◌, ◌/◌, ◌≤◌, ◌<◌, min}
use native.Mathlib.Nat.{mul_comm, div-zero, div-le_of_le-mul, le-div_iff_mul-le, mul-div_cancel, min-eq_left}
use native.Mathlib.Nat.{mul-le-mul}
use native.Mathlib.Omega.{arith}
use lib.Dec.{leb}
use borrow.Author.Tests.{leb-true, leb-false}

pub watts_fit : (amperes volts : ℕ) → amperes ≤ 255 → volts ≤ 65535 → amperes * volts < 4294967296
watts_fit amperes volts a v = let h : amperes * volts ≤ 255 * 65535 = mul-le-mul a v in omega arith

module _ (amperes volts level : ℕ) where
  pub met : (volts ≡ 0 → ⊥) → amperes * volts ≤ level → amperes ≡ min (amperes * volts) level / volts
  met n h = rw (min-eq_left h) (sym (mul-div_cancel amperes (omega arith)))

  pub unmet : level < amperes * volts → level / volts ≡ min (amperes * volts) level / volts
  unmet h = let e : min (amperes * volts) level ≡ level = omega arith in rw e

  pub unmet_most : level < amperes * volts → level / volts ≤ amperes
  unmet_most h = div-le_of_le-mul volts (omega (arith, mul_comm amperes volts))

-- what the smaller of a want and a level carries is the smaller of that want and what the level carries
pub carried_is : (amperes volts level : ℕ) → min (amperes * volts) level / volts ≡ min amperes (level / volts)
carried_is amperes zero level = rw (div-zero (min (amperes * 0) level), div-zero level) (omega arith)
carried_is amperes (suc v) level = go (leb (amperes * suc v) level) refl
  where
    go : (b : Bool) → leb (amperes * suc v) level ≡ b → min (amperes * suc v) level / suc v ≡ min amperes (level / suc v)
    go true e =
        let enough : amperes * suc v ≤ level = leb-true _ _ e in
        let most : amperes ≤ level / suc v = (le-div_iff_mul-le {k = suc v} (omega arith)).1 enough in
        sym (met amperes (suc v) level (omega arith) enough) ∙ omega arith
    go false e =
        let short : level < amperes * suc v = leb-false _ _ e in
        let most : level / suc v ≤ amperes = unmet_most amperes (suc v) level short in
        sym (unmet amperes (suc v) level short) ∙ omega arith
