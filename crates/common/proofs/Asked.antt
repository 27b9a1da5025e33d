-- A question that a call asks with `unless(..)?`: what is known where the call goes on, and where it stops. Assumes nothing.
use mathlib.Core.Bool.{Bool, true, false, cond}
use mathlib.Core.Path.{◌≡◌, refl, sym, subst, ap, ◌∙◌}
use Rattle.std.specs.Prelude.{Result, Ok, Err, ⊤, MatchResult}
use Rattle.std.specs.Result.{IsErrAnd}

module _ {R : Type 0} where
  -- a call that stops hands on the refusal that it was handed
  pub handed_on : {refusal : R} (out : Result ⊤ R) → IsErrAnd out (λ r. r ≡ refusal) → out ≡ Err refusal
  handed_on (Ok done) e = absurd e
  handed_on (Err r) e = ap Err e

  module _ (met : Bool) (refusal : R) where
    abbrev answer : Result ⊤ R
    answer = cond met (Ok tt) (Err refusal)

    abbrev Says : Result ⊤ R → Type 0
    Says r = MatchResult r (λ done. met ≡ true) (λ r. (met ≡ false) × (r ≡ refusal))

  says : (met : Bool) (refusal : R) → Says met refusal (answer met refusal)
  says true refusal = refl
  says false refusal = (refl, refl)

  module _ (met : Bool) (refusal : R) {asked : Result ⊤ R} (e : asked ≡ answer met refusal) where
    answered : (r : Result ⊤ R) → asked ≡ r → Says met refusal r
    answered r was = subst (Says met refusal) (sym e ∙ was) (says met refusal)

    pub yes : {done : ⊤} → asked ≡ Ok done → met ≡ true
    yes {done = done} was = answered (Ok done) was

    -- the answer was no, and the call ends with this refusal
    pub no : {r : R} (out : Result ⊤ R) → asked ≡ Err r → IsErrAnd out (λ o. o ≡ r) → (met ≡ false) × (out ≡ Err refusal)
    no {r = r} out was stopped =
        let a : (met ≡ false) × (r ≡ refusal) = answered (Err r) was in
        (a.0, handed_on out stopped ∙ ap Err a.1)

    -- the answer was no, where the question alone is looked at
    pub turned_down : {r : R} → asked ≡ Err r → (met ≡ false) × (r ≡ refusal)
    turned_down {r = r} was = answered (Err r) was
