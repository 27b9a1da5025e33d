-- Request 2026-03: how the level is found, "in at most one step a lead, from the wants taken smallest first". `level_of` says what the level
-- is, and knows nothing of this. Definitions only. Document 02's allowance is the limit here.
use Rattle.std.specs.Prelude.{cond, List, [], ◌∷◌, ℕ, zero, suc, ◌+◌, ◌-◌, ◌/◌, min, max, leb, length}
use Rattle.sharing.specs.Level.{want_of, sum}
use Rattle.sharing.specs.declared.Step.{Step}
use Rattle.sharing.specs.declared.Step.TheVariants.{Met, Last}

-- a want put among wants in order: the smaller of it and the first stays in front, the larger goes on
unfoldable pub insert : ℕ → List ℕ → List ℕ
insert want [] = want ∷ []
insert want (next ∷ more) = min want next ∷ insert (max want next) more

-- "the wants taken smallest first"
unfoldable pub in_order : List ℕ → List ℕ
in_order [] = []
in_order (want ∷ more) = insert want (in_order more)

-- The wants above 0; only these take a step. A place that wants 0 is met with 0.
unfoldable pub takers : List ℕ → List ℕ
takers [] = []
takers (zero ∷ more) = takers more
takers (suc want ∷ more) = suc want ∷ takers more

-- "The watts carried along are, after each step, the allowance less the wants met in full so far": after n steps these are the first n of the
-- wants in order that take a step (`takers`). Over all wants in order n counts those of 0 too, which take nothing off. `-` stops at 0; that it
-- never has to is part of the claim (`Carries`).
unfoldable pub carried_after : ℕ → List ℕ → ℕ → ℕ
carried_after n order limit = limit - sum n (want_of order)

-- A step takes an equal part of the watts carried for each who is not yet met. It meets the next want in full where the part reaches it, and
-- carries on what is left; or it is the last, and the part is the level.
unfoldable pub step_of : ℕ → ℕ → ℕ → Step
step_of want unmet carried = cond (leb want (carried / unmet)) (Met want (carried - want)) (Last (carried / unmet))

-- a step and, if it is not the last, those that go on from what it carries
abbrev pub step_then : Step → (ℕ → List Step) → List Step
step_then (Met want carried) onward = Met want carried ∷ onward carried
step_then (Last level) onward = Last level ∷ []

-- The way: all steps over wants in order, with the watts carried at first. Not yet met are a want and those behind it, as wants of 0 stand
-- in front.
unfoldable pub way : List ℕ → ℕ → List Step
way [] carried = []
way (zero ∷ more) carried = way more carried
way (suc want ∷ more) carried = step_then (step_of (suc want) (length more + 1) carried) (way more)

-- the level that the last step gives; where all are met it is the limit itself
unfoldable pub level_found : List Step → ℕ → ℕ
level_found [] limit = limit
level_found (Met want carried ∷ more) limit = level_found more limit
level_found (Last level ∷ more) limit = level
