-- Request 2026-03: what it says of the way, over any number of wants and any limit, and some ways worked out. That the code takes these steps
-- and no others is read from its loop; that it comes to their level is its contract. Definitions only.
use Rattle.std.specs.Prelude.{cond, List, [], ◌∷◌, ◌≡◌, ℕ, suc, ◌-◌, ◌≤◌, ◌<◌, eqb, length, get_or}
use Rattle.sharing.specs.Level.{want_of, sum, level_of, one_if_any}
use Rattle.sharing.specs.Way.{in_order, takers, carried_after, step_of, way, level_found}
use Rattle.sharing.specs.declared.Step.{Step}
use Rattle.sharing.specs.declared.Step.TheVariants.{Met, Last}

-- how often a want is among wants
abbrev pub times_in : List ℕ → ℕ → ℕ
times_in wants want = sum (length wants) (λ k. cond (eqb (want_of wants k) want) 1 0)

-- "the wants taken smallest first": the same wants, each as often as before, and none above its next
pub record JustOrdered (wants order : List ℕ) : Type 0 where
  pub same_wants : (want : ℕ) → times_in order want ≡ times_in wants want
  pub none_above_next : (k : ℕ) → suc k < length order → want_of order k ≤ want_of order (suc k)

abbrev pub SmallestFirst : Type 0
SmallestFirst = (wants : List ℕ) → JustOrdered wants (in_order wants)

-- step n over wants that take one: the next of them, with those not yet met and the watts carried till then
abbrev pub step_in_turn : List ℕ → ℕ → ℕ → Step
step_in_turn order limit n = step_of (want_of order n) (length order - n) (carried_after n order limit)

-- "from the wants taken smallest first": each step takes the next of the wants in order that are above 0, and either meets it in full or is the
-- last and gives the level (`step_of`). Steps are counted from 0.
abbrev pub EachInTurn : Type 0
EachInTurn =
    (wants : List ℕ) (limit n : ℕ)
    → n < length (way (in_order wants) limit)
    → get_or (way (in_order wants) limit) n (Last 0) ≡ step_in_turn (takers (in_order wants)) limit n

-- "in at most one step a lead": no more steps than wants above 0
abbrev pub OneStepALead : Type 0
OneStepALead = (wants : List ℕ) (limit : ℕ) → length (way (in_order wants) limit) ≤ sum (length wants) (λ k. one_if_any (want_of wants k))

-- "The watts carried along are, after each step, the allowance less the wants met in full so far": a step that is not the last meets the next
-- want in order, and the wants met are together within the allowance. Past the end the list gives `Last 0`, of which nothing is said.
pub record Carries (order : List ℕ) (limit n want carried : ℕ) : Type 0 where
  pub next : want ≡ want_of order n
  pub less_met : carried ≡ carried_after (suc n) order limit
  pub within : sum (suc n) (want_of order) ≤ limit

abbrev pub CarriedAlong : Type 0
CarriedAlong =
    (wants : List ℕ) (limit n want carried : ℕ)
    → get_or (way (in_order wants) limit) n (Last 0) ≡ Met want carried
    → Carries (takers (in_order wants)) limit n want carried

-- "Every level and command remains what it is today": the level does, and commands follow from it by rules that know nothing of the way
abbrev pub LevelRemains : Type 0
LevelRemains = (wants : List ℕ) (limit : ℕ) → level_found (way (in_order wants) limit) limit ≡ level_of (length wants) (want_of wants) limit

-- wants, a limit, and the steps and the level that they come to
pub record Worked : Type 0 where
  pub wants : List ℕ
  pub limit : ℕ
  pub steps : List Step
  pub level : ℕ

-- Document 01's cases of the level ("Wants 10,000 and 60,000, allowance 50,000" and so on), and three of four wants: all just met, one watt
-- short of that, and with two that take no step.
abbrev pub worked_ways : List Worked
worked_ways =
    record { wants = 10000 ∷ 60000 ∷ []; limit = 50000; steps = Met 10000 40000 ∷ Last 40000 ∷ []; level = 40000 }
    ∷ record { wants = 60000 ∷ 60000 ∷ []; limit = 50001; steps = Last 25000 ∷ []; level = 25000 }
    ∷ record { wants = 0 ∷ 0 ∷ []; limit = 7; steps = []; level = 7 }
    ∷ record { wants = 100 ∷ 100 ∷ 100 ∷ []; limit = 200; steps = Last 66 ∷ []; level = 66 }
    ∷ record { wants = 10000 ∷ 60000 ∷ []; limit = 0; steps = Last 0 ∷ []; level = 0 }
    ∷ record { wants = 4 ∷ 2 ∷ 3 ∷ 1 ∷ []; limit = 10; steps = Met 1 9 ∷ Met 2 7 ∷ Met 3 4 ∷ Met 4 0 ∷ []; level = 10 }
    ∷ record { wants = 4 ∷ 2 ∷ 3 ∷ 1 ∷ []; limit = 9; steps = Met 1 8 ∷ Met 2 6 ∷ Met 3 3 ∷ Last 3 ∷ []; level = 3 }
    ∷ record { wants = 0 ∷ 7 ∷ 0 ∷ 5 ∷ []; limit = 10; steps = Met 5 5 ∷ Last 5 ∷ []; level = 5 }
    ∷ []
