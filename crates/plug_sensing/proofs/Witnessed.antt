-- The lists, computed: each call's number, and what it leaves in the plug. Assumes nothing.
use mathlib.Core.List.{List, [], ◌∷◌, map}
use mathlib.Core.Path.{◌≡◌, refl}
use Prim.Native.Nat.{ℕ}
use Rattle.plug_sensing.specs.Calls.{fresh_state}
use Rattle.plug_sensing.specs.All.{plug_rules}
use Rattle.plug_sensing.specs.Lists.{Call, answers, accepted_values}
use Rattle.plug_sensing.specs.Witness.{switch_opens, not_just_after, ends, refused_between}

abbrev told : List Call → List (List ℕ)
told calls = map (λ a. a.number ∷ a.plug) (answers fresh_state calls)

-- carried out: closed and open
abbrev closed : List ℕ
closed = 0 ∷ 1 ∷ []

abbrev opened : List ℕ
opened = 0 ∷ 0 ∷ []

-- closed, refused, closed, open
pub switch_opens_lem : told switch_opens ≡ closed ∷ (31 ∷ 7 ∷ []) ∷ closed ∷ opened ∷ []
unfolding plug_rules
switch_opens_lem = refl

pub switch_opens_values : accepted_values fresh_state switch_opens ≡ 4000 ∷ 6000 ∷ 6000 ∷ []
unfolding plug_rules
switch_opens_values = refl

-- nothing but the lowest range is closed
pub not_just_after_lem :
    told not_just_after
    ≡ opened ∷ closed ∷ opened ∷ opened ∷ closed ∷ opened ∷ opened ∷ closed ∷ opened ∷ opened ∷ closed ∷ opened ∷ opened ∷ closed ∷ opened
    ∷ opened ∷ []
unfolding plug_rules
not_just_after_lem = refl

pub ends_belong :
    told ends
    ≡ opened ∷ closed ∷ closed ∷ opened ∷ closed ∷ opened ∷ closed ∷ closed ∷ closed ∷ closed ∷ closed ∷ opened ∷ []
unfolding plug_rules
ends_belong = refl

-- the last is closed, as the value before it is the lowest one
pub refused_between_lem : told refused_between ≡ closed ∷ (8 ∷ []) ∷ (8 ∷ 7 ∷ 7 ∷ []) ∷ (31 ∷ 7 ∷ []) ∷ closed ∷ []
unfolding plug_rules
refused_between_lem = refl
