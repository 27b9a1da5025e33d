-- The texts and the allowances, computed, and the claims about them at work. Assumes nothing.
use mathlib.Core.Bool.{Bool, true, false, false≢true}
use mathlib.Core.List.Permᴰ
use mathlib.Core.List.{List, [], ◌∷◌}
use mathlib.Core.Logic.{inr}
use mathlib.Core.Path.{◌≡◌, refl}
use Prim.Native.Nat.{ℕ, zero, suc, ◌≤◌, ◌<◌}
use native.Mathlib.Omega.{arith}
use lib.Dec.{lit≤}
use Rattle.orders.specs.Lines.{lines_of}
use Rattle.orders.specs.Places.{places_of, no_orders}
use Rattle.orders.specs.Texts.{taken_of}
use Rattle.orders.specs.Allowances.{covers, allowance_of}
use Rattle.orders.specs.All.{orders_rules}
use Rattle.orders.specs.Claims.{SameAllowance, AsInText, place_at, Counts}
use Rattle.orders.specs.Witness.{texts, allowances, order, handed_in, nine_three, three_nine}
use Rattle.orders.proofs.Claimed.{any_order, round_trip, highest_counts, else_input}

-- the rows that do not hold, from 0
abbrev failing : ℕ → List Bool → List ℕ
failing i [] = []
failing i (true ∷ rows) = failing (suc i) rows
failing i (false ∷ rows) = i ∷ failing (suc i) rows

pub texts_hold : failing 0 texts ≡ []
unfolding texts orders_rules
texts_hold = refl

pub allowances_hold : failing 0 allowances ≡ []
unfolding allowances orders_rules
allowances_hold = refl

-- two lines exchanged, the last without its line feed: both texts are accepted, and order 9 counts, wherever it stands
pub exchanged : SameAllowance nine_three three_nine no_orders
unfolding orders_rules
exchanged = any_order nine_three no_orders (lines_of three_nine) three_nine refl (Permᴰ.swap refl refl) (inr refl)

pub nine_counts : (allowance_of (taken_of nine_three no_orders).orders 4 100 ≡ 5) × (allowance_of (taken_of three_nine no_orders).orders 4 100 ≡ 5)
unfolding orders_rules
nine_counts = (refl, refl)

pub kept_as_written : AsInText nine_three (taken_of nine_three no_orders).orders
unfolding orders_rules
kept_as_written = round_trip nine_three no_orders refl

-- four places, of which three cover tick 4: the second has the highest number, and is before the third, which has it too
abbrev there : List ℕ
there = handed_in (order 1 0 9 7 ∷ order 5 4 4 8 ∷ order 5 0 9 9 ∷ order 6 0 3 1 ∷ [])

pub second_counts : Counts 4 (places_of there) 1
unfolding orders_rules
second_counts = record { inside = lit≤ tt; covered = refl; highest = none-higher; earliest = below }
  where
    none-higher : (j : ℕ) → j < 4 → covers 4 (place_at (places_of there) j) ≡ true → (place_at (places_of there) j).number ≤ 5
    none-higher zero h e = lit≤ tt
    none-higher (suc zero) h e = lit≤ tt
    none-higher (suc (suc zero)) h e = lit≤ tt
    none-higher (suc (suc (suc zero))) h e = absurd (false≢true e)
    none-higher (suc (suc (suc (suc j)))) h e = absurd (omega arith)

    below : (j : ℕ) → j < 1 → covers 4 (place_at (places_of there) j) ≡ true → (place_at (places_of there) j).number < 5
    below zero h e = lit≤ tt
    below (suc j) h e = absurd (omega arith)

-- so it gives the allowance; and tick 10, which none of them covers, has the input's
pub second_gives : (watts : ℕ) → allowance_of there 4 watts ≡ 8
unfolding orders_rules
second_gives watts = highest_counts there 4 watts 1 second_counts

pub input_gives : (watts : ℕ) → allowance_of there 10 watts ≡ watts
unfolding orders_rules
input_gives watts = else_input there 10 watts none-there
  where
    none-there : (k : ℕ) → k < 4 → covers 10 (place_at (places_of there) k) ≡ false
    none-there zero h = refl
    none-there (suc zero) h = refl
    none-there (suc (suc zero)) h = refl
    none-there (suc (suc (suc zero))) h = refl
    none-there (suc (suc (suc (suc k)))) h = absurd (omega arith)
