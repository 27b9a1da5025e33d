-- Document 01, 'Dividing the allowance': the level and an equal part. Definitions only. Document 01's allowance is the limit here.
use Rattle.std.specs.Prelude.{Bool, cond, List, ℕ, zero, suc, ◌+◌, ◌/◌, min, leb, get_or}

-- as many as may want power at once
abbrev pub places : ℕ
places = 4

-- wants are a function from the place; a list's are 0 past its end
abbrev pub want_of : List ℕ → ℕ → ℕ
want_of wants k = get_or wants k 0

-- f 0 + .. + f (n - 1)
abbrev pub sum : ℕ → (ℕ → ℕ) → ℕ
sum zero f = 0
sum (suc n) f = sum n f + f n

-- "the sum of the smaller of want and level"
unfoldable pub total_at : ℕ → (ℕ → ℕ) → ℕ → ℕ
total_at n wants level = sum n (λ k. min (wants k) level)

abbrev pub fits : ℕ → (ℕ → ℕ) → ℕ → ℕ → Bool
fits n wants limit level = leb (total_at n wants level) limit

-- the largest number from 0 to top that passes a test, 0 where none does
abbrev pub largest : (ℕ → Bool) → ℕ → ℕ
largest test zero = 0
largest test (suc top) = cond (test (suc top)) (suc top) (largest test top)

-- "The level is the largest whole number from 0 to the allowance at which the sum of the smaller of want and level is at most the allowance."
unfoldable pub level_of : ℕ → (ℕ → ℕ) → ℕ → ℕ
level_of n wants limit = largest (fits n wants limit) limit

-- 1 for a want above 0
abbrev pub one_if_any : ℕ → ℕ
one_if_any zero = 0
one_if_any (suc want) = 1

-- "An equal part is the allowance divided by the number of leads with a want above 0, rounded down, and 0 where there is no such lead": a number divided by 0 is 0 here
unfoldable pub equal_part : ℕ → (ℕ → ℕ) → ℕ → ℕ
equal_part n wants limit = limit / sum n (λ k. one_if_any (wants k))
