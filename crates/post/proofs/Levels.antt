-- The level of a post with fewer leads than places. Assumes nothing.
use mathlib.Core.Path.{◌≡◌, ◌∙◌}
use Prim.Native.Nat.{ℕ, ◌≤◌, ◌<◌}
use Rattle.sharing.specs.Level.{places, level_of}
use Rattle.sharing.proofs.Laws.{level_fewer, level_same}

-- the other places want nothing
pub level_of_leads :
    (n : ℕ) (wants v : ℕ → ℕ) (limit : ℕ)
    → n ≤ places
    → ((k : ℕ) → k < n → v k ≡ wants k)
    → ((k : ℕ) → n ≤ k → v k ≡ 0)
    → level_of places v limit ≡ level_of n wants limit
level_of_leads n wants v limit few agree none = level_fewer n places v limit few none ∙ level_same n v wants limit agree
