-- Records of one size that stand one after another in a list of bytes. Definitions only.
use Rattle.std.specs.Prelude.{Bool, true, ◌&&◌, List, [], ◌++◌, ℕ, zero, suc, ◌+◌, ◌*◌, take, drop}

-- record k, after a head of some bytes
abbrev pub part : ℕ → ℕ → ℕ → List ℕ → List ℕ
part head size k bytes = take size (drop (head + size * k) bytes)

-- record 0 to record n - 1, one after the other
unfoldable pub joined : ℕ → (ℕ → List ℕ) → List ℕ
joined zero f = []
joined (suc n) f = joined n f ++ f n

-- a test at 0 to n - 1
unfoldable pub every : ℕ → (ℕ → Bool) → Bool
every zero f = true
every (suc n) f = every n f && f n
