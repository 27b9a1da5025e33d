-- Request 2026-01, "Kilowatt-hours by lead": its claim over every list of calls. Definitions only.
use Rattle.std.specs.Prelude.{List, ◌⊎◌, ◌≡◌, ℕ, suc, ◌+◌, ◌-◌, ◌*◌, ◌/◌, ◌≤◌, ◌<◌, min, get_or, length}
use Rattle.little_endian.specs.Numbers.{u16_at, u64_at}
use Rattle.sharing.specs.Level.{sum}
use Rattle.lead.specs.Figures.{most_energy}
use Rattle.post.specs.Heads.{state_part, output_part}
use Rattle.post.specs.declared.head.Head.{Head}
use Rattle.safety.specs.Lists.{Tick}
use Rattle.safety.specs.Demand3.{no_tick, command_at, Moves}

-- "too short to reach that value": setup takes at most 200 A and 500 V, so this many ticks do not reach it, some 584,000 years of them
abbrev pub short_list : ℕ
short_list = most_energy / (200 * 500)

-- The list, as demand 3 has it: what setup fixed, and the ticks that returned 0. Ticks and leads are numbered from 0.
module _ (h : Head) (ticks : List Tick) where
  -- the "count of watt-ticks in eight of the lead's … state bytes (20–27)", as the tick left them
  abbrev pub energy_at : ℕ → ℕ → ℕ
  energy_at t k = u64_at (state_part (get_or ticks t no_tick).state k) 20

  -- the threshold that the lead shows: bytes 4 and 5 of its H'108, whose first byte is the output's byte 8
  abbrev pub shown_threshold_at : ℕ → ℕ → ℕ
  shown_threshold_at t k = u16_at (output_part (get_or ticks t no_tick).output k) 12

  -- "command × threshold", both the output's
  abbrev pub watts_at : ℕ → ℕ → ℕ
  watts_at t k = command_at h ticks t k * shown_threshold_at t k

  -- "the sum over the outputs" from tick `first` through tick t
  abbrev pub sum_over : ℕ → ℕ → ℕ → ℕ
  sum_over first t k = sum (suc t - first) (λ n. watts_at (first + n) k)

  -- "the lead's start": of the ticks through t, the latest that moved it from 0 to 1
  pub record LatestStart (start t k : ℕ) : Type 0 where
    pub sofar : start ≤ t
    pub started : Moves h ticks start k 0 1
    pub latest : (u : ℕ) → start < u → u ≤ t → Moves h ticks u k 0 1 → ⊥

  -- no tick through t moved it so
  abbrev pub NeverStarted : ℕ → ℕ → Type 0
  NeverStarted t k = (u : ℕ) → u ≤ t → Moves h ticks u k 0 1 → ⊥

  pub record Energy : Type 0 where
    -- after every tick a lead has a latest start or was never started
    pub started_or_never : (t k : ℕ) → ((start : ℕ) × LatestStart start t k) ⊎ NeverStarted t k
    -- After every tick, "each count equals the sum over the outputs since the lead's start", and "stops at its largest value".
    pub counted :
        (t k start : ℕ) → t < length ticks → k < h.leads → LatestStart start t k → energy_at t k ≡ min (sum_over start t k) most_energy
    -- a lead that was never started has counted nothing
    pub never_started : (t k : ℕ) → t < length ticks → k < h.leads → NeverStarted t k → energy_at t k ≡ 0
    -- "For every list of ticks from a fresh post, too short to reach that value, each count equals the sum"
    pub too_short :
        length ticks ≤ short_list
        → (t k start : ℕ)
        → t < length ticks
        → k < h.leads
        → LatestStart start t k
        → energy_at t k ≡ sum_over start t k
