-- Request 2026-05, "Offered current that moves": its claims over every list of calls. Definitions only.
use Rattle.std.specs.Prelude.{cond, List, ◌≡◌, ℕ, suc, ◌≤◌, ◌<◌, get_or, length}
use Rattle.common.specs.Tests.{between}
use Rattle.little_endian.specs.Numbers.{byte_at}
use Rattle.lead.specs.Power.{wanted, offered}
use Rattle.post.specs.Heads.{output_part}
use Rattle.post.specs.Rules.{decided_at, level_after}
use Rattle.post.specs.declared.head.Head.{Head}
use Rattle.safety.specs.Lists.{Tick}
use Rattle.safety.specs.Demand3.{no_tick, inputs_at, command_at, leads_before, phase_at}

-- The list, as demand 3 has it: what setup fixed, and the ticks that returned 0. Ticks and leads are numbered from 0.
module _ (h : Head) (ticks : List Tick) where
  -- "byte 3" of the lead's H'108, whose first byte is the output's byte 8
  abbrev pub offer_at : ℕ → ℕ → ℕ
  offer_at t k = byte_at (output_part (get_or ticks t no_tick).output k) 11

  -- what the lead wants in the tick, in amperes, by the rules for the list's setup and inputs
  abbrev pub wanted_amperes_at : ℕ → ℕ → ℕ
  wanted_amperes_at t k = wanted h.ratings (decided_at h (inputs_at h ticks t) (leads_before h ticks t) k)

  -- what the rules offer it "with this tick's level": "in phase 6 … the smaller of rated amperes and level ÷ threshold rounded down …;
  -- elsewhere the rated amperes"
  abbrev pub ruled_offer_at : ℕ → ℕ → ℕ
  ruled_offer_at t k = offered h.ratings (level_after h (inputs_at h ticks t) (leads_before h ticks t)) (leads_before h ticks (suc t) k)

  pub record Offers : Type 0 where
    -- "Frames are compared with this byte 3 from then on": it is that while frames are sent, in phases 1 to 9, else 0
    pub offered_is :
        (t k : ℕ) → t < length ticks → k < h.leads → offer_at t k ≡ cond (between 1 9 (phase_at h ticks t k)) (ruled_offer_at t k) 0
    -- "No lead is ever commanded above its own byte 3": in phases 0 and 10, where no frame is sent, both are 0
    pub never_above : (t k : ℕ) → t < length ticks → k < h.leads → command_at h ticks t k ≤ offer_at t k
    -- "one in phase 6", after the tick, "that wants more amperes is commanded exactly it."
    pub exactly :
        (t k : ℕ)
        → t < length ticks
        → k < h.leads
        → phase_at h ticks t k ≡ 6
        → offer_at t k < wanted_amperes_at t k
        → command_at h ticks t k ≡ offer_at t k
