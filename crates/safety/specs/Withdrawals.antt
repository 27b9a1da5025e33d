-- Request 2026-06, "When the car both withdraws and says so": when a lead shows 23 and when 14, over every list of calls. Definitions only.
use Rattle.std.specs.Prelude.{not, List, ◌≡◌, ℕ, ◌<◌, T, get_or, length}
use Rattle.common.specs.Tests.{between}
use Rattle.little_endian.specs.Numbers.{byte_at}
use Rattle.lead.specs.Questions.{revokes}
use Rattle.post.specs.Heads.{output_part}
use Rattle.post.specs.declared.head.Head.{Head}
use Rattle.safety.specs.Lists.{Tick}
use Rattle.safety.specs.Demand3.{no_tick, command_at, phase_before, phase_at, contacts_at, status_at, Withdraws}

-- The list, as demand 3 has it: what setup fixed, and the ticks that returned 0. Ticks and leads are numbered from 0.
module _ (h : Head) (ticks : List Tick) where
  -- the reason that the lead shows: byte 1 of its output
  abbrev pub reason_at : ℕ → ℕ → ℕ
  reason_at t k = byte_at (output_part (get_or ticks t no_tick).output k) 1

  -- "with command 0 and phase 9"
  pub record CutOff (t k reason : ℕ) : Type 0 where
    pub phase : phase_at h ticks t k ≡ 9
    pub command : command_at h ticks t k ≡ 0
    pub shown : reason_at t k ≡ reason

  -- the tick stops the lead from phases 2 to 6 into 9
  abbrev pub StopsInto9 : ℕ → ℕ → Type 0
  StopsInto9 t k = T (between 2 6 (phase_before h ticks t k)) × (phase_at h ticks t k ≡ 9)

  pub record Withdrawals : Type 0 where
    -- "the reason is 23 and no longer 14; … The lead still stops as urgent, with command 0 and phase 9."
    pub shows_23 : (t k : ℕ) → t < length ticks → k < h.leads → Withdraws h ticks t k → CutOff t k 23
    -- and a lead that is stopped so shows 23 only then
    pub only_then : (t k : ℕ) → t < length ticks → k < h.leads → StopsInto9 t k → reason_at t k ≡ 23 → Withdraws h ticks t k
    -- one that shows 14 after a tick that began in 2 to 6 had its permission open in it, and no H'102 counted with enabled clear
    pub shows_14 :
        (t k : ℕ)
        → t < length ticks
        → k < h.leads
        → T (between 2 6 (phase_before h ticks t k))
        → reason_at t k ≡ 14
        → T (not (contacts_at h ticks t k).permission) × T (not (revokes (status_at h ticks t k)))
