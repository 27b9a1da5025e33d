-- The commands of a tick stay within the allowance, and each lead gets at least what its want or an equal part carries. Assumes nothing.
use mathlib.Core.List.{List}
use Prim.Native.Nat.{ℕ, zero, suc, ◌*◌, ◌/◌, ◌≤◌, min}
use native.Mathlib.Nat.{le_trans, div-zero, div-mul-le_self, le-div_iff_mul-le}
use native.Mathlib.Omega.{arith}
use Rattle.sharing.specs.Level.{sum, equal_part}
use Rattle.sharing.proofs.Sums.{sum_le}
use Rattle.sharing.proofs.Laws.{total_is, level_fits, level_shares}
use Rattle.lead.specs.declared.state.Lead.{Lead}
use Rattle.lead.proofs.Commands.{command_threshold, command_is, command_watts}
use Rattle.post.specs.Rules.{decided_at, level_after, lead_after}
use Rattle.post.specs.declared.head.Head.{Head}
use Rattle.safety.specs.Lists.{Tick}
use Rattle.safety.specs.Demand3 as demand
use Rattle.safety.specs.Demand3.{leads_before, threshold_at, want_at, limit_at}
use Rattle.safety.proofs.Steps.{level_at, command}

quotients_grow : (d m n : ℕ) → m ≤ n → m / d ≤ n / d
quotients_grow zero m n h = rw (div-zero m) (omega arith)
quotients_grow (suc d) m n h = (le-div_iff_mul-le {k = suc d} (omega arith)).1 (le_trans (div-mul-le_self m (suc d)) h)

module _ (h : Head) (ticks : List Tick) (t : ℕ) where
  abbrev level : ℕ
  level = level_at h ticks t

  abbrev decided : ℕ → Lead
  decided k = decided_at h (demand.inputs_at h ticks t) (leads_before h ticks t) k

  carried : (k : ℕ) → command h ticks k t * threshold_at h ticks t k ≤ min (want_at h ticks t k) level
  unfolding lead_after
  carried k = rw (command_threshold h.ratings level (decided k)) (command_watts h.ratings level (decided k))

  pub allowance : sum h.leads (λ k. command h ticks k t * threshold_at h ticks t k) ≤ limit_at h ticks t
  unfolding level_after
  allowance =
      omega (
        arith,
        sum_le h.leads (λ k. command h ticks k t * threshold_at h ticks t k) (λ k. min (want_at h ticks t k) level) (λ k x. carried k),
        total_is h.leads (want_at h ticks t) level,
        level_fits h.leads (want_at h ticks t) (limit_at h ticks t),
      )

  -- a lead gets what its want or any part up to the level carries, whichever is less
  pub share : (k part : ℕ) → part ≤ level → min (want_at h ticks t k) part / threshold_at h ticks t k ≤ command h ticks k t
  unfolding lead_after
  share k part x =
      rw (command_threshold h.ratings level (decided k), command_is h.ratings level (decided k))
      (quotients_grow (decided k).threshold (min (want_at h ticks t k) part) (min (want_at h ticks t k) level) (omega arith))

  pub equal_part_lem : equal_part h.leads (want_at h ticks t) (limit_at h ticks t) ≤ level
  unfolding level_after
  equal_part_lem = level_shares h.leads (want_at h ticks t) (limit_at h ticks t)
