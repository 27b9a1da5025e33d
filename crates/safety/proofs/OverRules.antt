-- Demand 3, of every list whose outputs show the commands that the rules give. Assumes nothing.
use mathlib.Core.List.{List}
use mathlib.Core.Path.{◌≡◌, refl, sym, ◌∙◌}
use Prim.Native.Nat.{ℕ, zero, suc, ◌*◌, ◌≤◌, ◌<◌}
use native.Mathlib.Nat.{le_trans}
use native.Mathlib.Omega.{arith}
use lib.ListN.{length}
use Rattle.sharing.proofs.Sums.{sum_le}
use Rattle.post.specs.declared.head.Head.{Head}
use Rattle.safety.specs.Lists.{Tick}
use Rattle.safety.specs.Demand3.{command_at, leads_before, threshold_at, command_before, Zeroed, Demand3}
use Rattle.safety.proofs.Closed.{stayed_closed}
use Rattle.safety.proofs.Raises.{raises_only}
use Rattle.safety.proofs.Shares.{allowance, share, equal_part_lem}
use Rattle.safety.proofs.Zeros.{FallsSilent, cut_off, silent_at_once, silent_later, stays_silent}
use Rattle.safety.proofs.Withdrawals.{stops_urgently, gets_no}

-- of what setup accepts, only the bound on rated amperes is used
module _
    (h : Head) (ticks : List Tick) (rated : h.ratings.amperes ≤ 200)
    (shown : (t k : ℕ) → t < length ticks → k < h.leads → command_at h ticks t k ≡ (leads_before h ticks (suc t) k).command) where
  before_is : (t k : ℕ) → t < length ticks → k < h.leads → command_before h ticks t k ≡ (leads_before h ticks t k).command
  before_is zero k x y = refl
  before_is (suc t) k x y = shown t k (omega arith) y

  zeroed : (t latest k : ℕ) → k < h.leads → FallsSilent h ticks k t latest → Zeroed h ticks t latest k
  zeroed t latest k y silent =
      record {
        tick = silent.tick;
        from = silent.from;
        by = silent.by;
        zeroed = λ x. rw (shown silent.tick k x y) silent.zeroed;
      }

  pub demand_3_of : Demand3 h ticks
  demand_3_of =
      record {
        stayed_closed = λ t k x y c. stayed_closed h ticks k t (omega (arith, shown t k x y));
        raises_only = λ t k x y r. rw (shown t k x y) (raises_only h ticks k t (omega (arith, shown t k x y, before_is t k x y)));
        allowance =
            λ t x.
            le_trans
            (sum_le h.leads _ (λ k. (leads_before h ticks (suc t) k).command * threshold_at h ticks t k)
            (λ k y. rw (shown t k x y) (omega arith)))
            (allowance h ticks t);
        share = λ t k x y w. rw (shown t k x y) (share h ticks t k _ (omega (arith, equal_part_lem h ticks t)));
        zero_at_once = λ t k n x y u said. zeroed t t k y (silent_at_once h ticks k t n said u);
        zero_at_urgent_stop = λ t k reason x y stop. zeroed t t k y (cut_off h ticks k t (rw stop tt));
        withdrawal_is_urgent = λ t k x y w. (stops_urgently h ticks t k w, gets_no h ticks t k w);
        zero_by_the_20th = λ t k n x y said. zeroed t _ k y (silent_later h ticks k t n said _ (omega arith));
        stays_zero =
            λ t k n x y said u v a z b w.
            rw (shown v k w y) (stays_silent h ticks k t n said u v a (sym (shown u k (omega arith) y) ∙ z) b);
      }
