-- Once there is a post, the rules answer no call with 6. Assumes nothing.
use mathlib.Core.Bool.{Bool, true, false, not}
use mathlib.Core.List.{List, [], ◌∷◌}
use mathlib.Core.Path.{◌≡◌, refl}
use Prim.Native.Nat.{ℕ, zero, suc}
use native.Mathlib.Omega.{arith}
use lib.Dec.{T, T_not, eqb}
use lib.ListN.{length, get_or}
use borrow.Author.Tests.{eq-eqb}
use Rattle.common.specs.Refusals.{Asked, refusal_of, done_unless}
use Rattle.common.proofs.Bools.{holds}
use Rattle.common.proofs.Refused.{every_number, either_way, left_passes}
use Rattle.post.specs.Refusals.{head_rows, setup_rows, input_rows}
use Rattle.safety.specs.Lists.{Call, setup, tick, Outcome}
use Rattle.safety.specs.Trace.{Kept, post, unusable, Ruled, ruled, trace}

-- past the end of a list of outcomes
abbrev pub no_outcome : Outcome
no_outcome = record { number = 0; state = []; lent = [] }

abbrev pub is_post : Kept → Bool
is_post (post h leads) = true
is_post (unusable bytes) = false

-- what a call of a post leaves is a post again, and its number is not 6
record Numbered (r : Ruled) : Type 0 where
  again : T (is_post r.kept)
  other : r.number ≡ 6 → ⊥

abbrev other_than_6 : ℕ → Bool
other_than_6 n = not (eqb n 6)

module _ (rows : List Asked) (kept next : Kept) (lent shown : List ℕ) where
  abbrev refused : ℕ → Ruled
  refused n = record { number = n; kept = kept; lent = lent }

  abbrev done : Ruled
  done = record { number = 0; kept = next; lent = shown }

  abbrev left : Ruled
  left = done_unless (refusal_of rows) refused done

  numbered_by : T (every_number other_than_6 rows) → T (is_post kept) → T (is_post next) → Numbered left
  numbered_by t k n =
      record {
        again = either_way refused done (λ (r : Ruled). T (is_post r.kept)) (refusal_of rows) (λ x. k) (λ e. n);
        other =
            λ six.
            T_not (eqb left.number 6) (left_passes refused done (λ (r : Ruled). r.number) other_than_6 rows (λ m. refl) tt tt t)
            (holds (eq-eqb left.number 6 six));
      }

numbered : (kept : Kept) → T (is_post kept) → (call : Call) → Numbered (ruled kept call)
unfolding ruled setup_rows head_rows input_rows
numbered (unusable bytes) p call = absurd p
numbered (post h leads) p (setup other_head buffer) = numbered_by (setup_rows other_head (length buffer)) _ _ _ _ tt tt tt
numbered (post h leads) p (tick input output) = numbered_by (input_rows h.leads input (length output)) _ _ _ _ tt tt tt

pub trace_never_6 : (kept : Kept) → T (is_post kept) → (calls : List Call) (t : ℕ) → (get_or (trace kept calls) t no_outcome).number ≡ 6 → ⊥
unfolding trace
trace_never_6 kept p [] t six = omega arith
trace_never_6 kept p (call ∷ calls) zero six = (numbered kept p call).other six
trace_never_6 kept p (call ∷ calls) (suc t) six = trace_never_6 (ruled kept call).kept (numbered kept p call).again calls t six
