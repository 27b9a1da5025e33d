-- Call by call, the bytes follow the rules. Assumes nothing.
use mathlib.Core.List.{List, [], ◌∷◌}
use mathlib.Core.Path.{◌≡◌, refl, ap, ◌∙◌}
use mathlib.Core.Bool.{false}
use Prim.Native.Nat.{ℕ, zero, suc}
use lib.Dec.{eqb-suc-zero}
use lib.ListN.{length}
use borrow.Author.Tests.{eq-eqb}
use Rattle.common.specs.Refusals.{refusal_of, done_unless}
use Rattle.common.proofs.Bools.{holds}
use Rattle.lead.specs.declared.state.Lead.{Lead}
use Rattle.post.specs.Rules.{tick_input}
use Rattle.post.specs.Refusals.{setup_rows, good_post, input_rows}
use Rattle.post.specs.Calls.{setup_of}
use Rattle.post.specs.declared.head.Head.{Head}
use Rattle.post.proofs.Taken.{setup_head}
use Rattle.post.proofs.Posts.{Sound, fresh_sound}
use Rattle.post.proofs.RuledTicks.{sound_stays, tick_is, tick_unusable}
use Rattle.safety.specs.Lists.{Call, setup, tick, Outcome, outcome, outcomes}
use Rattle.safety.specs.Trace.{Kept, post, unusable, kept_bytes, ruled, outcome_of, trace}

-- what the rules keep is what the bytes stand for
abbrev pub SoundKept : Kept → Type 0
SoundKept (post h leads) = Sound h leads
SoundKept (unusable bytes) = good_post bytes ≡ false

-- one call: the same outcome, and sound again
pub record Follows (kept : Kept) (call : Call) : Type 0 where
  pub same : outcome (kept_bytes kept) call ≡ outcome_of (ruled kept call)
  pub sound : SoundKept (ruled kept call).kept

module _ (kept : Kept) (s : SoundKept kept) (h : Head) (buffer : List ℕ) where
  setup_follows : Follows kept (setup h buffer)
  unfolding outcome ruled setup_of done_unless
  setup_follows = go (refusal_of (setup_rows h (length buffer))) refl
    where
      go : (n : ℕ) → refusal_of (setup_rows h (length buffer)) ≡ n → Follows kept (setup h buffer)
      go zero e = record { same = rw e; sound = rw e (fresh_sound h (holds (eq-eqb _ _ (setup_head h (length buffer) e)))) }
      go (suc n) e = record { same = rw (e, eqb-suc-zero n); sound = rw e s }

module _ (h : Head) (leads : ℕ → Lead) (s : Sound h leads) (input output : List ℕ) where
  tick_follows : Follows (post h leads) (tick input output)
  unfolding outcome ruled done_unless
  tick_follows = go (refusal_of (input_rows h.leads input (length output))) refl
    where
      go : (n : ℕ) → refusal_of (input_rows h.leads input (length output)) ≡ n → Follows (post h leads) (tick input output)
      go zero e = record { same = rw (tick_is h input leads s output, e); sound = rw e (sound_stays h (tick_input input) leads s) }
      go (suc n) e = record { same = rw (tick_is h input leads s output, e); sound = rw e s }

pub follows : (kept : Kept) → SoundKept kept → (call : Call) → Follows kept call
unfolding outcome ruled
follows kept s (setup h buffer) = setup_follows kept s h buffer
follows (post h leads) s (tick input output) = tick_follows h leads s input output
follows (unusable bytes) s (tick input output) = record { same = rw (tick_unusable bytes input output s); sound = s }

pub all_follow : (kept : Kept) → SoundKept kept → (calls : List Call) → outcomes (kept_bytes kept) calls ≡ trace kept calls
unfolding outcomes trace
all_follow kept s [] = refl
all_follow kept s (call ∷ calls) =
    let f : Follows kept call = follows kept s call in
    ap (λ (a : Outcome). a ∷ outcomes a.state calls) f.same
    ∙ ap (λ (l : List Outcome). outcome_of (ruled kept call) ∷ l) (all_follow (ruled kept call).kept f.sound calls)
