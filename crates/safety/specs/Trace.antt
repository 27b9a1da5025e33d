-- What the rules in force give for a list of calls: their own trace. From an accepted setup on it starts at fresh leads, and is worked out from
-- the setup's numbers and the raw inputs alone: it knows nothing of `setup_of`, `tick_of` or the bytes that these leave. Definitions only.
use Rattle.std.specs.Prelude.{cond, List, [], ◌∷◌, ℕ, length}
use Rattle.common.specs.Refusals.{refusal_of, done_unless}
use Rattle.lead.specs.Leads.{fresh}
use Rattle.lead.specs.declared.state.Lead.{Lead}
use Rattle.post.specs.Heads.{head_of}
use Rattle.post.specs.Rules.{tick_input, lead_after, shown_after, post_bytes}
use Rattle.post.specs.Refusals.{setup_rows, good_post, input_rows}
use Rattle.post.specs.Calls.{leads_of}
use Rattle.post.specs.declared.head.Head.{Head}
use Rattle.safety.specs.Lists.{Call, setup, tick, Outcome}

-- what the rules keep from call to call: a post, or, until a setup is accepted, bytes that are no good state
pub data Kept : Type 0 where
  post : Head → (ℕ → Lead) → Kept
  unusable : List ℕ → Kept

abbrev pub kept_bytes : Kept → List ℕ
kept_bytes (post h leads) = post_bytes h leads
kept_bytes (unusable bytes) = bytes

-- what a call returns and leaves, by the rules
pub record Ruled : Type 0 where
  pub number : ℕ
  pub kept : Kept
  pub lent : List ℕ

-- an accepted setup begins anew with fresh leads
unfoldable pub ruled : Kept → Call → Ruled
ruled kept (setup h buffer) =
    done_unless (refusal_of (setup_rows h (length buffer))) (λ n. record { number = n; kept = kept; lent = buffer })
    (record { number = 0; kept = post h (λ k. fresh); lent = post_bytes h (λ k. fresh) })
ruled (post h leads) (tick input output) =
    done_unless (refusal_of (input_rows h.leads input (length output))) (λ n. record { number = n; kept = post h leads; lent = output })
    (record { number = 0; kept = post h (lead_after h (tick_input input) leads); lent = shown_after h (tick_input input) leads })
ruled (unusable bytes) (tick input output) = record { number = 6; kept = unusable bytes; lent = output }

abbrev pub outcome_of : Ruled → Outcome
outcome_of done = record { number = done.number; state = kept_bytes done.kept; lent = done.lent }

unfoldable pub trace : Kept → List Call → List Outcome
trace kept [] = []
trace kept (call ∷ calls) = outcome_of (ruled kept call) ∷ trace (ruled kept call).kept calls

-- A list may also begin with bytes that no setup of its own wrote. A good state is read once, here, as the leads that the trace begins with.
unfoldable pub kept_of : List ℕ → Kept
kept_of state = cond (good_post state) (post (head_of state) (leads_of state)) (unusable state)
