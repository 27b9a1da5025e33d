-- Document 01, 'The post's two calls': the number that each call returns, and every byte that it leaves. Definitions only.
use Rattle.std.specs.Prelude.{List, ◌++◌, ℕ, length, take}
use Rattle.common.specs.Parts.{joined}
use Rattle.common.specs.Refusals.{refusal_of, done_unless}
use Rattle.lead.specs.Leads.{fresh}
use Rattle.lead.specs.declared.state.Lead.{Lead}
use Rattle.lead_records.specs.States.{decode, encode}
use Rattle.post.specs.Heads.{head_size, head_of, state_part}
use Rattle.post.specs.Rules.{TickInput, tick_input, lead_after, shown_after, post_bytes}
use Rattle.post.specs.Refusals.{setup_rows, tick_rows}
use Rattle.post.specs.declared.head.Head.{Head}

-- what setup leaves of its state
pub record SetUp : Type 0 where
  pub number : ℕ
  pub state : List ℕ

-- "Setup writes a fresh state: the head as given, the resistance's bits kept even for minus zero, phase 0, other lead bytes 0."
-- A refusal changes no byte.
unfoldable pub setup_of : Head → List ℕ → SetUp
setup_of h state =
    done_unless (refusal_of (setup_rows h (length state))) (λ n. record { number = n; state = state })
    (record { number = 0; state = post_bytes h (λ k. fresh) })

-- lead k, read from the state
unfoldable pub leads_of : List ℕ → ℕ → Lead
leads_of state k = decode (state_part state k)

-- the state after a tick: the head stays as it is, each lead's record is written
abbrev pub state_after : List ℕ → TickInput → List ℕ
state_after state i =
    take head_size state ++ joined (head_of state).leads (λ k. encode (lead_after (head_of state) i (leads_of state) k))

-- what a tick leaves of its state and its output
pub record Ticked : Type 0 where
  pub number : ℕ
  pub state : List ℕ
  pub output : List ℕ

-- A refusal changes no byte.
unfoldable pub tick_of : List ℕ → List ℕ → List ℕ → Ticked
tick_of state input output =
    done_unless (refusal_of (tick_rows state input (length output))) (λ n. record { number = n; state = state; output = output })
    (record {
      number = 0;
      state = state_after state (tick_input input);
      output = shown_after (head_of state) (tick_input input) (leads_of state);
    })
