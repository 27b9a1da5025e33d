-- Document 01, 'Phases' and 'Dividing the allowance': a tick of the whole post. Its leads are a function from their place,
-- from 0 on. Definitions only.
use Rattle.std.specs.Prelude.{List, ◌++◌, ℕ}
use Rattle.common.specs.Parts.{joined}
use Rattle.little_endian.specs.Numbers.{u32_at}
use Rattle.sharing.specs.Level.{level_of}
use Rattle.lead.specs.Moves.{decide}
use Rattle.lead.specs.Power.{wanted_watts, commanded}
use Rattle.lead.specs.declared.state.Lead.{Lead}
use Rattle.lead.specs.declared.state.Input.{Input}
use Rattle.lead_records.specs.States.{encode}
use Rattle.lead_records.specs.Inputs.{input_of}
use Rattle.lead_records.specs.Outputs.{output_of}
use Rattle.post.specs.Heads.{head_bytes, input_part}
use Rattle.post.specs.declared.head.Head.{Head}

-- what a tick is given: the watts that it may give out (document 01: allowance), and each lead's record of input
pub record TickInput : Type 0 where
  pub limit : ℕ
  pub records : ℕ → List ℕ

-- "Input: allowance (4), then 104 a lead"
abbrev pub tick_input : List ℕ → TickInput
tick_input input = record { limit = u32_at input 0; records = input_part input }

abbrev pub input_at : Head → TickInput → ℕ → Input
input_at h i k = input_of (i.records k) h.ratings.resistance

-- "Each tick, by the phase in which it began": each lead decides by itself
unfoldable pub decided_at : Head → TickInput → (ℕ → Lead) → ℕ → Lead
decided_at h i leads k = decide h.ratings (input_at h i k) (leads k)

-- "With every lead's new phase": what lead k wants, in watts
abbrev pub want_after : Head → TickInput → (ℕ → Lead) → ℕ → ℕ
want_after h i leads k = wanted_watts h.ratings (decided_at h i leads k)

-- the level of the tick
unfoldable pub level_after : Head → TickInput → (ℕ → Lead) → ℕ
level_after h i leads = level_of h.leads (want_after h i leads) i.limit

-- lead k after the tick
unfoldable pub lead_after : Head → TickInput → (ℕ → Lead) → ℕ → Lead
lead_after h i leads k = commanded h.ratings (level_after h i leads) (decided_at h i leads k)

-- what lead k shows: as the tick leaves it, and, 2026-05, "with this tick's level"
abbrev pub shown_at : Head → TickInput → (ℕ → Lead) → ℕ → List ℕ
shown_at h i leads k =
    output_of h.ratings (level_after h i leads) (input_at h i k).contacts.lock (input_at h i k).reading (lead_after h i leads k)

-- what the tick shows: every lead as it leaves it
unfoldable pub shown_after : Head → TickInput → (ℕ → Lead) → List ℕ
shown_after h i leads = joined h.leads (λ k. shown_at h i leads k)

-- the post's bytes
unfoldable pub post_bytes : Head → (ℕ → Lead) → List ℕ
post_bytes h leads = head_bytes h ++ joined h.leads (λ k. encode (leads k))
