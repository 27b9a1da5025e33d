-- `post::ticks::carry_out` meets its contract. By what nothing refused says, and the table of turns as the post after the tick. Assumes nothing.
use mathlib.Core.Path.{refl, ap, ◌∙◌}
use native.Mathlib.Omega.{arith}
use Rattle.sharing.specs.Level.{places, want_of, level_of}
use Rattle.post.specs.Rules.{tick_input}
use Rattle.post.proofs.Taken.{tick_taken}
use Rattle.post.proofs.Divided.{state_after_lem, shown_after_lem}
use Rattle.post.proofs.ticks.carry_out.Goals as goal

pub read-head-requires : goal.read-head-requires
read-head-requires c =
    omega (arith, (tick_taken refl c.requires).state_length_lem)

pub u32_at-limit-requires : goal.u32_at-limit-requires
u32_at-limit-requires c =
    omega (arith, (tick_taken refl c.requires).input_length_lem)

pub decide_all-decided-requires : goal.decide_all-decided-requires
decide_all-decided-requires c =
    let taken = tick_taken c.read-head.ensures c.requires in
    record { posts = (taken.head.few_leads, taken.head.allowed); lengths = (taken.state_length_lem, taken.input_length_lem) }

pub write_leads-requires : goal.write_leads-requires
write_leads-requires c =
    let taken = tick_taken c.read-head.ensures c.requires in
    (taken.head.few_leads, taken.state_length_lem, taken.output_length_lem)

pub returns : goal.returns
returns c =
    let state = c.args.state.now in
    let input = tick_input c.args.input.now in
    let few = (tick_taken c.read-head.ensures c.requires).head.few_leads in
    let decided = c.decide_all-decided.result in
    let levelled = c.level.ensures ∙ ap (level_of places (want_of decided.wants)) c.u32_at-limit.ensures in
    record {
      state_after = c.write_leads.ensures.state_after ∙ state_after_lem state input c.read-head.ensures few decided.turns decided.wants c.level.result
          c.decide_all-decided.ensures.turns c.decide_all-decided.ensures.wants levelled;
      output_after = c.write_leads.ensures.output_after ∙ shown_after_lem state input c.read-head.ensures few decided.turns decided.wants c.level.result
          c.decide_all-decided.ensures.turns c.decide_all-decided.ensures.wants levelled;
    }
