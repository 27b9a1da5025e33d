-- `post::turns::decide_all` meets its contract. The loop's invariant: the places passed have their turn, the others are empty, and the wants
-- are the turns'. Assumes nothing.
use mathlib.Core.List.{[], ◌∷◌}
use mathlib.Core.Path.{◌≡◌, refl, sym, ap, ◌∙◌}
use Prim.Native.Nat.{ℕ, ◌<◌}
use native.Mathlib.Omega.{arith}
use lib.ListN.{length-set}
use Rattle.lead_records.specs.States.{state_size}
use Rattle.lead_records.specs.Inputs.{input_size}
use Rattle.post.specs.Heads.{head_size, limit_size}
use Rattle.post.specs.Rules.{tick_input}
use Rattle.post.specs.Calls.{leads_of}
use Rattle.post.specs.Turns.{turn_at, among}
use Rattle.post.proofs.Chunks.{many, record_at}
use Rattle.post.proofs.Tables.{turn_of, table_of_empty, among_past, among_more, wanted_none, wanted_more}
use Rattle.post.proofs.turns.decide_all.Goals as goal

pub loop-i-init : goal.loop-i-init
loop-i-init c =
    let a = c.args in
    let r = c.empty-turns.result in
    let empty = table_of_empty {r = r} c.empty-turns.ensures in (
      omega arith,
      refl,
      refl,
      λ k. empty k ∙ sym (among_past (turn_at a.head (tick_input a.input.now) (leads_of a.state.now)) 0 k (omega arith)),
      wanted_none a.head.ratings (r ∷ r ∷ r ∷ r ∷ []) empty,
    )

pub decided-turn-requires : goal.decided-turn-requires
decided-turn-requires c = c.requires.posts.1

pub loop-i-preserved : goal.loop-i-preserved
loop-i-preserved c =
    let d = c.decided-turn in
    let a = c.args in
    let i = c.loop-i.i in
    let states = c.as_chunks.ensures in
    let inputs = c.as_chunks-2.ensures in
    let below : i < a.head.leads =
    omega (arith, states.front_len, many head_size state_size a.head.leads a.state.now (omega arith) c.requires.lengths.0 states.front) in
    let e : d.result ≡ turn_at a.head (tick_input a.input.now) (leads_of a.state.now) i =
    d.ensures
    ∙ turn_of a.head a.state.now a.input.now i
    (record_at head_size state_size a.head.leads a.state.now (omega arith) c.requires.lengths.0 states.front i _ below)
    (record_at limit_size input_size a.head.leads a.input.now (omega arith) c.requires.lengths.1 inputs.front i _ below) in (
      omega arith,
      length-set c.loop-i.turns i d.result ∙ c.loop-i.invariant.1,
      length-set c.loop-i.wants i c.wanted_watts.result ∙ c.loop-i.invariant.2,
      among_more
          (turn_at a.head (tick_input a.input.now) (leads_of a.state.now)) i c.loop-i.turns d.result (omega arith) c.loop-i.invariant.3 e,
      wanted_more a.head.ratings i c.loop-i.turns c.loop-i.wants d.result c.wanted_watts.result (omega arith) (omega arith)
          c.wanted_watts.ensures c.loop-i.invariant.4,
    )

pub returns : goal.returns
returns c =
    let a = c.args in
    let states = c.as_chunks.ensures in
    let e : c.loop-i.i ≡ a.head.leads =
    omega (arith, states.front_len, many head_size state_size a.head.leads a.state.now (omega arith) c.requires.lengths.0 states.front) in
    record {
      turns = λ j.
          c.loop-i.invariant.3 j ∙ ap (λ (n : ℕ). among n (turn_at a.head (tick_input a.input.now) (leads_of a.state.now)) j) e;
      wants = c.loop-i.invariant.4;
    }
