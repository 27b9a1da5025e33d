-- `post::refusals::are_good_states` meets its contract. The chunks are the records behind the head. Assumes nothing.
use mathlib.Core.Bool.{true, false}
use mathlib.Core.Path.{◌≡◌}
use native.Mathlib.Omega.{arith}
use Rattle.std.proofs.Common.{rules, tests}
use Rattle.std.proofs.lemmas.Iterator.{YieldsList-from_slice, cases_from_all}
use Rattle.lead_records.specs.States.{state_size, good_state}
use Rattle.post.specs.Heads.{head_size}
use Rattle.post.proofs.Chunks.{all_parts}
use Rattle.post.proofs.refusals.are_good_states.Goals as goal

pub returns : goal.returns
returns c =
    let a = c.args in
    let e = c.as_chunks.ensures in
    all_parts head_size state_size a.head.leads a.state.now (omega arith) c.requires e.front (good_state a.head.ratings) c.all.result e.front_len
    (cases_from_all _ _ _ (λ x. good_state a.head.ratings x ≡ true) (λ x. good_state a.head.ratings x ≡ false) c.all.ensures.ran (YieldsList-from_slice c.as_chunks.result.0.now cc)
    (λ x q k. search (rules, tests)) (λ x q k. search (rules, tests)))
