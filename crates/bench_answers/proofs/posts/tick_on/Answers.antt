-- `bench_answers::posts::tick_on` meets its contract. The beginnings of the buffers come back as the tick left them. Assumes nothing.
use mathlib.Core.Path.{◌≡◌, sym, ◌∙◌}
use Prim.Native.Nat.{min, max}
use native.Mathlib.Omega.{arith}
use lib.ListN.{length}
use lib.Seq.{length-take-le}
use Rattle.post.specs.Heads.{input_length}
use Rattle.bench_answers.proofs.Fronts.{tick_front}
use Rattle.bench_answers.proofs.posts.tick_on.Goals as goal

pub slice_bounds-tick-end-2 : goal.slice_bounds-tick-end-2
slice_bounds-tick-end-2 c =
    let l = c.state_length-end in
    sym
    (length-take-le l.result c.args.state.now (omega (arith, l.ensures)))

pub slice_bounds-tick-end-3 : goal.slice_bounds-tick-end-3
slice_bounds-tick-end-3 c =
    sym
    (length-take-le c.min-length.result c.args.input.now (omega (arith, c.min-length.ensures)))

pub slice_bounds-tick-end-5 : goal.slice_bounds-tick-end-5
slice_bounds-tick-end-5 c =
    let l = c.output_length-shown in
    sym
    (length-take-le l.result c.args.output.now (omega (arith, l.ensures)))

pub returns : goal.returns
returns c =
    let t = c.tick in
    let l = c.state_length-end in
    let a = c.args in
    let much : c.min-length.result ≡ min (max (input_length a.leads) a.count) (length a.input.now) =
    c.min-length.ensures ∙ rw (c.max.ensures, c.input_length.ensures) in
    tick_front a.state.now a.input.now a.output.now t.new.state t.new.output (max (input_length a.leads) a.count)
    l.ensures (omega (arith, l.ensures)) (omega arith) much c.output_length-shown.ensures
    (omega (arith, c.output_length-shown.ensures)) (omega arith) t.ensures
