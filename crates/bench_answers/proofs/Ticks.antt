-- What a tick line comes to, by what the tick made of the beginnings of the buffers. Assumes nothing.
use mathlib.Core.List.{List, ◌++◌}
use mathlib.Core.Path.{◌≡◌, ◌∙◌}
use Prim.Native.Nat.{ℕ, ◌+◌, ◌-◌, ◌≤◌, max}
use native.Mathlib.Omega.{arith}
use lib.ListN.{take, length-replicate, replicate-append-replicate}
use lib.Seq.{take_at}
use borrow.Author.Tests.{ne_eqb}
use Rattle.post.specs.Heads.{most_leads, state_length, input_length, output_length}
use Rattle.post.specs.Calls.{Ticked, tick_of}
use Rattle.bench_line.specs.Answers.{Written, written_of, returned_text, done_text, unknown_text}
use Rattle.bench_answers.specs.Rooms.{output_room}
use Rattle.bench_answers.specs.Posts.{zeros, answer_tick}
use Rattle.bench_answers.specs.Buffers.{kept_in, Left, leaves}

-- of a buffer of zeros a part is so many zeros
zeros_taken : (n m : ℕ) → n ≤ m → take n (zeros m) ≡ zeros n
zeros_taken n m h =
    let all : n + (m - n) ≡ m = omega arith in
    let parts : zeros n ++ zeros (m - n) ≡ zeros m = rw all at (replicate-append-replicate {A = ℕ} n (m - n) 0) in
    rw (← parts) (take_at (zeros n) (zeros (m - n)) n (length-replicate {A = ℕ} n 0))

module _ (leads count : ℕ) (input d text : List ℕ) where
  pub tick_unknown :
      {w : Written}
      → leads ≡ 0
      → w ≡ written_of unknown_text text
      → ◌≡◌ {A = Left} (record { post = kept_in leads d; written = w }) (leaves (answer_tick (kept_in leads d) count input) text)
  unfolding answer_tick kept_in
  tick_unknown z written = rw (z, written)

  module _
      (some : leads ≡ 0 → ⊥) (few : leads ≤ most_leads) (d' : List ℕ) {r : ℕ} {shown : List ℕ}
      (done : ◌≡◌ {A = Ticked} (record { number = r; state = take (state_length leads) d'; output = shown })
      (tick_of (take (state_length leads) d) (take (max (input_length leads) count) input) (take (output_length leads) (zeros output_room))))
    where
      ticked : ◌≡◌ {A = Ticked} (record { number = r; state = take (state_length leads) d'; output = shown })
          (tick_of (take (state_length leads) d) (take (max (input_length leads) count) input) (zeros (output_length leads)))
      ticked = done ∙ rw (zeros_taken (output_length leads) output_room (omega (arith, few)))

      pub tick_done :
          {w : Written}
          → r ≡ 0
          → w ≡ written_of (done_text shown) text
          → ◌≡◌ {A = Left} (record { post = kept_in leads d'; written = w }) (leaves (answer_tick (kept_in leads d) count input) text)
      unfolding answer_tick kept_in
      tick_done z written = rw (ne_eqb leads 0 some, ← ticked, z, written)

      pub tick_refused :
          {w : Written}
          → (r ≡ 0 → ⊥)
          → w ≡ written_of (returned_text r) text
          → ◌≡◌ {A = Left} (record { post = kept_in leads d'; written = w }) (leaves (answer_tick (kept_in leads d) count input) text)
      unfolding answer_tick kept_in
      tick_refused n written = rw (ne_eqb leads 0 some, ← ticked, ne_eqb r 0 n, written)
