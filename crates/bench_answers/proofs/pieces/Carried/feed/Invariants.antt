-- `bench_answers::pieces::Carried::feed` meets its contract. The loop's invariant: what the piece comes to is what is written, and then
-- what its rest comes to. Assumes nothing.
use mathlib.Core.Path.{◌≡◌}
use Prim.Native.Nat.{◌-◌, ◌≤◌, min}
use lib.ListN.{length}
use Rattle.bench_answers.specs.Rooms.{answer_room}
use Rattle.bench_answers.specs.Pieces.{fed}
use Rattle.bench_answers.specs.Progress.{going_in, comes_to, Fits}
use Rattle.bench_answers.proofs.pieces.Carried.feed.Given as goal

abbrev pub invariant-loop-at : goal.invariant-loop-at
invariant-loop-at l =
    Fits l.at l.piece l.text
    × (length l.text ≡ length l.initial.text)
    × (answer_room ≤ length l.text)
    × (min 1 l.at.count ≤ l.at.read)
    × (comes_to l.self l.at l.piece l.text ≡ fed (going_in l.initial.self) l.piece)

abbrev pub decreases-loop-at : goal.decreases-loop-at
decreases-loop-at l =
    length l.piece - l.at.read
