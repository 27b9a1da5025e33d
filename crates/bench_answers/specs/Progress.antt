-- How far a piece is answered, and what goes on then. Definitions only.
use Rattle.std.specs.Prelude.{List, ℕ, ◌≤◌, length, take, drop}
use Rattle.bench_answers.specs.Buffers.{kept_in}
use Rattle.bench_answers.specs.Pieces.{Going, Fed, printed_before, fed}
use Rattle.bench_answers.specs.declared.pieces.Carried.{Carried}
use Rattle.bench_answers.specs.declared.pieces.Progress.{Progress}

-- what goes on: the post kept in one buffer, the line begun in the other
abbrev pub going_in : Carried → Going
going_in carried = record { post = kept_in carried.post.leads carried.post.state; begun = take carried.begun.count carried.begun.line }

-- what a piece comes to: the text written so far, and then what its rest comes to
unfoldable pub comes_to : Carried → Progress → List ℕ → List ℕ → Fed
comes_to carried at piece text = printed_before (take at.count text) (fed (going_in carried) (drop at.read piece))

-- what was read is of the piece, and what was written is in the text; that what is kept has room is in its type
abbrev pub Fits : Progress → List ℕ → List ℕ → Type 0
Fits at piece text = (at.read ≤ length piece) × (at.count ≤ length text)
