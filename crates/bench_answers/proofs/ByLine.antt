-- A line's answer by what the line says. Assumes nothing.
use mathlib.Core.List.{List}
use mathlib.Core.Path.{◌≡◌}
use Prim.Native.Nat.{ℕ}
use Rattle.std.specs.Prelude.{Option}
use Rattle.bench_line.specs.Lines.{says, parsed_of}
use Rattle.bench_line.specs.declared.lines.Line.{Line}
use Rattle.bench_answers.specs.Rooms.{input_room}
use Rattle.bench_answers.specs.Posts.{Kept, zeros, by_line, answer_to}

pub by_line_lem :
    (kept : Kept) (line : List ℕ) (said : Option Line) {l : Option Line} {input : List ℕ}
    → says l input ≡ parsed_of line (zeros input_room)
    → l ≡ said
    → by_line kept said input ≡ answer_to kept line
unfolding answer_to
by_line_lem kept line said p e = rw (← p, e)
